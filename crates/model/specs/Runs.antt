-- Document 01, "The list of calls and the plain tree", and term 3 of the customer: the list of calls, and demand 3
-- sentence by sentence.
use Rattle.std.specs.Prelude.{◌≡◌, Bool, true, false, ◌&&◌, ◌||◌, List, [], ◌∷◌, ◌++◌, ℕ, ◌≤◌, ◌<◌}
use Rattle.std.proofs.Math.Option.{Option, none, some}
use Rattle.model.specs.Bytes.{Bytes, same}
use Rattle.model.specs.Path.{Path, below}
use Rattle.model.specs.Map.{lookup}
use Rattle.model.specs.Tree.{Entry, Table, Tree, View, shown, kind, is_nothing}
use Rattle.model.specs.Listing.{is_listing, tree_in}
use Rattle.model.specs.Table.{entry_bytes, encode, padded, charge, is_table, table_in}
use Rattle.model.specs.Checks.{pass}
use Rattle.model.specs.Content.{content_of, appended, spliced}
use Rattle.model.specs.Calls.{Call, write, append, write_inside, mkdir, unlink, rmdir, rename, value_of}
use Rattle.model.specs.Answer.{Reply, accepted, refused}
use Rattle.model.specs.Outcome.{Store, Request, Outcome, outcome, opened}
use Rattle.model.specs.Plain.{plain_rules, plain_effect, visible_tree}
use Rattle.model.specs.Cause.{Cause}
use Rattle.model.specs.Posix.{Posix}

-- a table with its record, and the plain tree
pub record State : Type 0 where
  pub store : Store
  pub plain : Tree

-- "It is fed each call's paths, flags, data and mtime, and whether the call was accepted"; "A refused call does
-- nothing."
abbrev pub fed : Reply → Call → Tree → Tree
fed (accepted v) c s = plain_effect s c
fed (refused n w k) c s = s

-- "Each call gets the table and record that the last one returned or, refused, left"
abbrev pub step : Bytes → Request → State → State
step listing q x = let o = outcome listing q x.store in record
    { store = o.store; plain = fed o.reply q.call x.plain }

abbrev pub after : Bytes → List Request → State → State
after listing [] x = x
after listing (q ∷ qs) x = after listing qs (step listing q x)

-- "The list starts from what an accepted opening gave"; the plain tree "begins as the listing"
abbrev pub begin : Bytes → ℕ → Bytes → State
begin listing E buffer = record { store = (opened E buffer).store; plain = tree_in listing }

-- #101, #112: the list goes on from a table that is there; the plain tree "begins as the tree that the table shows"
abbrev pub resume : Bytes → Store → State
resume listing s = record { store = s; plain = visible_tree (table_in s.table s.rec) (tree_in listing) }

-- a call's mtime argument, and those of a list of calls, are 64-bit numbers: they are, in every program
abbrev pub Word : ℕ → Type 0
Word n = n < 0x1_0000_0000_0000_0000

abbrev pub WordedCall : Call → Type 0
WordedCall (write p m c) = Word m
WordedCall (append p m d b) = Word m
WordedCall (write_inside p m o d) = Word m
WordedCall (mkdir p up ok m) = Word m
WordedCall (unlink p) = Unit {0}
WordedCall (rmdir p) = Unit {0}
WordedCall (rename a b) = Unit {0}

abbrev pub WordedCalls : List Request → Type 0
WordedCalls [] = Unit {0}
WordedCalls (q ∷ qs) = WordedCall q.call × WordedCalls qs

-- the same entries and record in a table buffer of n bytes, beside the same plain tree
abbrev pub moved_to : ℕ → State → State
moved_to n x = record {
  store = record { table = padded n (encode (table_in x.store.table x.store.rec)); rec = x.store.rec };
  plain = x.plain;
}

-- #108, #111: "tables that our calls built": what an accepted opening gave, what a call, accepted or refused, left of
-- such a table, and (#101) such a table written to a file and read again, into a buffer that it fits
pub data Built (listing : Bytes) (E : ℕ) : State → Type 0 where
  by_opening : (buffer : Bytes) (v : ℕ) → (opened E buffer).reply ≡ accepted v
      → Built listing E (begin listing E buffer)
  by_call : (x : State) (q : Request) → WordedCall q.call → Built listing E x → Built listing E (step listing q x)
  by_reading : (x : State) (n : ℕ) → x.store.rec.used ≤ n → n ≤ 16777216 → Built listing E x
      → Built listing E (moved_to n x)

-- of every call of the list, with the state that it meets
abbrev pub Throughout : (State → Request → Type 0) → Bytes → State → List Request → Type 0
Throughout P listing x [] = Unit {0}
Throughout P listing x (q ∷ qs) = P x q × Throughout P listing (step listing q x) qs

-- the entries in a table's bytes; the bytes of the entry at a path, or the lack of one
abbrev pub entries_of : Store → Table
entries_of s = table_in s.table s.rec

abbrev pub kept_bytes : Path → Option Entry → Option Bytes
kept_bytes k none = none
kept_bytes k (some e) = some (entry_bytes k e)

-- "a path it names, … a parent that its mkdir made, or below its rename's source or destination"; "A parent that mkdir
-- made is an ancestor that showed nothing before the call."
abbrev pub touches : View → Call → Path → Bool
touches f (write p m c) k = same p k
touches f (append p m d b) k = same p k
touches f (write_inside p m o d) k = same p k
touches f (mkdir p up ok m) k = same p k || (below k p && is_nothing (kind f k))
touches f (unlink p) k = same p k
touches f (rmdir p) k = same p k
touches f (rename a b) k = same a k || (same b k || (below a k || below b k))

module _ (listing : Bytes) where
  -- "No call in the list is accepted that the plain tree's rules refuse"
  abbrev pub AcceptedByRules : State → Request → Type 0
  AcceptedByRules x q = (v : ℕ) → (outcome listing q x.store).reply ≡ accepted v
      → plain_rules x.plain q.call ≡ pass

  -- "and none that they allow is refused by 4 to 10, or by another number without that number's cause": only 1, 2, 11,
  -- 12 and 13 have a `Cause`, so 17 and 18 too are given only where the plain tree's rules refuse
  abbrev pub RefusedWithCause : State → Request → Type 0
  RefusedWithCause x q =
      (n w k : ℕ) → (outcome listing q x.store).reply ≡ refused n w k → plain_rules x.plain q.call ≡ pass
      → Cause listing q x.store n

  -- "Each call leaves every path's entry, or lack of one, as it was, other than at …"; "An entry stays as it was if all
  -- its bytes do."
  abbrev pub LeavesOthers : State → Request → Type 0
  LeavesOthers x q = (k : Path) → touches (shown (entries_of x.store) (tree_in listing)) q.call k ≡ false
      → kept_bytes k (lookup (entries_of (step listing q x).store) k) ≡ kept_bytes k (lookup (entries_of x.store) k)

  -- "An accepted call that changes the table ends with a charge within its limit."
  abbrev pub WithinLimit : State → Request → Type 0
  WithinLimit x q = (v : ℕ) → (outcome listing q x.store).reply ≡ accepted v
      → ((step listing q x).store.table ≡ x.store.table → ⊥)
      → (step listing q x).store.rec.charge ≤ q.limit

  -- "A refused call changes no lent buffer and not the table's record."
  abbrev pub RefusedLeaves : State → Request → Type 0
  RefusedLeaves x q = (n w k : ℕ) → (outcome listing q x.store).reply ≡ refused n w k
      → ((outcome listing q x.store).store ≡ x.store) × ((outcome listing q x.store).work ≡ q.work)

  -- "Over a malformed listing, which shows no tree, every call is refused and the table stays empty."
  abbrev pub RefusedAndEmpty : State → Request → Type 0
  RefusedAndEmpty x q = ((v : ℕ) → (outcome listing q x.store).reply ≡ accepted v → ⊥)
      × (entries_of (step listing q x).store ≡ [])

  -- term 2: "what an accepted mkdir, unlink, rmdir or rename does to the visible tree equals a definition written from"
  -- POSIX
  abbrev pub DoesAsPosix : State → Request → Type 0
  DoesAsPosix x q = (v : ℕ) → (outcome listing q x.store).reply ≡ accepted v
      → Posix (shown (entries_of x.store) (tree_in listing))
      (shown (entries_of (step listing q x).store) (tree_in listing)) q.call

-- Demand 3, one statement over the list as a whole. `start` is what an accepted opening gave.
pub record Demand3 (listing : Bytes) (start : State) (calls : List Request) : Type 0 where
  -- the table and the record are well-formed
  pub well_formed : let s = (after listing calls start).store in is_table s.table s.rec ≡ true
  -- "the charge equals the sum worked out afresh from the entries", with the E of the opening
  pub charge_afresh : let s = (after listing calls start).store in s.rec.charge
      ≡ charge start.store.rec.entry_size (entries_of s)
  -- "the visible tree equals document 01's plain tree", "at every path but the root"
  pub same_tree : let x = after listing calls start in
      is_listing listing ≡ true → (p : Path) → (p ≡ [] → ⊥) → shown (entries_of x.store) (tree_in listing) p
      ≡ lookup x.plain p
  pub accepted_by_rules : Throughout (AcceptedByRules listing) listing start calls
  pub refused_with_cause : Throughout (RefusedWithCause listing) listing start calls
  pub leaves_others : Throughout (LeavesOthers listing) listing start calls
  pub within_limit : Throughout (WithinLimit listing) listing start calls
  pub refused_leaves : Throughout (RefusedLeaves listing) listing start calls
  pub malformed : is_listing listing ≡ false → Throughout (RefusedAndEmpty listing) listing start calls

-- Demand 3 and POSIX from any state on: what a table, its record and its plain tree have in common,
pub record Agrees (listing : Bytes) (E : ℕ) (x : State) : Type 0 where
  pub well_formed : is_table x.store.table x.store.rec ≡ true
  -- "the charge equals the sum worked out afresh from the entries"
  pub charge_afresh : x.store.rec.charge ≡ charge E (entries_of x.store)
  -- "the visible tree equals document 01's plain tree", "at every path but the root"
  pub same_tree : is_listing listing ≡ true → (p : Path) → (p ≡ [] → ⊥)
      → shown (entries_of x.store) (tree_in listing) p ≡ lookup x.plain p

-- what holds of each call in the state that it meets,
pub record DoesAsSaid (listing : Bytes) (x : State) (q : Request) : Type 0 where
  pub accepted_by_rules : AcceptedByRules listing x q
  pub refused_with_cause : RefusedWithCause listing x q
  pub leaves_others : LeavesOthers listing x q
  pub within_limit : WithinLimit listing x q
  pub refused_leaves : RefusedLeaves listing x q
  pub as_posix : DoesAsPosix listing x q
  -- "Over a malformed listing … every call is refused"
  pub malformed : is_listing listing ≡ false → (v : ℕ) → (outcome listing q x.store).reply ≡ accepted v → ⊥

-- and both over the list as a whole
pub record RunFrom (listing : Bytes) (start : State) (calls : List Request) : Type 0 where
  pub each : Throughout (DoesAsSaid listing) listing start calls
  pub in_the_end : Agrees listing start.store.rec.entry_size (after listing calls start)

-- #103: "each of the two, once accepted, counts as a write of the whole new content": the call that a call counts as,
-- where f is what is visible
abbrev pub counts_as : View → Call → Call
counts_as f (write p m c) = write p m c
counts_as f (append p m d b) = write p m (appended (f p) d b)
counts_as f (write_inside p m o d) = write p m (spliced o d (content_of (f p) []))
counts_as f (mkdir p up ok m) = mkdir p up ok m
counts_as f (unlink p) = unlink p
counts_as f (rmdir p) = rmdir p
counts_as f (rename a b) = rename a b

-- another call in the place of the one that is asked for, with its limit and its work buffer
abbrev pub instead_of : Request → Call → Request
instead_of q c = record { call = c; limit = q.limit; work = q.work }

-- so made, the call c is accepted and leaves the same
pub record LeavesTheSame (listing : Bytes) (s : Store) (q : Request) (c : Call) : Type 0 where
  pub reply : (outcome listing (instead_of q c) s).reply ≡ accepted (value_of c)
  pub store : (outcome listing (instead_of q c) s).store ≡ (outcome listing q s).store
  pub work : (outcome listing (instead_of q c) s).work ≡ (outcome listing q s).work

-- One call as its caller has it: what was asked, and the reply, the table with its record and the work buffer that were
-- there after it.
pub record Exchange : Type 0 where
  pub request : Request
  pub seen : Outcome

-- Calls made one after the other, from the store s on: each did what the definition has, and the next one was given the
-- table and the record that were there after it. Each brings its own limit and work buffer.
abbrev pub Chained : Bytes → Store → List Exchange → Type 0
Chained listing s [] = Unit {0}
Chained listing s (x ∷ xs) = (x.seen ≡ outcome listing x.request s) × Chained listing x.seen.store xs

-- what was asked, in its order
abbrev pub requests_in : List Exchange → List Request
requests_in [] = []
requests_in (x ∷ xs) = x.request ∷ requests_in xs

-- the table with its record that the caller has in the end
abbrev pub last_seen : Store → List Exchange → Store
last_seen s [] = s
last_seen s (x ∷ xs) = last_seen x.seen.store xs

-- Demand 3 and POSIX on what a caller saw
pub record HoldsOfChain (listing : Bytes) (start : State) (chain : List Exchange) : Type 0 where
  pub demand_3 : Demand3 listing start (requests_in chain)
  pub posix : Throughout (DoesAsPosix listing) listing start (requests_in chain)
  -- after each call there was what it does in the state that the calls before it reach
  pub each : (before : List Exchange) (x : Exchange) (behind : List Exchange) → chain ≡ before ++ (x ∷ behind)
      → x.seen ≡ outcome listing x.request (after listing (requests_in before) start).store
  -- and in the end there is what the list of calls leaves
  pub last : last_seen start.store chain ≡ (after listing (requests_in chain) start).store
