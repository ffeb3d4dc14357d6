-- The shape of every refusal: its number is one of document 01's thirteen or of #103's two, and its path and length are those of the table in "Turning a call
-- down".
-- Of the changing calls, the queries and opening, for every input: what the bytes are, and whether a call built them, is not asked.
use mathlib.Core.Path.{◌∙◌, ◌≡◌, ap, ap₂, refl, subst₃, sym}
use mathlib.Core.List.{List, [], ◌∷◌}
use mathlib.Core.Bool.{Bool, true, false, cond, ◌||◌}
use mathlib.Core.Option.{Option, none, some}
use Prim.Native.Nat.{ℕ, ◌+◌, ◌≤◌, ◌-◌}
use lib.Dec.{T, leb, ltb, eqb, leb→le}
use lib.ListN.{length}
use Rattle.model.specs.Bytes.{Bytes, every, same}
use Rattle.model.specs.Path.{Path, short, is_path, ancestors, below}
use Rattle.model.specs.Map.{lookup, keys, rekey}
use Rattle.model.specs.Tree.{Node, Entry, own, reference, directory, deleted, Table, Tree, View, shown, Kind, nothing, a_directory, a_file, a_link, kind, is_directory}
use Rattle.model.specs.Table.{charge, is_table, table_in, sized}
use Rattle.model.specs.Listing.{is_listing, tree_in}
use Rattle.model.specs.Checks.{Check, pass, refuse, ◌then◌, unless, form, parent_at, parents_in, parent_checks, write_at, ancestor_at, ancestors_in, mkdir_parents, mkdir_at, unlink_at, unlink_entry, not_root, visible_child, no_visible_child, directory_at, rmdir_entry, Memory, limited, unlimited, charged}
use Rattle.model.specs.Rename.{not_link, not_deleted, no_clash, present, if_directory, planned, plan, budget, Walk, sum, over_budget, at_link, stopped, walk_from, walked, keys_fit, carried, moved, rename_paths, rename_types, rename_memory, onto_itself, rename_checks}
use Rattle.model.specs.Content.{is_own, needed, appended, append_memory, own_at}
use Rattle.model.specs.Calls.{Call, write, append, write_inside, mkdir, unlink, rmdir, rename, changed, forms, rules, value_of, Query, says}
use Rattle.model.specs.Answer.{accepted, refused}
use Rattle.model.specs.Outcome.{Store, Request, lent, room, verdict, settle, outcome, answered, ask, opened}
use Rattle.model.proofs.Orders.{bot, yea, nay, test, mem, same_refl, mem_ancestors}

-- the paths of a call: "Path is 0 (only, or source) or 1 (destination)"
pub data Names : Call → ℕ → Path → Type 0 where
  written : (p : Path) (m : ℕ) (d : Bytes) → Names (write p m d) 0 p
  added : (p : Path) (m : ℕ) (d b : Bytes) → Names (append p m d b) 0 p
  inside : (p : Path) (m o : ℕ) (d : Bytes) → Names (write_inside p m o d) 0 p
  made : (p : Path) (up ok : Bool) (m : ℕ) → Names (mkdir p up ok m) 0 p
  unlinked : (p : Path) → Names (unlink p) 0 p
  removed : (p : Path) → Names (rmdir p) 0 p
  source : (a b : Path) → Names (rename a b) 0 a
  destination : (a b : Path) → Names (rename a b) 1 b

-- what a call may be refused with: number, path and length
pub data Shaped (c : Call) : (number path len : ℕ) → Type 0 where
  -- "table, record, E above 4,096 or work buffer malformed or too short | 1 | 0, 0"
  table : Shaped c 1 0 0
  -- "listing malformed | 2 | 0, 0"
  listing : Shaped c 2 0 0
  -- "path malformed | 3 | path, 0"
  malformed : (w : ℕ) (p : Path) → Names c w p → Shaped c 3 w 0
  -- "link met, or root given | 4 | path, length", "not found | 5 | path, length", "exists | 6 | path, length", "not a directory | 7 | path, length",
  -- "is a directory | 8 | path, length", "not empty (a link counts as a child) | 9 | path, length"; "Length is that path's"
  at_path : (n w : ℕ) (p : Path) → 4 ≤ n → n ≤ 9 → Names c w p → Shaped c n w (length p)
  -- "not a directory | 7 | path, length": "or the ancestor's in mkdir with parents"
  at_ancestor : (p q : Path) (ok : Bool) (m : ℕ) → c ≡ mkdir p true ok m → below q p ≡ true → Shaped c 7 0 (length q)
  -- "destination below source | 10 | 0, length"
  below_source : (a b : Path) → c ≡ rename a b → Shaped c 10 0 (length a)
  -- "limit | 11 | 0, 0"
  limit : Shaped c 11 0 0
  -- "a moved key above 512 bytes or 32 components | 12 | 0, 0"
  key_too_long : (a b : Path) → c ≡ rename a b → Shaped c 12 0 0
  -- "entries after the call longer than the table buffer | 13 | 0, 0"
  no_room : Shaped c 13 0 0
  -- #103: "Lent bytes whose count isn't the recorded size … are 17"; "an offset whose sum with the data length passes 2^64 − 1 is 18"
  lent_count : (p : Path) (m : ℕ) (d b : Bytes) → c ≡ append p m d b → Shaped c 17 0 0
  range_too_large : (p : Path) (m o : ℕ) (d : Bytes) → c ≡ write_inside p m o d → Shaped c 18 0 0

-- a check that passes, or refuses with that shape
data Well (c : Call) : Check → Type 0 where
  passes : Well c pass
  refuses : {n w k : ℕ} → Shaped c n w k → Well c (refuse n w k)

-- the checks that stand in every order
module _ {c : Call} where
  infixr 30 ◌and◌
  ◌and◌ : {x y : Check} → Well c x → Well c y → Well c (x then y)
  passes and g = g
  refuses h and g = refuses h

  well_unless : (n : ℕ) (b : Bool) → Shaped c n 0 0 → Well c (unless n b)
  well_unless n true h = passes
  well_unless n false h = refuses h

  well_cond : {x y : Check} (b : Bool) → Well c x → Well c y → Well c (cond b x y)
  well_cond true h g = h
  well_cond false h g = g

  well_charged : (m : Memory) (t : Table) → Well c (charged m t)
  well_charged (limited E z) t = well_unless 11 (leb (charge E t) z) limit
  well_charged unlimited t = passes

  well_budget : (m : Memory) (t : Table) (o : Option Node) (n : ℕ) → Well c (append_memory m t o n)
  well_budget (limited E z) t o n = well_unless 11 (is_own o || leb (charge E t + n) z) limit
  well_budget unlimited t o n = passes

-- the checks at one path of the call
module _ {c : Call} {w : ℕ} {p : Path} (at : Names c w p) where
  here : (n : ℕ) → T (leb 4 n) → T (leb n 9) → Well c (refuse n w (length p))
  here n lo hi = refuses (at_path n w p (leb→le 4 n lo) (leb→le n 9 hi) at)

  well_form : Well c (form w p)
  well_form = well_cond (is_path p) passes (refuses (malformed w p at))

  well_parent : (k : Kind) → Well c (parent_at w (length p) k)
  well_parent nothing = here 5 tt tt
  well_parent a_directory = passes
  well_parent a_file = here 5 tt tt
  well_parent a_link = here 4 tt tt

  well_parents_in : (g : Path → Kind) (qs : List Path) → Well c (parents_in w (length p) g qs)
  well_parents_in g [] = passes
  well_parents_in g (q ∷ qs) = well_parent (g q) and well_parents_in g qs

  well_parents : (f : View) → Well c (parent_checks w f p)
  well_parents f = well_parents_in (kind f) (ancestors p)

  well_empty : (t : Table) (l : Tree) → Well c (no_visible_child w t l p)
  well_empty t l = well_cond (visible_child (shown t l) p (keys t) || visible_child (shown t l) p (keys l)) (here 9 tt tt) passes

  well_not_link : (k : Kind) → Well c (not_link w (length p) k)
  well_not_link nothing = passes
  well_not_link a_directory = passes
  well_not_link a_file = passes
  well_not_link a_link = here 4 tt tt

well_not_root : {c : Call} {w : ℕ} {p : Path} → Names c w p → Well c (not_root w p)
well_not_root {p = []} at = here at 4 tt tt
well_not_root {p = b ∷ p} at = passes

-- the checks at the only path, or at the source
module _ {c : Call} {p : Path} (at : Names c 0 p) where
  well_write_at : (k : Kind) → Well c (write_at (length p) k)
  well_write_at nothing = passes
  well_write_at a_directory = here at 8 tt tt
  well_write_at a_file = passes
  well_write_at a_link = here at 4 tt tt

  well_mkdir_at : {later : Check} (ok : Bool) (k : Kind) → Well c later → Well c (mkdir_at (length p) ok k later)
  well_mkdir_at ok nothing h = h
  well_mkdir_at ok a_directory h = well_cond ok passes (here at 6 tt tt)
  well_mkdir_at ok a_file h = here at 6 tt tt
  well_mkdir_at ok a_link h = here at 4 tt tt

  well_unlink_at : (k : Kind) → Well c (unlink_at (length p) k)
  well_unlink_at nothing = here at 5 tt tt
  well_unlink_at a_directory = here at 8 tt tt
  well_unlink_at a_file = passes
  well_unlink_at a_link = here at 4 tt tt

  well_unlink_entry : {x : Check} (e : Option Entry) → Well c x → Well c (unlink_entry (length p) e x)
  well_unlink_entry none h = h
  well_unlink_entry (some (own m d)) h = passes
  well_unlink_entry (some (reference m z q)) h = passes
  well_unlink_entry (some (directory m)) h = here at 8 tt tt
  well_unlink_entry (some deleted) h = here at 5 tt tt

  well_directory_at : (k : Kind) → Well c (directory_at (length p) k)
  well_directory_at nothing = here at 5 tt tt
  well_directory_at a_directory = passes
  well_directory_at a_file = here at 7 tt tt
  well_directory_at a_link = here at 4 tt tt

  well_rmdir_entry : {x : Check} (e : Option Entry) → Well c x → Well c (rmdir_entry (length p) e x)
  well_rmdir_entry none h = h
  well_rmdir_entry (some (own m d)) h = here at 7 tt tt
  well_rmdir_entry (some (reference m z q)) h = here at 7 tt tt
  well_rmdir_entry (some (directory m)) h = passes
  well_rmdir_entry (some deleted) h = here at 5 tt tt

  well_not_deleted : (e : Option Entry) → Well c (not_deleted (length p) e)
  well_not_deleted none = passes
  well_not_deleted (some (own m d)) = passes
  well_not_deleted (some (reference m z q)) = passes
  well_not_deleted (some (directory m)) = passes
  well_not_deleted (some deleted) = here at 5 tt tt

  well_present : (k : Kind) → Well c (present (length p) k)
  well_present nothing = here at 5 tt tt
  well_present a_directory = passes
  well_present a_file = passes
  well_present a_link = passes

  well_walked : (x : Walk) → Well c (walked (length p) x)
  well_walked (sum n) = passes
  well_walked over_budget = refuses limit
  well_walked (stopped at_link n) = here at 4 tt tt

-- the ancestors of mkdir with parents
module _ (p : Path) (ok : Bool) (m : ℕ) where
  well_ancestor : (q : Path) → below q p ≡ true → (k : Kind) → Well (mkdir p true ok m) (ancestor_at (length q) (length p) k)
  well_ancestor q h nothing = passes
  well_ancestor q h a_directory = passes
  well_ancestor q h a_file = refuses (at_ancestor p q ok m refl h)
  well_ancestor q h a_link = here (made p true ok m) 4 tt tt

  well_ancestors_in : (g : Path → Kind) (qs : List Path) → ((q : Path) → mem q qs ≡ true → below q p ≡ true)
      → Well (mkdir p true ok m) (ancestors_in (length p) g qs)
  well_ancestors_in g [] h = passes
  well_ancestors_in g (q ∷ qs) h =
      well_ancestor q (h q (cc (same_refl q))) (g q)
      and well_ancestors_in g qs (λ k e. h k (elim (test (same q k)) [ yea y ↦ cc | nay y ↦ cc ]))

well_mkdir_parents : (p : Path) (up ok : Bool) (m : ℕ) (f : View) → Well (mkdir p up ok m) (mkdir_parents f p up)
well_mkdir_parents p true ok m f = well_ancestors_in p ok m (kind f) (ancestors p) (λ q h. sym (mem_ancestors p q) ∙ h)
well_mkdir_parents p false ok m f = well_parents (made p false ok m) f

-- what is rename's alone
well_if_directory : {c : Call} {x : Check} (k : Kind) → Well c x → Well c (if_directory k x)
well_if_directory k h = well_cond (is_directory k) h passes

module _ (a b : Path) where
  well_clash : (k j : Kind) → Well (rename a b) (no_clash (length b) k j)
  well_clash k nothing = passes
  well_clash k a_directory = well_cond (is_directory k) passes (here (destination a b) 8 tt tt)
  well_clash k a_file = well_cond (is_directory k) (here (destination a b) 7 tt tt) passes
  well_clash k a_link = passes

  well_plan : (m : Memory) (t : Table) → Well (rename a b) (plan m t a b)
  well_plan (limited E z) t = well_unless 11 (leb (charge E t) z) limit and well_unless 11 (leb (planned a b t) (z - charge E t)) limit
  well_plan unlimited t = passes

  well_keys_fit : (m : Memory) (x : Table) → Well (rename a b) (keys_fit m x)
  well_keys_fit (limited E z) x = well_unless 12 (every short (keys x)) (key_too_long a b refl)
  well_keys_fit unlimited x = passes

  well_paths : (t : Table) (l : Tree) → Well (rename a b) (rename_paths t l a b)
  well_paths t l =
      let f = shown t l in
      let from = source a b in
      let to = destination a b in
      well_not_root from
      and well_not_root to
      and well_parents to f
      and well_not_link to (kind f b)
      and well_parents from f
      and well_not_deleted from (lookup t a)
      and well_not_link from (kind f a)

  well_types : (t : Table) (l : Tree) → Well (rename a b) (rename_types t l a b)
  well_types t l =
      let f = shown t l in
      well_clash (kind f a) (kind f b)
      and well_if_directory (kind f a) (well_if_directory (kind f b) (well_empty (destination a b) t l))
      and well_cond (below a b) (refuses (below_source a b refl)) passes
      and well_present (source a b) (kind f a)

  well_memory : (m : Memory) (t : Table) (l : Tree) → Well (rename a b) (rename_memory m t l a b)
  well_memory m t l =
      let walk = well_walked (source a b) (walk_from t l (budget m t a b) a) in
      well_if_directory (kind (shown t l) a) (well_plan m t and well_if_directory (kind (lookup l) a) walk)
      and well_charged m (moved t l a b)
      and well_keys_fit m (rekey a b (carried t l a))

  well_rename : (m : Memory) (t : Table) (l : Tree) → Well (rename a b) (rename_checks m t l a b)
  well_rename m t l = well_paths t l and well_cond (onto_itself (shown t l) a b) passes (well_types t l and well_memory m t l)

-- 3, and 4 to 12, 17 and 18, of each call
well_forms : (c : Call) → Well c (forms c)
well_forms (write p m d) = well_form (written p m d)
well_forms (append p m d b) = well_form (added p m d b)
well_forms (write_inside p m o d) = well_form (inside p m o d)
well_forms (mkdir p up ok m) = well_form (made p up ok m)
well_forms (unlink p) = well_form (unlinked p)
well_forms (rmdir p) = well_form (removed p)
well_forms (rename a b) = well_form (source a b) and well_form (destination a b)

well_rules : (m : Memory) (t : Table) (l : Tree) (c : Call) → Well c (rules m t l c)
well_rules m t l (write p d x) =
    let f = shown t l in
    let at = written p d x in
    (well_parents at f and well_write_at at (kind f p)) and well_charged m (changed t l (write p d x))
well_rules m t l (append p e d b) =
    let f = shown t l in
    let at = added p e d b in
    ((well_parents at f and well_write_at at (kind f p)) and well_unless 17 (eqb (length b) (needed (f p))) (lent_count p e d b refl))
    and well_budget m t (f p) (length (appended (f p) d b))
    and well_charged m (changed t l (append p e d b))
well_rules m t l (write_inside p e o d) =
    (well_cond (own_at (shown t l) p) passes (here (inside p e o d) 5 tt tt)
    and well_unless 18 (ltb (o + length d) 0x1_0000_0000_0000_0000) (range_too_large p e o d refl))
    and well_charged m (changed t l (write_inside p e o d))
well_rules m t l (mkdir p up ok d) =
    let f = shown t l in
    well_mkdir_at (made p up ok d) ok (kind f p) (well_mkdir_parents p up ok d f and well_charged m (changed t l (mkdir p up ok d)))
well_rules m t l (unlink p) =
    let f = shown t l in
    let at = unlinked p in
    well_unlink_entry at (lookup t p) (well_parents at f and well_unlink_at at (kind f p)) and well_charged m (changed t l (unlink p))
well_rules m t l (rmdir p) =
    let f = shown t l in
    let at = removed p in
    (well_not_root at and well_rmdir_entry at (lookup t p) (well_parents at f and well_directory_at at (kind f p)) and well_empty at t l)
    and well_charged m (changed t l (rmdir p))
well_rules m t l (rename a b) = well_rename a b m t l

well_verdict : (l : Bytes) (q : Request) (s : Store) → Well q.call (verdict l q s)
well_verdict l q s =
    well_unless 1 (lent q s) table
    and well_unless 2 (is_listing l) listing
    and well_forms q.call
    and well_rules (limited s.rec.entry_size q.limit) (table_in s.table s.rec) (tree_in l) q.call
    and well_unless 13 (room l q s) no_room

-- what is said of a refusal is said of an equal one
restated : (S : ℕ → ℕ → ℕ → Type 0) (n w k : ℕ) {n' w' k' : ℕ} → S n' w' k' → refused n' w' k' ≡ refused n w k → S n w k
restated S n w k {n'} {w'} {k'} v e =
    let x : n' ≡ n = cc in
    let y : w' ≡ w = cc in
    let z : k' ≡ k = cc in
    subst₃ S x y z v

-- an answer that accepts is no refusal
pub not_refused : (v n w k : ℕ) → accepted v ≡ refused n w k → ⊥
not_refused v n w k e = bot (cc)

-- every refusal of every changing call
pub shaped : (listing : Bytes) (q : Request) (s : Store) (n w k : ℕ) → (outcome listing q s).reply ≡ refused n w k → Shaped q.call n w k
shaped l q s n w k h = go (well_verdict l q s) h
  where
    go : {x : Check} → Well q.call x → (settle x l q s).reply ≡ refused n w k → Shaped q.call n w k
    go passes e = absurd (not_refused (value_of q.call) n w k e)
    go (refuses v) e = restated (Shaped q.call) n w k v e

-- what a query may be refused with: number, path and length; its path is path 0
pub data ShapedQuery : (number path len : ℕ) → Type 0 where
  -- "table, record, E above 4,096 … malformed or too short | 1 | 0, 0"
  bad_table : ShapedQuery 1 0 0
  -- "listing malformed | 2 | 0, 0"
  bad_listing : ShapedQuery 2 0 0
  -- "path malformed | 3 | path, 0"
  bad_path : ShapedQuery 3 0 0

pub shaped_query : (f : Query) (listing : Bytes) (p : Path) (s : Store) (n w k : ℕ) → ask f listing p s ≡ refused n w k → ShapedQuery n w k
shaped_query f l p s n w k h =
    go (is_table s.table s.rec) (is_listing l) (is_path p) (says f (kind (shown (table_in s.table s.rec) (tree_in l)) p)) h
  where
    go : (a b d y : Bool) → answered (unless 1 a then unless 2 b then cond d pass (refuse 3 0 0)) y ≡ refused n w k → ShapedQuery n w k
    go false b d y e = restated ShapedQuery n w k bad_table e
    go true false d y e = restated ShapedQuery n w k bad_listing e
    go true true false y e = restated ShapedQuery n w k bad_path e
    go true true true y e = absurd (not_refused (cond y 1 0) n w k e)

-- opening: "its one refusal is 1"
pub shaped_opening : (E : ℕ) (t : Bytes) (n w k : ℕ) → (opened E t).reply ≡ refused n w k → (n ≡ 1) × (w ≡ 0) × (k ≡ 0)
shaped_opening E t n w k h = elim (test (sized E (length t))) [ yea e ↦ absurd (bot (cc)) | nay e ↦ (cc, cc, cc) ]

-- "A refused call changes no lent buffer and not the table's record", whatever bytes are given
pub untouched : (listing : Bytes) (q : Request) (s : Store) (n w k : ℕ) → (outcome listing q s).reply ≡ refused n w k
    → ((outcome listing q s).store ≡ s) × ((outcome listing q s).work ≡ q.work)
untouched l q s n w k h = go (verdict l q s) h
  where
    go : (c : Check) → (settle c l q s).reply ≡ refused n w k → ((settle c l q s).store ≡ s) × ((settle c l q s).work ≡ q.work)
    go pass e = absurd (not_refused (value_of q.call) n w k e)
    go (refuse n' w' k') e = (refl, refl)

-- "bad input gets one of document 01's thirteen numbers": 1, then 2, then 3
pub bad_table_refused : (listing : Bytes) (q : Request) (s : Store) → lent q s ≡ false → (outcome listing q s).reply ≡ refused 1 0 0
bad_table_refused l q s h = ap (λ (c : Check). (settle c l q s).reply) (ap (λ (b : Bool). unless 1 b then later) h)
  where
    later : Check
    later = unless 2 (is_listing l) then forms q.call
        then rules (limited s.rec.entry_size q.limit) (table_in s.table s.rec) (tree_in l) q.call then unless 13 (room l q s)

pub bad_listing_refused : (listing : Bytes) (q : Request) (s : Store) → lent q s ≡ true → is_listing listing ≡ false → (outcome listing q s).reply ≡ refused 2 0 0
bad_listing_refused l q s h g = ap (λ (c : Check). (settle c l q s).reply) (ap₂ (λ (a b : Bool). unless 1 a then unless 2 b then later) h g)
  where
    later : Check
    later = forms q.call then rules (limited s.rec.entry_size q.limit) (table_in s.table s.rec) (tree_in l) q.call then unless 13 (room l q s)

pub bad_path_refused : (listing : Bytes) (q : Request) (s : Store) (n w k : ℕ) → lent q s ≡ true → is_listing listing ≡ true → forms q.call ≡ refuse n w k
    → (outcome listing q s).reply ≡ refused n w k
bad_path_refused l q s n w k h g f =
    ap (λ (c : Check). (settle c l q s).reply) (ap₃ (λ (a b : Bool) (c : Check). unless 1 a then unless 2 b then c then later) h g f)
  where
    later : Check
    later = rules (limited s.rec.entry_size q.limit) (table_in s.table s.rec) (tree_in l) q.call then unless 13 (room l q s)

    ap₃ : (f : Bool → Bool → Check → Check) {a a' b b' : Bool} {c c' : Check} → a ≡ a' → b ≡ b' → c ≡ c' → f a b c ≡ f a' b' c'
    ap₃ f x y z = λ i. f (x i) (y i) (z i)
