-- #103: on a table that the calls built, an accepted append or writing inside leaves what a write of the whole new content
-- leaves, which is accepted too. Assumes that the listing's elements are bytes.
use mathlib.Core.Path.{◌≡◌, refl, ap, sym, ◌∙◌}
use Prim.Native.Nat.{ℕ}
use lib.Dec.{leb}
use lib.ListN.{length}
use Rattle.model.specs.Bytes.{Bytes}
use Rattle.model.specs.Tree.{Table, Tree, shown}
use Rattle.model.specs.Listing.{is_listing, tree_in}
use Rattle.model.specs.Table.{encode, padded, record_of}
use Rattle.model.specs.Checks.{Check, pass, unless, write_checks, Memory, limited, charged}
use Rattle.model.specs.Calls.{Call, write, append, write_inside, mkdir, unlink, rmdir, rename, changed, forms, rules}
use Rattle.model.specs.Answer.{accepted}
use Rattle.model.specs.Outcome.{Request, Store, Outcome, lent, room, verdict, settle, outcome}
use Rattle.model.specs.Runs.{State, entries_of, Built, counts_as, instead_of, LeavesTheSame}
use Rattle.model.proofs.Words.{IsBytes}
use Rattle.model.proofs.Invariant.{Inv, then_pass, then_both}
use Rattle.model.proofs.Contents.{append_passed, inside_passed, inside_write}
use Rattle.model.proofs.Reached.{has_passed, accepted_pass}
use Rattle.model.proofs.Built.{built_reached}

-- what a call counts as has the same form, changes the same, and passes too
same_forms : (t : Table) (l : Tree) (c : Call) → forms (counts_as (shown t l) c) ≡ forms c
same_forms t l (write p m x) = refl
same_forms t l (append p m d b) = refl
same_forms t l (write_inside p m o d) = refl
same_forms t l (mkdir p up ok m) = refl
same_forms t l (unlink p) = refl
same_forms t l (rmdir p) = refl
same_forms t l (rename a b) = refl

same_change : (t : Table) (l : Tree) (c : Call) → changed t l (counts_as (shown t l) c) ≡ changed t l c
same_change t l (write p m x) = refl
same_change t l (append p m d b) = refl
same_change t l (write_inside p m o d) = refl
same_change t l (mkdir p up ok m) = refl
same_change t l (unlink p) = refl
same_change t l (rmdir p) = refl
same_change t l (rename a b) = refl

pub passes_as : (memory : Memory) (t : Table) (l : Tree) → Inv t l → (c : Call) → rules memory t l c ≡ pass → rules memory t l (counts_as (shown t l) c) ≡ pass
passes_as memory t l i (write p m x) h = h
passes_as memory t l i (append p m d b) h =
    let a = append_passed memory t l p m d b h in
    then_both (write_checks (shown t l) p) (charged memory (changed t l (append p m d b))) a.writes a.charge_fits
passes_as memory t l i (write_inside p m o d) h =
    let a = inside_passed memory t l p m o d h in
    then_both (write_checks (shown t l) p) (charged memory (changed t l (write_inside p m o d))) (inside_write t l i p a.own) a.charge_fits
passes_as memory t l i (mkdir p up ok m) h = h
passes_as memory t l i (unlink p) h = h
passes_as memory t l i (rmdir p) h = h
passes_as memory t l i (rename a b) h = h

-- a call in the place of another, with its form and its change
module _ (listing : Bytes) (q : Request) (s : Store) (c : Call) (f : forms c ≡ forms q.call)
    (e : changed (entries_of s) (tree_in listing) c ≡ changed (entries_of s) (tree_in listing) q.call)
    (r : rules (limited s.rec.entry_size q.limit) (entries_of s) (tree_in listing) c ≡ pass) where
  -- the store with a new table
  abbrev made : Table → Store
  made t = record { table = padded (length s.table) (encode t); rec = record_of s.rec.entry_size t }

  passes_instead : verdict listing q s ≡ pass → verdict listing (instead_of q c) s ≡ pass
  passes_instead h =
      let memory = limited s.rec.entry_size q.limit in
      let w = then_pass (unless 1 (lent q s)) _ h in
      let x = then_pass (unless 2 (is_listing listing)) _ w.1 in
      let y = then_pass (forms q.call) _ x.1 in
      let z = then_pass (rules memory (entries_of s) (tree_in listing) q.call) _ y.1 in
      let u : unless 13 (room listing (instead_of q c) s) ≡ pass = ap (λ (t : Table). unless 13 (leb (length (encode t)) (length s.table))) e ∙ z.1 in
      then_both (unless 1 (lent q s)) _ w.0 (
      then_both (unless 2 (is_listing listing)) _ x.0 (
      then_both (forms c) _ (f ∙ y.0) (
      then_both (rules memory (entries_of s) (tree_in listing) c) (unless 13 (room listing (instead_of q c) s)) r u)))

  pub leaves_the_same : verdict listing q s ≡ pass → LeavesTheSame listing s q c
  leaves_the_same h =
      let a = ap (λ (v : Check). settle v listing q s) h in
      let b = ap (λ (v : Check). settle v listing (instead_of q c) s) (passes_instead h) in
      record {
        reply = ap (λ (o : Outcome). o.reply) b;
        store = ap (λ (o : Outcome). o.store) b ∙ ap made e ∙ sym (ap (λ (o : Outcome). o.store) a);
        work = ap (λ (o : Outcome). o.work) b ∙ sym (ap (λ (o : Outcome). o.work) a);
      }

pub counts_as_write : (listing : Bytes) (E : ℕ) → IsBytes listing → (x : State) → Built listing E x → (q : Request) (v : ℕ)
    → (outcome listing q x.store).reply ≡ accepted v
    → LeavesTheSame listing x.store q (counts_as (shown (entries_of x.store) (tree_in listing)) q.call)
counts_as_write listing E bytes x b q v h =
    let s = x.store in
    let t : Table = entries_of s in
    let l : Tree = tree_in listing in
    let pv = accepted_pass listing E bytes (verdict listing q s) q s v h in
    let p = has_passed listing E q s pv in
    let i = ((built_reached listing E bytes x b).sound p.well).inv in
    leaves_the_same listing q s (counts_as (shown t l) q.call) (same_forms t l q.call) (same_change t l q.call)
    (passes_as (limited s.rec.entry_size q.limit) t l i q.call p.rule) pv
