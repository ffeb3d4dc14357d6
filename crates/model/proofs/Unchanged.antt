-- Calls that are accepted and change nothing: the table's bytes and the record are those before. A move onto itself is
-- such a call (#104), on every table in form, whether or not calls built it.
use mathlib.Core.Path.{◌≡◌, refl, ap, ap₂, sym, ◌∙◌}
use mathlib.Core.List.{[]}
use mathlib.Core.Bool.{Bool, true, cond}
use Prim.Native.Nat.{ℕ}
use lib.Dec.{leb}
use lib.ListN.{length, replicate}
use borrow.Author.Tests.{le-leb}
use Rattle.model.specs.Bytes.{Bytes}
use Rattle.model.specs.Path.{Path, is_path}
use Rattle.model.specs.Tree.{Table, Tree, shown, kind}
use Rattle.model.specs.Listing.{is_listing, tree_in}
use Rattle.model.specs.Table.{encode, padded, record_of, is_table, table_in}
use Rattle.model.specs.declared.Record.{Record}
use Rattle.model.specs.Checks.{Check, pass, refuse, ◌then◌, unless, limited}
use Rattle.model.specs.Rename.{moved, onto_itself}
use Rattle.model.specs.Calls.{rename, forms, rules, value_of, exists, says}
use Rattle.model.specs.Answer.{accepted}
use Rattle.model.specs.Outcome.{Store, shown_in, Request, Outcome, table_after, lent, room, verdict, settle, outcome}
use Rattle.model.specs.Posix.{Prefixed}
use Rattle.model.specs.Runs.{State, entries_of, Built}
use Rattle.model.proofs.Orders.{and_true}
use Rattle.model.proofs.Words.{IsBytes}
use Rattle.model.proofs.Codec.{decoded}
use Rattle.model.proofs.Invariant.{closed_above, then_pass, then_both, unless_pass}
use Rattle.model.proofs.Passed.{RenamePassed, rename_passed}
use Rattle.model.proofs.Itself.{exists_there, itself_onto, itself_checks}
use Rattle.model.proofs.Reached.{has_passed}
use Rattle.model.proofs.Built.{built_reached}

-- the call's answer, all as it was, and the work buffer all 0
abbrev pub nothing_done : Request → Store → Outcome
nothing_done q s = record { reply = accepted (value_of q.call); store = s; work = replicate (length q.work) 0 }

module _ (listing : Bytes) (q : Request) (s : Store) (is : is_table s.table s.rec ≡ true)
    (same_table : table_after listing q s ≡ table_in s.table s.rec) where
  pub unchanged_fits : room listing q s ≡ true
  unchanged_fits =
      ap (λ (t : Table). leb (length (encode t)) (length s.table)) same_table
      ∙ le-leb (length (encode (table_in s.table s.rec))) (length s.table) (decoded s.table s.rec is).fits

  pub unchanged_settled : settle pass listing q s ≡ nothing_done q s
  unchanged_settled =
      let d = decoded s.table s.rec is in
      let b : padded (length s.table) (encode (table_after listing q s)) ≡ s.table =
      ap (λ (t : Table). padded (length s.table) (encode t)) same_table ∙ sym d.bytes in
      let r : record_of s.rec.entry_size (table_after listing q s) ≡ s.rec = ap (record_of s.rec.entry_size) same_table ∙ sym d.rec in
      ap₂ (λ (u : Bytes) (v : Record). record { reply = accepted (value_of q.call); store = record { table = u; rec = v }; work = replicate (length q.work) 0 }) b r

-- a move of the path a onto itself
module _ (listing : Bytes) (limit : ℕ) (work : Bytes) (s : Store) (a : Path) where
  abbrev q : Request
  q = record { call = rename a a; limit = limit; work = work }

  abbrev t : Table
  t = entries_of s

  abbrev l : Tree
  l = tree_in listing

  -- whatever is given, it changes neither table nor record
  pub itself_changes_nothing : (outcome listing q s).store ≡ s
  itself_changes_nothing = go (verdict listing q s) refl
    where
      onto : RenamePassed (limited s.rec.entry_size limit) t l a a → onto_itself (shown t l) a a ≡ true
      onto (RenamePassed.itself e p) = e
      onto (RenamePassed.elsewhere p) = absurd (p.two refl)

      go : (c : Check) → verdict listing q s ≡ c → (settle c listing q s).store ≡ s
      go (refuse n w k) h = refl
      go pass h =
          let first = unless_pass 1 (lent q s) (then_pass (unless 1 (lent q s)) _ h).0 in
          let table = (and_true (is_table s.table s.rec) (leb (length s.table) (length work)) first).0 in
          let p = has_passed listing s.rec.entry_size q s h in
          let e = onto (rename_passed (limited s.rec.entry_size limit) t l a a p.rule) in
          ap (λ (o : Outcome). o.store) (unchanged_settled listing q s table (ap (λ (b : Bool). cond b t (moved t l a a)) e))

  -- and where exists says yes to the path, and all above it are directories, it is accepted, whatever the limit
  module _ (is-lent : lent q s ≡ true) (is-listing : is_listing listing ≡ true) (is-path : is_path a ≡ true) (proper : a ≡ [] → ⊥)
      (above : Prefixed (shown_in listing s.table s.rec) a) (visible : says exists (kind (shown_in listing s.table s.rec) a) ≡ true) where
    table : is_table s.table s.rec ≡ true
    table = (and_true (is_table s.table s.rec) (leb (length s.table) (length work)) is-lent).0

    same_table : table_after listing q s ≡ t
    same_table = ap (λ (b : Bool). cond b t (moved t l a a)) (itself_onto t l a visible)

    passes : verdict listing q s ≡ pass
    passes =
        then_both (unless 1 (lent q s)) _ (ap (unless 1) is-lent) (
        then_both (unless 2 (is_listing listing)) _ (ap (unless 2) is-listing) (
        then_both (forms (rename a a)) _ (ap (λ (b : Bool). cond b pass (refuse 3 0 0) then cond b pass (refuse 3 1 0)) is-path) (
        then_both (rules (limited s.rec.entry_size limit) t l (rename a a)) _
        (itself_checks t l a visible proper above (limited s.rec.entry_size limit)) (ap (unless 13) (unchanged_fits listing q s table same_table)))))

    pub itself_accepted : outcome listing q s ≡ nothing_done q s
    itself_accepted = ap (λ (c : Check). settle c listing q s) passes ∙ unchanged_settled listing q s table same_table

-- On a table that calls built, what is visible lies below directories: so of the paths that exists says yes to, the root
-- alone cannot be moved onto itself.
module _ (listing : Bytes) (bytes : IsBytes listing) (E : ℕ) (x : State) (built : Built listing E x) (limit : ℕ) (work : Bytes) (a : Path) where
  pub built_itself : lent (q listing limit work x.store a) x.store ≡ true → is_listing listing ≡ true → is_path a ≡ true → (a ≡ [] → ⊥)
      → says exists (kind (shown (entries_of x.store) (tree_in listing)) a) ≡ true
      → outcome listing (q listing limit work x.store a) x.store ≡ nothing_done (q listing limit work x.store a) x.store
  built_itself h g p r v =
      itself_accepted listing limit work x.store a h g p r
      (closed_above (shown (entries_of x.store) (tree_in listing)) ((built_reached listing E bytes x built).sound g).inv.closed a
      (exists_there (kind (shown (entries_of x.store) (tree_in listing)) a) v)) v
