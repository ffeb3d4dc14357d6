-- All that rename puts, in its order: the keys ascend, and the table with it is the one that the definition names.
-- Assumes a table and a tree whose keys ascend, and two paths that passed rename's checks before its plan.
use mathlib.Core.Path.{◌≡◌, ap, ap₂, sym, subst, ◌∙◌}
use mathlib.Core.List.{[]}
use mathlib.Core.Bool.{Bool, true, cond}
use mathlib.Core.Option.{some}
use Prim.Native.Nat.{ℕ, ◌≤◌}
use lib.ListN.{length}
use Rattle.model.specs.Bytes.{Bytes, every}
use Rattle.model.specs.Path.{Path, short}
use Rattle.model.specs.Map.{ascends, puts, each, keys, rekey}
use Rattle.model.specs.Tree.{deleted, Table, Tree, shown, a_directory, a_file, kind}
use Rattle.model.specs.Table.{encode, padded}
use Rattle.model.specs.Rename.{carried, moved}
use Rattle.model.proofs.Orders.{Lt}
use Rattle.model.proofs.Maps.{Ascending, ascends_is}
use Rattle.table_measure.specs.Into.{into}
use Rattle.rename_checks.specs.Early.{EarlyPassed}
use Rattle.rename_checks.proofs.Passed.{no_roots, apart_paths}
use Rattle.rename_laws.proofs.Records.{Apart}
use Rattle.rename_laws.proofs.Moves.{ascending_rekey, ascending_each, top_entry, ascending_carried, inside_carried}
use Rattle.rename_laws.proofs.Moves.{apart_moved}
use Rattle.rename_write.specs.Stretch.{deletion, move, movable, turned}
use Rattle.rename_write.specs.Sequence.{lower, top, departures, arrivals, ordered}
use Rattle.rename_table.proofs.Tops.{top_found}
use Rattle.rename_table.proofs.Lists.{departures_are, inside_departures, arrivals_are, inside_arrivals, lower_movable}
use Rattle.rename_table.proofs.Ascents.{arranged_ascends}
use Rattle.rename_table.proofs.Makes.{arranged_makes}

module _ (t : Table) (l : Tree) (a b : Path) (whole : Bool) (tu : ascends [] t ≡ true) (lu : ascends [] l ≡ true)
    (h : EarlyPassed t l a b) (k : kind (shown t l) a ≡ cond whole a_directory a_file) where
  table_up : Ascending t
  table_up = (ascends_is [] t tu).1

  tree_up : Ascending l
  tree_up = (ascends_is [] l lu).1

  roots : Lt [] a × Lt [] b
  roots = no_roots t l a b h

  found : top_entry t l a ≡ some (top t l a)
  found = top_found t l a whole k roots.0

  gone : departures whole t l a ≡ each deleted (keys (carried t l a))
  gone = departures_are t l a tree_up found whole k

  come : arrivals whole t l a b ≡ rekey a b (carried t l a)
  come = arrivals_are t l a tree_up found whole k b

  up_gone : Ascending (departures whole t l a)
  up_gone = subst Ascending (sym gone) (ascending_each deleted (carried t l a) (ascending_carried t l a tree_up))

  up_come : Ascending (arrivals whole t l a b)
  up_come = subst Ascending (sym come) (ascending_rekey a b (carried t l a) (ascending_carried t l a tree_up))

  pub ordered_ascends : ascends [] (ordered whole t l a b) ≡ true
  ordered_ascends =
      arranged_ascends a b deleted (top t l a) (turned deletion (lower whole t l a)) (turned (move a b) (lower whole t l a)) roots.0 roots.1
      (apart_paths t l a b h) up_gone (inside_departures t l a tree_up found whole k) up_come (inside_arrivals t l a tree_up found whole k b)

  ordered_makes : into (ordered whole t l a b) t ≡ moved t l a b
  ordered_makes =
      let c : Table = carried t l a in
      let e : Apart (departures whole t l a) (arrivals whole t l a b) =
      subst (λ (x : Table). Apart x (arrivals whole t l a b)) (sym gone)
      (subst (Apart (each deleted (keys c))) (sym come) (apart_moved a b c (apart_paths t l a b h) (inside_carried t l a))) in
      arranged_makes a b deleted (top t l a) (turned deletion (lower whole t l a)) (turned (move a b) (lower whole t l a)) e t ordered_ascends table_up
      ∙ ap₂ (λ (m d : Table). puts m (puts d t)) come gone

  -- so it fits where the table of the definition does, and what is written is that table
  pub ordered_fits : (n : ℕ) → length (encode (moved t l a b)) ≤ n → length (encode (into (ordered whole t l a b) t)) ≤ n
  ordered_fits n f = subst (λ (o : Table). length (encode o) ≤ n) (sym ordered_makes) f

  pub ordered_written : (n : ℕ) (s : Bytes) → s ≡ padded n (encode (into (ordered whole t l a b) t)) → s ≡ padded n (encode (moved t l a b))
  ordered_written n s f = f ∙ ap (λ (o : Table). padded n (encode o)) ordered_makes

  -- and what is below a has room for its new keys
  pub ordered_movable : every short (keys (rekey a b (carried t l a))) ≡ true → every (movable a b) (lower whole t l a) ≡ true
  ordered_movable s = lower_movable t l a tree_up found whole k b s
