-- `ensure_parent_exists` meets its contract. The loop's invariant: the parents from the cursor on give what all give.
-- The measure is how many bytes are to come.
use mathlib.Core.Path.{◌∙◌}
use native.Mathlib.Omega.{arith}
use lib.ListN.{length}
use borrow.Author.Rules.{rules}
use Rattle.model.specs.Tree.{shown}
use Rattle.model.specs.Listing.{tree_in}
use Rattle.model.specs.Table.{table_in}
use Rattle.model.proofs.Codec.{path_short}
use Rattle.view_at.specs.Sight.{visible_kind}
use Rattle.check_judged.proofs.Thens.{told_at}
use Rattle.check_parents.proofs.Checked.{passed_is_directory, refused_is_none}
use Rattle.check_parents.proofs.Parents.{along_first, along_look, along_next, parents_first, parents_last, parents_next, parents_stop}
use Rattle.check_parents.proofs.ensure_parent_exists.Goals as goal

pub loop-at-init : goal.loop-at-init
loop-at-init c =
    let a = c.args in
    let n = c.next_ancestor-at in
    let b = c.begin-sight in (
      n.ensures.lower_bound.1,
      along_first a.listing.now a.table.now a.rec a.path.now b.result n.result c.requires.path_value b.ensures n.ensures.value
          n.ensures.lower_bound.1,
      parents_first a.which (shown (table_in a.table.now a.rec) (tree_in a.listing.now)) a.path.now n.result n.ensures.value,
    )

pub look-seen-requires : goal.look-seen-requires
look-seen-requires c =
    let l = c.loop-at in
    let a = c.args in
    record { sees = l.invariant.1.sees; end_nonzero = along_look a.listing.now a.table.now a.rec a.path.now l.sight l.at l.invariant.1 (search rules) }

pub returns-in_err-check_parent : goal.returns-in_err-check_parent
returns-in_err-check_parent c =
    let l = c.loop-at in
    let a = c.args in
    let e = c.in_err-check_parent in
    let f = shown (table_in a.table.now a.rec) (tree_in a.listing.now) in
    let k = visible_kind c.look-seen.result.visible in
    told_at _ _ c.from_residual.ensures.1
    ∙ parents_stop a.which f a.path.now l.at k l.invariant.1.slash (search rules) l.invariant.2 c.look-seen.ensures.visible_value _
    (refused_is_none a.which (length a.path.now) k _ e.ensures) e.ensures

pub overflow_add-at : goal.overflow_add-at
overflow_add-at c = record { fits = omega (arith, path_short c.args.path.now c.requires.path_value) }

pub loop-at-preserved : goal.loop-at-preserved
loop-at-preserved c =
    let n = c.next_ancestor-at-in-loop-at in
    let l = c.loop-at in
    let a = c.args in
    let f = shown (table_in a.table.now a.rec) (tree_in a.listing.now) in
    let k = visible_kind c.look-seen.result.visible in (
      n.ensures.lower_bound.1,
      along_next a.listing.now a.table.now a.rec a.path.now l.sight l.at l.invariant.1 (search rules) c.look-seen.result.sight
          n.result c.look-seen.ensures.sees_2 n.ensures.value n.ensures.lower_bound.0 n.ensures.lower_bound.1,
      parents_next a.which f a.path.now l.at (visible_kind c.look-seen.result.visible) l.invariant.1.slash (search rules) l.invariant.2
          c.look-seen.ensures.visible_value n.result n.ensures.value (passed_is_directory a.which (length a.path.now) k c.in_ok-check_parent.ensures),
    )

pub returns : goal.returns
returns c =
    let l = c.loop-at in
    let a = c.args in
    parents_last a.which (shown (table_in a.table.now a.rec) (tree_in a.listing.now)) a.path.now l.at (search rules) l.invariant.2
