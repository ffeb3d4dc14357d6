-- `overlay_dirs_to_create` meets its contract. The loop's invariant: the ancestors from the cursor on are judged as all are, and the missing ones
-- among them follow the ends found so far. The measure is how many bytes are to come.
use mathlib.Core.Path.{refl, ap, ◌∙◌}
use native.Mathlib.Omega.{arith}
use lib.ListN.{length}
use borrow.Author.Rules.{rules}
use Rattle.model.specs.Tree.{shown, kind}
use Rattle.model.specs.Listing.{tree_in}
use Rattle.model.specs.Table.{table_in}
use Rattle.model.proofs.Codec.{path_short}
use Rattle.view_at.specs.Sight.{visible_kind}
use Rattle.base_paths.specs.Dirs.{ends_of, climbs}
use Rattle.std.proofs.lemmas.Result.{IfOk-from_err}
use Rattle.model.specs.Checks.{pass}
use Rattle.check_judged.proofs.Thens.{told_at}
use Rattle.check_judged.proofs.Checked.{refusal_refuses}
use Rattle.check_parents.proofs.Parents.{along_first, along_look, along_next}
use Rattle.check_parents.proofs.Missing.{going_first, going_last, going_room, going_stop, going_next}
use Rattle.check_parents.proofs.overlay_dirs_to_create.Goals as goal

pub loop-end-init : goal.loop-end-init
loop-end-init c =
    let a = c.args in
    let n = c.next_ancestor-end in
    let b = c.begin-sight in
    let g = kind (shown (table_in a.table.now a.rec) (tree_in a.listing.now)) in (
      n.ensures.lower_bound.1,
      along_first a.listing.now a.table.now a.rec a.path.now b.result n.result c.requires.path_value.0 b.ensures n.ensures.value
          n.ensures.lower_bound.1,
      going_first g a.path.now n.result c.requires.path_value.0 c.requires.path_value.1 n.ensures.value n.ensures.lower_bound.1,
    )

pub look-seen-requires : goal.look-seen-requires
look-seen-requires c =
    let l = c.loop-end in
    let a = c.args in
    record { sees = l.invariant.1.sees; end_nonzero = along_look a.listing.now a.table.now a.rec a.path.now l.sight l.end l.invariant.1 (search rules) }

pub returns-in_err-check_ancestor : goal.returns-in_err-check_ancestor
returns-in_err-check_ancestor c =
    let l = c.loop-end in
    let a = c.args in
    let e = c.in_err-check_ancestor in
    let j = c.from_residual in
    let g = kind (shown (table_in a.table.now a.rec) (tree_in a.listing.now)) in
    let x = visible_kind c.look-seen.result.visible in
    record {
      judged_value =
          told_at _ _ j.ensures.1
          ∙ going_stop g a.path.now l.end (ends_of l.dirs) l.dirs.count l.invariant.2 l.invariant.1.slash (search rules) x
          c.look-seen.ensures.visible_value _ e.ensures (refusal_refuses _);
      dirs_value = IfOk-from_err j.result _ j.ensures.0;
      count_bound = IfOk-from_err j.result _ j.ensures.0;
    }

pub with_ancestor-dirs-requires : goal.with_ancestor-dirs-requires
with_ancestor-dirs-requires c =
    let l = c.loop-end in
    let a = c.args in
    let g = kind (shown (table_in a.table.now a.rec) (tree_in a.listing.now)) in
    omega (arith, going_room g a.path.now l.end (ends_of l.dirs) l.dirs.count l.invariant.2 l.invariant.1.slash (search rules))

pub overflow_add-end : goal.overflow_add-end
overflow_add-end c = record { fits = omega (arith, path_short c.args.path.now c.requires.path_value.0) }

pub loop-end-preserved : goal.loop-end-preserved
loop-end-preserved c =
    let n = c.next_ancestor-end-in-loop-end in
    let w = c.with_ancestor-dirs in
    let l = c.loop-end in
    let a = c.args in
    let g = kind (shown (table_in a.table.now a.rec) (tree_in a.listing.now)) in
    let x = visible_kind c.look-seen.result.visible in (
      n.ensures.lower_bound.1,
      along_next a.listing.now a.table.now a.rec a.path.now l.sight l.end l.invariant.1 (search rules) c.look-seen.result.sight
          n.result c.look-seen.ensures.sees_2 n.ensures.value n.ensures.lower_bound.0 n.ensures.lower_bound.1,
      going_next g a.path.now l.end (ends_of l.dirs) l.dirs.count l.invariant.2 l.invariant.1.slash (search rules) x c.look-seen.ensures.visible_value
          pass c.in_ok-check_ancestor.ensures n.result (ends_of w.result) w.result.count refl n.ensures.value
          n.ensures.lower_bound.0 n.ensures.lower_bound.1 w.ensures.result_value w.ensures.count_bound,
    )

pub with_end-requires : goal.with_end-requires
with_end-requires c =
    let l = c.loop-end in
    let r = l.invariant.2.room in
    omega arith

pub returns : goal.returns
returns c =
    let l = c.loop-end in
    let a = c.args in
    let w = c.with_end in
    let g = kind (shown (table_in a.table.now a.rec) (tree_in a.listing.now)) in
    let p = a.path.now in
    let z = going_last g p l.end (ends_of l.dirs) l.dirs.count l.invariant.2 (search rules) l.invariant.0 in
    record { judged_value = z.0; dirs_value = w.ensures.result_value ∙ z.1; count_bound = (omega (arith, z.2, w.ensures.count_value), ap (climbs 0 (length p)) w.ensures.result_value ∙ z.3) }
