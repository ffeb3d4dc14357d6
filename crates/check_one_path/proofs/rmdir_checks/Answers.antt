-- `rmdir_checks` meets its contract: the root, then what the path's entry or the listing gives, then whether it is empty.
use Rattle.std.proofs.Common.{◌∙◌}
use lib.ListN.{length}
use Rattle.model.specs.Map.{lookup}
use Rattle.model.specs.Tree.{shown}
use Rattle.model.specs.Listing.{tree_in}
use Rattle.model.specs.Table.{table_in}
use Rattle.model.specs.Checks.{◌then◌, rmdir_entry, no_visible_child}
use Rattle.check_judged.proofs.Thens.{told_at, stops, goes_on, root_given, not_root_lem}
use Rattle.check_one_path.specs.Change.{visible_checks}
use Rattle.check_one_path.specs.declared.Change.TheVariants.{Rmdir}
use Rattle.check_one_path.proofs.Asked.{rmdir_entry_lem}
use Rattle.check_one_path.proofs.rmdir_checks.Goals as goal

pub returns-then-path-eq0 : goal.returns-then-path-eq0
returns-then-path-eq0 c =
    let a = c.args in
    let t = table_in a.table.now a.rec in
    let l = tree_in a.listing.now in
    let p = a.path.now in
    let d = rmdir_entry (length p) (lookup t p) (visible_checks Rmdir (shown t l) p) in
    root_given p (d then no_visible_child 0 t l p) c.if-path-eq0.true

pub returns-in_err-entry_checks : goal.returns-in_err-entry_checks
returns-in_err-entry_checks c =
    let a = c.args in
    let t = table_in a.table.now a.rec in
    let l = tree_in a.listing.now in
    let p = a.path.now in
    let d = rmdir_entry (length p) (lookup t p) (visible_checks Rmdir (shown t l) p) in
    told_at _ _ c.from_residual.ensures.1
    ∙ not_root_lem p (d then no_visible_child 0 t l p) _ c.if-path-eq0.false
    (stops d (no_visible_child 0 t l p) _ (rmdir_entry_lem t l p _ c.in_err-entry_checks.ensures))

pub returns : goal.returns
returns c =
    let a = c.args in
    let t = table_in a.table.now a.rec in
    let l = tree_in a.listing.now in
    let p = a.path.now in
    let d = rmdir_entry (length p) (lookup t p) (visible_checks Rmdir (shown t l) p) in
    not_root_lem p (d then no_visible_child 0 t l p) _ c.if-path-eq0.false
    (goes_on d (no_visible_child 0 t l p) _ (rmdir_entry_lem t l p _ c.in_ok-entry_checks.ensures) c.check_empty.ensures)
