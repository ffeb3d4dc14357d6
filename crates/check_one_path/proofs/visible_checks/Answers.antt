-- `visible_checks` meets its contract: the parents, then what is visible at the path.
use lib.ListN.{length}
use Rattle.model.specs.Tree.{kind}
use Rattle.model.specs.Checks.{parent_checks}
use Rattle.model.specs.Outcome.{shown_in}
use Rattle.check_judged.proofs.Thens.{stops_at, goes_on_at}
use Rattle.check_one_path.specs.Change.{target_at}
use Rattle.check_one_path.proofs.visible_checks.Goals as goal

pub returns-in_err-ensure_parent_exists : goal.returns-in_err-ensure_parent_exists
returns-in_err-ensure_parent_exists c =
    let a = c.args in
    let f = shown_in a.listing.now a.table.now a.rec in
    stops_at (parent_checks 0 f a.path.now) (target_at a.change (length a.path.now) (kind f a.path.now)) _ _
    c.from_residual.ensures.1 c.in_err-ensure_parent_exists.ensures

pub returns : goal.returns
returns c =
    let a = c.args in
    let f = shown_in a.listing.now a.table.now a.rec in
    goes_on_at (parent_checks 0 f a.path.now) (target_at a.change (length a.path.now)) _ _ _
    c.in_ok-ensure_parent_exists.ensures c.check_target.ensures c.visible_at-visible.ensures
