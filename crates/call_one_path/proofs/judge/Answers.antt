-- `judge` meets its contract: 3, then the checks of the call.
use Rattle.model.specs.Listing.{tree_in}
use Rattle.model.specs.Table.{table_in}
use Rattle.check_judged.specs.Judged.{check_of}
use Rattle.check_one_path.specs.Change.{change_checks}
use Rattle.call_answer.proofs.Keys.{is_path_lem, by_checks}
use Rattle.call_one_path.proofs.Changes.{root}
use Rattle.call_one_path.proofs.judge.Goals as goal

pub change_checks-requires-clause-path_value : goal.change_checks-requires-clause-path_value
change_checks-requires-clause-path_value c = is_path_lem c.args.path.now c.in_ok-check_path.ensures

pub returns-clause-path_value : goal.returns-clause-path_value
returns-clause-path_value c =
    let a = c.args in
    let k = change_checks a.change (table_in a.table.now a.rec) (tree_in a.listing.now) in
    (by_checks a.path.now k (root a.listing.now a.table.now a.rec a.path.now a.change c.requires) c.in_ok-check_path.ensures
    (check_of c.change_checks.result) c.change_checks.ensures).1
