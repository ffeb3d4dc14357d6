-- `entry_checks` meets its contract: what the path's entry shows decides.
use Rattle.std.proofs.Common.{◌∙◌, length}
use Rattle.model.specs.Map.{lookup}
use Rattle.model.specs.Table.{table_in}
use Rattle.model.specs.Outcome.{shown_in}
use Rattle.check_one_path.specs.Change.{visible_checks}
use Rattle.check_one_path.proofs.Asked.{by_entry, by_none}
use Rattle.check_one_path.proofs.entry_checks.Goals as goal

pub returns-in-Some : goal.returns-in-Some
returns-in-Some c =
    let a = c.args in
    by_entry a.change (length a.path.now) a.table.now (lookup (table_in a.table.now a.rec) a.path.now) _ c.in-Some.ensures _
    (c.of_entry.ensures a.table.now) _ (visible_checks a.change (shown_in a.listing.now a.table.now a.rec) a.path.now) c.check_target.ensures

pub returns-in-None : goal.returns-in-None
returns-in-None c =
    let a = c.args in
    c.visible_checks.ensures ∙ by_none a.change (length a.path.now) (lookup (table_in a.table.now a.rec) a.path.now) c.in-None.ensures _
