-- `change_checks` meets its contract: unlink asks the entry's checks.
use Rattle.std.proofs.Common.{ap, ◌∙◌}
use Rattle.model.specs.Listing.{tree_in}
use Rattle.model.specs.Table.{table_in}
use Rattle.check_judged.specs.Judged.{check_of}
use Rattle.check_one_path.specs.Change.{entry_checks}
use Rattle.check_one_path.specs.declared.Change.{Change}
use Rattle.check_one_path.proofs.Asked.{unlink_entry_lem, as_change}
use Rattle.check_one_path.proofs.change_checks.Goals as goal

pub returns-in-Unlink : goal.returns-in-Unlink
returns-in-Unlink c =
    let a = c.args in
    let t = table_in a.table.now a.rec in
    let l = tree_in a.listing.now in
    let x = c.entry_checks in
    as_change t l a.path.now (check_of x.result) a.change _ c.in-Unlink.is
    (unlink_entry_lem t l a.path.now (check_of x.result) (x.ensures ∙ ap (λ (y : Change). entry_checks y t l a.path.now) c.in-Unlink.is))
