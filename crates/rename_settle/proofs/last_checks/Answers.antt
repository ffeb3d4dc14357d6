-- `last_checks` meets its contract: what is foretold settles 11, 12 and 13.
use Rattle.std.proofs.Common.{length}
use Rattle.model.specs.Listing.{tree_in}
use Rattle.model.specs.Table.{table_in}
use Rattle.rename_settle.proofs.Settling.{settled_check_lem}
use Rattle.rename_settle.proofs.last_checks.Goals as goal

pub returns-clause-result_value : goal.returns-clause-result_value
returns-clause-result_value c =
    let a = c.args in
    let m = c.foretell-projected in
    let x = c.settled_by in
    settled_check_lem a.rec.entry_size (table_in a.table.now a.rec) (tree_in a.listing.now) a.source.now a.destination.now m.result m.ensures
    a.limit (length a.table.now) x.result x.ensures
