-- `put_row` meets its contract: the four numbers are written two by two.
use Rattle.run_calls.proofs.Rows.{row_put}
use Rattle.run_calls.proofs.put_row.Goals as goal

pub returns : goal.returns
returns c =
    let t = c.told-row in
    let a = c.args in
    row_put a.report.now _ _ a.at t.result t.ensures a.charge c.requires c.put_pair.ensures c.put_pair-2.ensures
