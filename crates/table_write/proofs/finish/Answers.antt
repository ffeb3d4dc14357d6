-- `table_write::finish` meets its contract: the new table's bytes are copied back, with zeros behind them.
use Rattle.table_write.proofs.Merges.{finished}
use Rattle.table_write.proofs.finish.Goals as goal

pub returns-clause-table_after : goal.returns-clause-table_after
returns-clause-table_after c =
    let a = c.args in
    let m = a.merge in
    let p = c.requires in
    finished a.table.now a.work.now _ _ _ m.left m.at m.out a.used p.at_le_used.0 p.at_le_used.1 p.at_in_bounds.0 p.at_in_bounds.1
    c.copy_in.ensures c.copy_in-2.ensures c.zero_from.ensures
