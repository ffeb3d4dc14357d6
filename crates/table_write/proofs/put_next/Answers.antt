-- `table_write::put_next` meets its contract: what stays and the entry are written in a row.
use mathlib.Core.Path.{ap}
use lib.ListN.{length}
use Rattle.model.specs.Table.{entry_of}
use Rattle.table_write.proofs.Merges.{next_put}
use Rattle.table_write.proofs.put_next.Goals as goal

pub returns-clause-merged : goal.returns-clause-merged
returns-clause-merged c =
    let a = c.args in
    let m = a.merge in
    let n = c.copy_up_to-behind.result in
    let v = entry_of a.kind a.mtime a.size a.body.now in
    next_put a.table.now a.work.now _ _ a.key.now v m.left m.at m.out n.left n.at n.out (length a.body.now)
    (ap length c.requires.written.content) c.requires.body_in_bounds c.copy_up_to-behind.ensures c.put_entry.ensures
