-- `table_write::put_head` meets its contract: a head's parts are written in a row.
use Rattle.table_write.proofs.Merges.{head_put}
use Rattle.table_write.proofs.put_head.Goals as goal

pub returns : goal.returns
returns c =
    let a = c.args in
    head_put a.work.now _ _ _ a.key.now a.kind a.mtime a.size a.len a.at c.requires c.put_sizes.ensures c.put_times.ensures
    c.copy_in.ensures
