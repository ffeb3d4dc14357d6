-- `put_spliced` meets its contract: the head, and the content behind it.
use Rattle.std.proofs.Common.{refl, arith}
use Rattle.table_splice.proofs.Splices.{spliced_put}
use Rattle.table_splice.proofs.put_spliced.Goals as goal

pub returns-clause-work_after : goal.returns-clause-work_after
returns-clause-work_after c =
    let a = c.args in
    let h = c.requires in
    spliced_put a.work.now _ _ a.key.now a.content.now a.«data».now a.mtime a.at a.offset c.spliced_len-len.result (omega arith)
    (c.spliced_len-len.ensures a.content.now a.«data».now refl refl) c.put_head.ensures c.put_content.ensures
