-- `put_next_spliced` meets its contract: what stays and the entry are written in a row.
use Rattle.table_splice.proofs.Splices.{spliced_next}
use Rattle.table_splice.proofs.put_next_spliced.Goals as goal

pub returns-clause-merged : goal.returns-clause-merged
returns-clause-merged c =
    let a = c.args in
    let m = a.merge in
    let n = c.copy_up_to-behind.result in
    spliced_next a.table.now a.work.now _ _ a.key.now a.content.now a.«data».now a.mtime a.offset m.left m.at m.out
    n.left n.at n.out c.put_spliced-out.result c.requires.content_in_bounds c.copy_up_to-behind.ensures c.put_spliced-out.ensures.work_after
    c.put_spliced-out.ensures.value
