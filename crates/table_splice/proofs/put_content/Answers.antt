-- `put_content` meets its contract: its three parts are written in a row.
use Rattle.table_splice.proofs.Splices.{content_put}
use Rattle.table_splice.proofs.put_content.Goals as goal

pub returns : goal.returns
returns c =
    let a = c.args in
    content_put a.work.now _ _ _ a.content.now a.«data».now a.at a.offset c.requires c.put_front.ensures c.copy_in.ensures c.put_tail.ensures
