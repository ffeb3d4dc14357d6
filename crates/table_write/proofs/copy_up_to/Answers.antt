-- `table_write::copy_up_to` meets its contract: what stands up to the key is copied in one piece.
use Rattle.table_write.proofs.Merges.{copied_up}
use Rattle.table_write.proofs.copy_up_to.Goals as goal

pub returns : goal.returns
returns c =
    let next = c.behind_key-next in
    let a = c.args in
    let m = a.merge in
    let f = c.seek-found in
    copied_up a.table.now a.work.now _ a.key.now m.left m.at m.out f.result.left f.result.at next.result.left next.result.at
    c.requires.standing f.ensures c.copy_in.ensures next.ensures.standing next.ensures.at_value next.ensures.at_value_2
