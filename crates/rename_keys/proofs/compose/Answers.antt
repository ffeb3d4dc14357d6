-- `compose` meets its contract: two writes, one behind the other, are one of both.
use Rattle.rename_keys.proofs.Composed.{room, size, front}
use Rattle.rename_keys.proofs.compose.Goals as goal

pub copy_in-requires-2 : goal.copy_in-requires-2
copy_in-requires-2 c =
    let a = c.args in
    room a.t.now a.destination.now a.tail.now _ c.requires c.copy_in.ensures

pub returns : goal.returns
returns c =
    let a = c.args in
    let x = c.copy_in in
    let y = c.copy_in-2 in
    record { t_len_unchanged = size a.t.now a.destination.now a.tail.now _ c.requires x.ensures _ y.ensures; t_after = front a.t.now a.destination.now a.tail.now _ c.requires x.ensures _ y.ensures }
