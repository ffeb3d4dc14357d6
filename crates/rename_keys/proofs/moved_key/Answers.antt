-- `moved_key` meets its contract: the tail that is lent is all that stands behind the path's first bytes.
use Rattle.rename_keys.proofs.Composed.{moved_length, moved_room, moved_front}
use Rattle.rename_keys.proofs.moved_key.Goals as goal

pub returns : goal.returns
returns c =
    let a = c.args in
    let d = a.destination.now in
    let p = a.path.now in
    let x = c.compose in
    record { len_bound = (moved_room d p a.from c.requires.1, x.ensures.t_len_unchanged); bytes_value = moved_front d p a.from x.new.t x.ensures.t_after; len_value = moved_length d p a.from }
