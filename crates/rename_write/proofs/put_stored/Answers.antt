-- `put_stored` meets its contract: fields and body are those of the entry at the place.
use mathlib.Core.Path.{refl}
use Rattle.model.specs.Table.{entry_of, entry_at}
use Rattle.rename_write.proofs.Items.{room_of, put_of, entry_of_lem, written_of}
use Rattle.rename_write.proofs.Sequences.{one_room, one_put}
use Rattle.rename_write.proofs.put_stored.Goals as goal

pub put_next-requires : goal.put_next-requires
put_next-requires c =
    let a = c.args in
    let v = entry_at a.table.now a.place.at in
    let n = c.entry_fields-item in
    let b = c.entry_body-body in
    let r = one_room a.table.now a.work.now a.merge (a.destination.now, v) c.requires.fits in
    record {
      standing = r.stand;
      written = written_of v n.result.kind n.result.mtime n.result.size b.result.now n.ensures.kind_value n.ensures.mtime_value n.ensures.size_value
          b.ensures;
      body_in_bounds = room_of a.table.now a.work.now a.merge (a.destination.now, v) a.destination.now b.result.now r refl b.ensures;
    }

pub returns : goal.returns
returns c =
    let a = c.args in
    let v = entry_at a.table.now a.place.at in
    let n = c.entry_fields-item in
    let b = c.entry_body-body in
    let p = c.put_next in
    one_put a.table.now a.work.now p.new.work a.merge p.result (a.destination.now, v)
    (put_of a.table.now a.work.now p.new.work a.merge p.result (a.destination.now, v) a.destination.now
    (entry_of n.result.kind n.result.mtime n.result.size b.result.now) refl
    (entry_of_lem v n.result.kind n.result.mtime n.result.size b.result.now n.ensures.kind_value n.ensures.mtime_value n.ensures.size_value
    b.ensures)
    p.ensures.merged p.ensures.work_len_unchanged p.ensures.at_value)
