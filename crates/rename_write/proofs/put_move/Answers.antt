-- `put_move` meets its contract: the key is composed of the destination and what follows the source, fields and body are the item's own.
use lib.ListN.{take}
use Rattle.model.specs.Table.{entry_of}
use Rattle.rename_carried.specs.Streams.{item_at}
use Rattle.rename_write.specs.Stretch.{move}
use Rattle.rename_write.proofs.Items.{put_of, key_bytes, entry_of_lem}
use Rattle.rename_write.proofs.put_move.Goals as goal

pub returns : goal.returns
returns c =
    let a = c.args in
    let i = item_at a.own.now a.part.now a.stream a.head in
    let q = c.item_key-path in
    let k = c.moved_key-key in
    let n = c.item_fields-item in
    let b = c.item_body-body in
    let p = c.put_next in
    let o = take k.result.len k.result.bytes in
    put_of a.table.now a.work.now p.new.work a.merge p.result (move a.source.now a.destination.now i) o
    (entry_of n.result.kind n.result.mtime n.result.size b.result.now)
    (key_bytes a.source.now a.destination.now q.result.now o i q.ensures k.ensures.bytes_value)
    (entry_of_lem i.1 n.result.kind n.result.mtime n.result.size b.result.now
    n.ensures.kind_value n.ensures.mtime_value n.ensures.size_value b.ensures)
    p.ensures.merged p.ensures.work_len_unchanged p.ensures.at_value
