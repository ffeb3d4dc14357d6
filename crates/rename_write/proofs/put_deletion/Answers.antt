-- `put_deletion` meets its contract: the key is the item's, and kind 4 without a body is a deleted entry.
use mathlib.Core.Path.{refl}
use Rattle.rename_carried.specs.Streams.{item_at}
use Rattle.rename_write.specs.Stretch.{deletion}
use Rattle.model.specs.Tree.{deleted}
use Rattle.rename_write.proofs.Items.{put_of}
use Rattle.rename_write.proofs.put_deletion.Goals as goal

pub returns : goal.returns
returns c =
    let a = c.args in
    let i = deletion (item_at a.own.now a.part.now a.stream a.head) in
    let k = c.item_key-key in
    let p = c.put_next in
    put_of a.table.now a.work.now p.new.work a.merge p.result i k.result.now deleted k.ensures refl
    p.ensures.merged p.ensures.work_len_unchanged p.ensures.at_value
