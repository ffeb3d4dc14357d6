-- `put_source_deletion` meets its contract: kind 4 without a body is a deleted entry.
use mathlib.Core.Path.{refl}
use mathlib.Core.List.{[]}
use Rattle.model.specs.Tree.{deleted}
use Rattle.rename_write.proofs.Items.{room_of, deleted_written}
use Rattle.rename_write.proofs.Sequences.{one_room, one_put}
use Rattle.rename_write.proofs.put_source_deletion.Goals as goal

pub put_next-requires : goal.put_next-requires
put_next-requires c =
    let a = c.args in
    let r = one_room a.table.now a.work.now a.merge (a.source.now, deleted) c.requires in
    record { standing = r.stand; written = deleted_written; body_in_bounds = room_of a.table.now a.work.now a.merge (a.source.now, deleted) a.source.now [] r refl refl }

pub returns : goal.returns
returns c =
    let a = c.args in
    let p = c.put_next in
    one_put a.table.now a.work.now p.new.work a.merge p.result (a.source.now, deleted)
    (record { merged = p.ensures.merged; long = p.ensures.work_len_unchanged; end = p.ensures.at_value })
