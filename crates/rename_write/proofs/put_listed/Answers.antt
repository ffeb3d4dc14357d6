-- `put_listed` meets its contract: a directory has no body, and a file's is its path.
use mathlib.Core.Path.{refl}
use mathlib.Core.List.{[]}
use Rattle.std.proofs.Common.{rules}
use Rattle.rename_write.proofs.Items.{room_of}
use Rattle.rename_write.proofs.Sequences.{one_room, one_put, one_fits, one_done, told_some, told_deleted, directory_written, reference_written}
use Rattle.rename_write.proofs.put_listed.Goals as goal

pub put_next-requires : goal.put_next-requires
put_next-requires c =
    let a = c.args in
    let y = told_some a.listing.now a.source.now _ _ _ c.find.ensures c.in-Some-Directory.is c.in-Some-Directory.field-0-is in
    let r = one_room a.table.now a.work.now a.merge _ (one_fits a.table.now a.work.now a.merge a.destination.now _ _ y
    c.requires.fits) in
    record { standing = r.stand; written = directory_written _; body_in_bounds = room_of a.table.now a.work.now a.merge _ a.destination.now [] r refl refl }

pub returns-in-Some-Directory : goal.returns-in-Some-Directory
returns-in-Some-Directory c =
    let a = c.args in
    let y = told_some a.listing.now a.source.now _ _ _ c.find.ensures c.in-Some-Directory.is c.in-Some-Directory.field-0-is in
    let p = c.put_next in
    one_done a.table.now a.work.now p.new.work a.merge p.result a.destination.now _ _ y
    (one_put a.table.now a.work.now p.new.work a.merge p.result (a.destination.now, _)
    (record { merged = p.ensures.merged; long = p.ensures.work_len_unchanged; end = p.ensures.at_value }))

pub put_next-requires-in-Some-File : goal.put_next-requires-in-Some-File
put_next-requires-in-Some-File c =
    let a = c.args in
    let y = told_some a.listing.now a.source.now _ _ _ c.find.ensures c.in-Some-File.is c.in-Some-File.field-0-is in
    let r = one_room a.table.now a.work.now a.merge _ (one_fits a.table.now a.work.now a.merge a.destination.now _ _ y
    c.requires.fits) in
    record { standing = r.stand; written = reference_written _ _ _; body_in_bounds = room_of a.table.now a.work.now a.merge _ a.destination.now a.source.now r refl refl }

pub returns-in-Some-File : goal.returns-in-Some-File
returns-in-Some-File c =
    let a = c.args in
    let y = told_some a.listing.now a.source.now _ _ _ c.find.ensures c.in-Some-File.is c.in-Some-File.field-0-is in
    let p = c.put_next-in-Some-File in
    one_done a.table.now a.work.now p.new.work a.merge p.result a.destination.now _ _ y
    (one_put a.table.now a.work.now p.new.work a.merge p.result (a.destination.now, _)
    (record { merged = p.ensures.merged; long = p.ensures.work_len_unchanged; end = p.ensures.at_value }))

pub returns-in-Some-Link : goal.returns-in-Some-Link
returns-in-Some-Link c =
    let a = c.args in
    let y = told_deleted a.listing.now a.source.now _ c.find.ensures (search rules) in
    let p = c.put_source_deletion in
    one_done a.table.now a.work.now p.new.work a.merge p.result a.destination.now _ _ y p.ensures
