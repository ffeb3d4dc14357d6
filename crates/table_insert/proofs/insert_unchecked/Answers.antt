-- `insert_unchecked` meets its contract: one step writes up to the entry, and the rest is copied behind it.
use mathlib.Core.List.{[]}
use lib.ListN.{length}
use Rattle.model.specs.Map.{put}
use Rattle.model.specs.Table.{entry_of, table_in}
use Rattle.table_entries.proofs.Entries.{table_stands}
use Rattle.table_write.proofs.Merges.{merge_begun}
use Rattle.table_insert.proofs.Inserts.{room_for, rest_fits, same_used}
use native.Mathlib.Omega.{arith}
use Rattle.table_insert.proofs.insert_unchecked.Goals as goal

pub put_next-merge-requires-clause-standing : goal.put_next-merge-requires-clause-standing
put_next-merge-requires-clause-standing c = table_stands c.args.table.now c.args.rec c.requires.rec_value

pub put_next-merge-requires-clause-body_in_bounds : goal.put_next-merge-requires-clause-body_in_bounds
put_next-merge-requires-clause-body_in_bounds c =
    let a = c.args in
    let s = a.table.now in
    let w = c.requires.key_value in
    room_for a.key.now a.kind a.mtime a.size a.body.now (table_in s a.rec) (length s) (length a.work.now) w.1 c.requires.rec_in_bounds w.2

pub finish-requires : goal.finish-requires
finish-requires c =
    let a = c.args in
    let s = a.table.now in
    let p = c.put_next-merge in
    let t = table_in s a.rec in
    let new = put a.key.now (entry_of a.kind a.mtime a.size a.body.now) t in
    let m = p.ensures.merged t [] (merge_begun s a.work.now a.rec c.requires.rec_value) c.requires.key_value.0 in
    let f = rest_fits s p.new.work a.rec new a.key.now p.result.left p.result.at p.result.out c.requires.rec_value m p.ensures.at_value c.requires.rec_in_bounds in
    let l = p.ensures.work_len_unchanged in
    let g = c.requires.key_value.2 in
    record { at_le_used = f.0; at_in_bounds = (f.1, omega arith) }

pub returns-clause-table_after : goal.returns-clause-table_after
returns-clause-table_after c =
    let a = c.args in
    let s = a.table.now in
    let p = c.put_next-merge in
    let t = table_in s a.rec in
    let new = put a.key.now (entry_of a.kind a.mtime a.size a.body.now) t in
    let m = p.ensures.merged t [] (merge_begun s a.work.now a.rec c.requires.rec_value) c.requires.key_value.0 in
    c.finish.ensures.table_after new a.key.now m (same_used s a.rec p.result.left p.result.at c.requires.rec_value p.ensures.at_value)
