-- `insert_all_unchecked` meets its contract: each turn of the loop writes up to one directory more, and the rest is copied behind the last.
use Rattle.std.proofs.Common.{get_or, drop_of_length-le}
use Rattle.base_paths.specs.Dirs.{ends_of}
use Rattle.table_dirs.proofs.Climbs.{key_length, ends_on}
use Rattle.table_dirs.proofs.Merging.{merging_begun, merging_room, merging_on, merging_fits, merging_over, merging_zeros}
use Rattle.table_dirs.proofs.insert_all_unchecked.Goals as goal

pub loop-end-init : goal.loop-end-init
loop-end-init c =
    let a = c.args in
    merging_begun a.mtime a.table.now a.work.now a.path.now (ends_of a.dirs) a.rec c.requires.rec_value c.requires.count_bound.1

pub slice_bounds-put_next-end : goal.slice_bounds-put_next-end
slice_bounds-put_next-end c = key_length c.args.path.now (ends_of c.args.dirs) c.loop-end.end-index c.requires.count_bound.1 c.loop-end-test.true

pub put_next-merge-requires-clause-standing : goal.put_next-merge-requires-clause-standing
put_next-merge-requires-clause-standing c = c.loop-end.invariant.merged.passed.stand

pub put_next-merge-requires-clause-body_in_bounds : goal.put_next-merge-requires-clause-body_in_bounds
put_next-merge-requires-clause-body_in_bounds c =
    let a = c.args in
    let l = c.loop-end in
    let es = ends_of a.dirs in
    merging_room a.mtime a.table.now a.work.now a.path.now es a.rec l.end-index l.work l.merge l.invariant
    (get_or es l.end-index 0) (ends_on es l.end-index c.loop-end-test.true) c.requires.rec_in_bounds c.requires.count_bound.2

pub loop-end-preserved : goal.loop-end-preserved
loop-end-preserved c =
    let a = c.args in
    let l = c.loop-end in
    let p = c.put_next-merge in
    let es = ends_of a.dirs in
    merging_on a.mtime a.table.now a.work.now a.path.now es a.rec l.end-index l.work l.merge l.invariant
    (get_or es l.end-index 0) p.new.work p.result (ends_on es l.end-index c.loop-end-test.true) p.ensures.merged p.ensures.work_len_unchanged p.ensures.at_value

pub finish-requires : goal.finish-requires
finish-requires c =
    let a = c.args in
    let l = c.loop-end in
    let es = ends_of a.dirs in
    let n = drop_of_length-le es {i = l.end-index} c.loop-end-test.false in
    let it = merging_fits a.mtime a.table.now a.work.now a.path.now es a.rec l.end-index l.work l.merge l.invariant c.requires.rec_value n c.requires.rec_in_bounds c.requires.count_bound.2 in
    record { at_le_used = it.0; at_in_bounds = it.1 }

pub returns : goal.returns
returns c =
    let a = c.args in
    let l = c.loop-end in
    let f = c.finish in
    let es = ends_of a.dirs in
    let n = drop_of_length-le es {i = l.end-index} c.loop-end-test.false in
    record { table_after = merging_over a.mtime a.table.now a.work.now a.path.now es a.rec l.end-index l.work l.merge l.invariant c.requires.rec_value n f.new.table f.ensures.table_after; work_after = merging_zeros a.mtime a.table.now a.work.now a.path.now es a.rec l.end-index l.work l.merge l.invariant f.new.work f.ensures.work_after }
