-- `check_replacements` meets its contract: each turn of the loop measures one directory more, whatever its mtime.
use Rattle.std.proofs.Common.{refl, get_or, length-take, drop_of_length-le, arith}
use Rattle.model.specs.Tree.{directory}
use Rattle.base_paths.specs.Dirs.{ends_of}
use Rattle.table_dirs.proofs.Climbs.{key_length, ends_on}
use Rattle.table_dirs.proofs.Passing.{measuring_begun, measuring_counts, measuring_on, measuring_over}
use Rattle.table_dirs.proofs.check_replacements.Goals as goal

pub loop-end-init : goal.loop-end-init
loop-end-init c =
    let a = c.args in
    let f = c.first_entry-place in
    λ m. measuring_begun (directory m) a.table.now a.path.now (ends_of a.dirs) a.rec f.result c.requires.rec_value c.requires.count_bound.1 f.ensures.value

pub slice_bounds-projected-end : goal.slice_bounds-projected-end
slice_bounds-projected-end c = key_length c.args.path.now (ends_of c.args.dirs) c.loop-end.end-index c.requires.count_bound.1 c.loop-end-test.true

pub projected-next-requires-clause-counts : goal.projected-next-requires-clause-counts
projected-next-requires-clause-counts c =
    let a = c.args in
    let l = c.loop-end in
    let n = length-take a.dirs.count a.dirs.ends in
    let h = c.requires.count_bound.0 in
    let b = c.loop-end-test.true in
    measuring_counts (directory 0) a.table.now a.path.now (ends_of a.dirs) a.rec l.end-index l.place l.after (l.invariant 0) c.requires.rec_value (omega arith)

pub loop-end-preserved : goal.loop-end-preserved
loop-end-preserved c =
    let a = c.args in
    let l = c.loop-end in
    let p = c.projected-next in
    let es = ends_of a.dirs in
    λ m. measuring_on (directory m) a.table.now a.path.now es a.rec l.end-index l.place l.after (l.invariant m)
    (get_or es l.end-index 0) p.result.place p.result.rec c.requires.path_value refl (ends_on es l.end-index c.loop-end-test.true) p.ensures

pub returns : goal.returns
returns c =
    let a = c.args in
    let l = c.loop-end in
    let es = ends_of a.dirs in
    λ m. measuring_over (directory m) a.table.now a.path.now es a.rec l.end-index l.place l.after (l.invariant m)
    (drop_of_length-le es {i = l.end-index} c.loop-end-test.false)
