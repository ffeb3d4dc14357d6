-- `counts::count` meets its contract and ends: no more paths are counted than bytes were passed. The measure is how many
-- entries and records are to come.
use native.Mathlib.Omega.{arith}
use Rattle.view_merge.proofs.Steps.{merge_within}
use Rattle.test_lines.proofs.counts.count.Goals as goal

pub counted-counts-requires : goal.counted-counts-requires
counted-counts-requires c =
    let a = c.args in
    let l = c.loop-head in
    let p = (merge_within a.own.now a.part.now l.merge l.invariant.0).1 in
    let t = l.invariant.1 in
    omega arith
