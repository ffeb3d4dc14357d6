-- `measure_names` meets its contract: each turn of the loop counts the name of what is next, if it has one.
use native.Mathlib.Omega.{arith}
use Rattle.show_write.proofs.Measures.{sum_on}
use Rattle.show_write.proofs.measure_names.Goals as goal

pub overflow_add-sum : goal.overflow_add-sum
overflow_add-sum c =
    let a = c.args in
    let l = c.loop-head in
    let r = c.advance-next in
    let n = c.name_size-sum in
    let s = (sum_on a.own.now a.part.now a.dir.now a.first l.merge l.sum l.invariant _ r.result r.ensures.merging_2 r.ensures.head_bound r.ensures.merge_value n.result n.ensures).0 in
    omega arith

pub loop-head-preserved : goal.loop-head-preserved
loop-head-preserved c =
    let a = c.args in
    let l = c.loop-head in
    let r = c.advance-next in
    let n = c.name_size-sum in
    (sum_on a.own.now a.part.now a.dir.now a.first l.merge l.sum l.invariant _ r.result r.ensures.merging_2 r.ensures.head_bound r.ensures.merge_value n.result n.ensures).1
