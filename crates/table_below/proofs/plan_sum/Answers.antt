-- `plan_sum` meets its contract: each entry adds what the plan has for its key, and takes at least 24 bytes, so that the sum stays small.
use native.Mathlib.Omega.{arith}
use Rattle.table_entries.proofs.Entries.{entry_inside, left_some, stands_here}
use Rattle.table_below.proofs.Sums.{sum_start, sum_on, sum_end}
use Rattle.table_below.proofs.plan_sum.Goals as goal

pub loop-i-init : goal.loop-i-init
loop-i-init c = sum_start _ _ _ _ c.requires.standing

pub le16-n-requires : goal.le16-n-requires
le16-n-requires c = omega (arith, entry_inside _ _ _ c.loop-i.invariant.stand (left_some _ _ c.loop-i-test.true))

pub le32-m-requires : goal.le32-m-requires
le32-m-requires c = omega (arith, entry_inside _ _ _ c.loop-i.invariant.stand (left_some _ _ c.loop-i-test.true))

pub plan_of-sum-requires : goal.plan_of-sum-requires
plan_of-sum-requires c =
    let k = stands_here _ _ _ (left_some _ _ c.loop-i-test.true) c.loop-i.invariant.stand in
    (omega (arith, k.key_length, k.key_short, c.le16-n.ensures.0), c.requires.from_bound.1)

pub overflow_add-sum : goal.overflow_add-sum
overflow_add-sum c =
    let l = c.loop-i.invariant in
    omega (arith, l.few, l.stand.within, l.stand.small, c.plan_of-sum.ensures.1)

pub loop-i-preserved : goal.loop-i-preserved
loop-i-preserved c =
    let v = c.plan_of-sum in
    sum_on _ _ _ _ _ _ _ c.loop-i.invariant c.loop-i-test.true _ c.le16-n.ensures.0 _ c.le32-m.ensures.0 _ v.ensures.0 v.ensures.1

pub returns : goal.returns
returns c =
    let i = c.loop-i.invariant in
    record { value = sum_end _ _ _ _ _ _ _ i c.loop-i-test.false; upper_bound = omega (arith, i.few, i.stand.within, i.stand.small) }
