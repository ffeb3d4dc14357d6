-- `plan_sum` meets its contract: each entry adds what the plan has for its key, and takes at least 24 bytes, so that the sum stays small.
use Prim.Native.Nat.{◌-◌}
use Rattle.table_below.proofs.Sums.{Summing}
use Rattle.table_below.proofs.plan_sum.Given as goal

abbrev pub invariant-loop-i : goal.invariant-loop-i
invariant-loop-i l = Summing l.part l.from l.to l.count (l.count - l._i) l.at l.sum
