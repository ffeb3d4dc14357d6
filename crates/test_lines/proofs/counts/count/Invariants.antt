-- `counts::count` meets its contract and ends: no more paths are counted than bytes were passed. The measure is how many
-- entries and records are to come.
use Prim.Native.Nat.{◌≤◌}
use Rattle.view_merge.specs.Merges.{Merging, remaining, passed}
use Rattle.test_lines.specs.Totals.{total}
use Rattle.test_lines.proofs.counts.count.Given as goal

abbrev pub invariant-loop-head : goal.invariant-loop-head
invariant-loop-head l = Merging l.own l.part l.merge × (total l.counts ≤ passed l.merge)

abbrev pub decreases-loop-head : goal.decreases-loop-head
decreases-loop-head l = remaining l.merge
