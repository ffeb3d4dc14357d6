-- `lines::print_lines` meets its contract and ends: only a line that could not be printed gives an error. The measure
-- is how many entries and records are to come.
use Rattle.view_merge.specs.Merges.{Merging, remaining}
use Prim.Native.Nat.{◌≤◌}
use Rattle.test_lines.proofs.lines.print_lines.Given as goal

abbrev pub invariant-loop-head : goal.invariant-loop-head
invariant-loop-head g l = Merging l.own l.part l.merge × (remaining l.merge ≤ remaining l.initial.merge)

abbrev pub decreases-loop-head : goal.decreases-loop-head
decreases-loop-head g l = remaining l.merge
