-- `prog_paths::built::climbed` is safe and ends. The loop's invariant: the cursor is within the path, and passed as many bytes as ancestors
-- at least. The measure is how many are to come: the cursor's next answer lies behind the last.
use Rattle.std.proofs.Common.{◌-◌, ◌≤◌, length}
use Rattle.prog_paths.proofs.built.climbed.Given as goal

abbrev pub invariant-loop-k : goal.invariant-loop-k
invariant-loop-k l = (l.i ≤ l.k) × (l.k ≤ length l.path)

abbrev pub decreases-loop-k : goal.decreases-loop-k
decreases-loop-k l = length l.path - l.k
