-- `replay_all` is safe: the counts stay below what so many lists can have.
use Rattle.std.proofs.Common.{◌*◌, ◌≤◌}
use Rattle.prog_sample.proofs.replay_all.Given as goal

abbrev pub invariant-loop-i : goal.invariant-loop-i
invariant-loop-i g l = (l.calls ≤ 0x1_0000_0000 * l.i) × (l.differ ≤ l.i)
