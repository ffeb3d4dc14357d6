-- `prog_random::plant` is safe: the length stays.
use Rattle.std.proofs.Common.{◌≡◌, length}
use Rattle.prog_random.proofs.plant.Given as goal

abbrev pub invariant-loop-i : goal.invariant-loop-i
invariant-loop-i l = length l.tree ≡ length l.initial.tree
