-- `prog_random::move_all` is safe: the length stays.
use Rattle.std.proofs.Common.{◌≡◌, length}
use Rattle.prog_random.proofs.move_all.Given as goal

abbrev pub invariant-loop-k : goal.invariant-loop-k
invariant-loop-k l = length l.tree ≡ length l.initial.tree
