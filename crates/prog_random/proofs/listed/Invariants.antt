-- `prog_random::listed` is safe: the length stays.
use Rattle.std.proofs.Common.{◌≡◌, length}
use Rattle.prog_random.proofs.listed.Given as goal

abbrev pub invariant-loop-k : goal.invariant-loop-k
invariant-loop-k l = length l.s ≡ length l.initial.s
