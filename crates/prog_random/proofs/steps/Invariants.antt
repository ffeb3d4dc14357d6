-- `prog_random::steps` is safe: each lent buffer keeps its length.
use Rattle.std.proofs.Common.{◌≡◌, length}
use Rattle.prog_random.proofs.steps.Given as goal

abbrev pub invariant-loop-i : goal.invariant-loop-i
invariant-loop-i l = (length l.table ≡ length l.initial.table) × (length l.old ≡ length l.initial.old) × (length l.work ≡ length l.initial.work) × (length l.tree ≡ length l.initial.tree)
