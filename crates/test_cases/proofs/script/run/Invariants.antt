-- `script::run` is safe and ends: the buffers keep their lengths, and the measure is how many bytes of the text are to
-- come.
use Rattle.std.proofs.Common.{◌≡◌, length}
use Rattle.test_cases.proofs.script.run.Given as goal

abbrev pub invariant-loop-n : goal.invariant-loop-n
invariant-loop-n g l = (length l.table ≡ length l.initial.table) × (length l.old ≡ length l.initial.old) × (length l.work ≡ length l.initial.work)

abbrev pub decreases-loop-n : goal.decreases-loop-n
decreases-loop-n g l = length l.rest
