-- `prog_paths::listed::run` ends: the measure is how many bytes are to come.
use Rattle.std.proofs.Common.{length}
use Rattle.prog_paths.proofs.listed.run.Given as goal

abbrev pub decreases-loop-n : goal.decreases-loop-n
decreases-loop-n g l = length l.rest
