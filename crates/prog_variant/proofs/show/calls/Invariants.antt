-- `show::calls` is safe: each line begins within the script.
use Rattle.std.proofs.Common.{◌≤◌, length}
use Rattle.prog_variant.proofs.show.calls.Given as goal

abbrev pub invariant-loop-i : goal.invariant-loop-i
invariant-loop-i g l = l.at ≤ length l.script
