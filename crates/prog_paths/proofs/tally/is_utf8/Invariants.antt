-- `prog_paths::tally::is_utf8` meets its contract. The loop's invariant: what the state asks of the bytes to come is what the definition
-- asks of all of them.
use Rattle.std.proofs.Common.{◌≡◌, drop}
use Rattle.model.specs.Utf8.{characters, utf8}
use Rattle.base_paths.specs.Scan.{pending}
use Rattle.prog_paths.proofs.tally.is_utf8.Given as goal

abbrev pub invariant-loop-b : goal.invariant-loop-b
invariant-loop-b l = characters (pending l.t) (drop l.b-index l.s) ≡ utf8 l.s
