-- `base_paths::is_path` meets its contract. The loop's invariant: what the two states ask of the bytes to come is what the definition
-- asks of all of them.
use Rattle.base_paths.proofs.Pass.{Kept}
use Rattle.base_paths.proofs.is_path.Given as goal

abbrev pub invariant-loop-b : goal.invariant-loop-b
invariant-loop-b l = Kept l.s l.t l.n l.b-index
