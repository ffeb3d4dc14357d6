-- `offset_at` meets its contract: in TSC2 the head is long enough.
use native.Mathlib.Omega.{arith}
use Rattle.run_script.proofs.Steps.{long_head}
use Rattle.run_script.proofs.offset_at.Goals as goal

pub le64-requires : goal.le64-requires
le64-requires c = let h = long_head c.args.two c.if-two.true in omega arith
