-- `third_length` meets its contract: in TSC2 the head is long enough.
use native.Mathlib.Omega.{arith}
use Rattle.run_script.proofs.Steps.{long_head}
use Rattle.run_script.proofs.third_length.Goals as goal

pub le32-requires : goal.le32-requires
le32-requires c = let h = long_head c.args.two c.if-two.true in omega arith
