-- `has_rows` meets its contract: it counts 32 bytes for each step.
use mathlib.Core.Path.{ap}
use Prim.Native.Nat.{ℕ, ◌*◌}
use lib.Dec.{leb}
use Rattle.run_script.proofs.has_rows.Goals as goal

pub returns : goal.returns
returns c = ap (λ (n : ℕ). leb (32 * n) c.args.len) c.le32-count.ensures.0
