-- `is_ruled` meets its contract: the definition is the expression that the code has.
use mathlib.Core.Path.{refl}
use Rattle.run_script.specs.Script.{ruled}
use Rattle.run_script.proofs.is_ruled.Goals as goal

pub returns : goal.returns
unfolding ruled
returns c = refl
