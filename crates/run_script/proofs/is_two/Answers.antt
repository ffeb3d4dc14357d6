-- `is_two` meets its contract: the first four bytes are compared.
use mathlib.Core.Path.{sym}
use native.Mathlib.Omega.{arith}
use lib.Seq.{length-take-le}
use Rattle.run_script.proofs.Steps.{is_two_is}
use Rattle.run_script.proofs.is_two.Goals as goal

pub slice_bounds-mark-end : goal.slice_bounds-mark-end
slice_bounds-mark-end c = sym (length-take-le 4 c.args.script.now (omega arith))

pub returns : goal.returns
returns c = is_two_is c.args.script.now c.is_same.result c.is_same.ensures
