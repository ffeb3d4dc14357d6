-- `base_fields::is_same` meets its contract.
use mathlib.Core.Path.{◌∙◌}
use Rattle.base_fields.proofs.Slices.{pointwise_same}
use Rattle.base_fields.proofs.is_same.Goals as goal

pub returns : goal.returns
returns c = c.eq.ensures ∙ pointwise_same c.args.a.now c.args.b.now
