-- `base_fields::compared` meets its contract: std's order of slices is the model's.
use mathlib.Core.Path.{◌∙◌}
use Rattle.base_fields.proofs.Slices.{ordered}
use Rattle.base_fields.proofs.compared.Goals as goal

pub returns : goal.returns
returns c = c.cmp.ensures ∙ ordered c.args.a.now c.args.b.now
