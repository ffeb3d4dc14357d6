-- `base_fields::is_before` meets its contract: `Less` answers before, and no other.
use mathlib.Core.Path.{ap, ◌∙◌}
use Rattle.std.specs.Ordering.{is_lt}
use Rattle.model.specs.Bytes.{order}
use Rattle.base_fields.proofs.Slices.{less_before}
use Rattle.base_fields.proofs.is_before.Goals as goal

pub returns : goal.returns
returns c = c.is_lt.ensures ∙ ap is_lt c.compared.ensures ∙ less_before (order c.args.a.now c.args.b.now)
