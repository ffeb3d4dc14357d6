-- `is_step` meets its contract: a step that fits has its head.
use mathlib.Core.Path.{sym, ◌∙◌}
use Rattle.run_script.proofs.Steps.{fits_is}
use Rattle.run_script.proofs.is_step.Goals as goal

pub is_headed-requires : goal.is_headed-requires
is_headed-requires c =
    let a = c.args in
    (fits_is a.two a.script.now a.at (sym c.is_inside.ensures ∙ c.if-is_inside.true)).0
