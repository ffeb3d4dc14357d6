-- `planned_sum` meets its contract: the part below the source has all the keys that the plan asks for.
use mathlib.Core.Path.{refl}
use Rattle.model.specs.Table.{table_in}
use Rattle.rename_plan.proofs.Plans.{planned-part}
use Rattle.rename_plan.proofs.planned_sum.Goals as goal

pub returns-clause-value : goal.returns-clause-value
returns-clause-value c =
    let s = c.plan_sum in
    planned-part c.args.source.now c.args.destination.now (table_in c.args.table.now c.args.rec) _ s.result c.below-part.ensures.are
    (s.ensures.value c.args.source.now c.args.destination.now refl refl)
