-- `plan_need` meets its contract: the charge, the plan's sum and what the walk needs, none of which is large.
use Rattle.std.proofs.Common.{refl}
use native.Mathlib.Omega.{arith}
use Rattle.model.specs.Listing.{tree_in}
use Rattle.model.specs.Table.{table_in}
use Rattle.model.proofs.Codec.{charge_is}
use Rattle.least_rename.proofs.Needing.{plan_sums, charge_small}
use Rattle.least_rename.proofs.plan_need.Goals as goal

pub overflow_add-result : goal.overflow_add-result
overflow_add-result c = omega (arith, charge_small c.args.table.now c.args.rec c.requires.given.table_is, c.planned_sum-sum.ensures.upper_bound)

pub overflow_add-result-2 : goal.overflow_add-result-2
overflow_add-result-2 c =
    omega (arith, charge_small c.args.table.now c.args.rec c.requires.given.table_is, c.planned_sum-sum.ensures.upper_bound, c.in_ok-more.ensures.at_most)

pub returns-clause-needed_for : goal.returns-clause-needed_for
returns-clause-needed_for c =
    let a = c.args in
    plan_sums a.rec.entry_size (table_in a.table.now a.rec) (tree_in a.listing.now) a.source.now a.destination.now
    c.in_ok-more.more c.in_ok-more.ensures.needed_for a.rec.charge c.planned_sum-sum.result _ (charge_is a.table.now a.rec c.requires.given.table_is)
    c.planned_sum-sum.ensures.value refl

pub returns-clause-at_most : goal.returns-clause-at_most
returns-clause-at_most c =
    omega (arith, charge_small c.args.table.now c.args.rec c.requires.given.table_is, c.planned_sum-sum.ensures.upper_bound, c.in_ok-more.ensures.at_most)
