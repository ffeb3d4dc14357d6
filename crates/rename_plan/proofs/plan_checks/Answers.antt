-- `plan_checks` meets its contract: the charge, the plan's sum, and the walk within what both leave of the limit.
use mathlib.Core.Path.{sym, ◌∙◌}
use mathlib.Core.Option.{Option}
use Prim.Native.Nat.{ℕ}
use lib.ListN.{length}
use Rattle.model.specs.Map.{lookup}
use Rattle.model.specs.Tree.{kind}
use Rattle.model.specs.Listing.{tree_in}
use Rattle.model.specs.Table.{table_in}
use Rattle.model.specs.Rename.{if_directory, walk_from, walked}
use Rattle.check_judged.specs.Judged.{check_of}
use Rattle.model.proofs.Codec.{charge_is}
use Rattle.rename_plan.proofs.Plans.{within}
use Rattle.rename_plan.proofs.plan_checks.Goals as goal

pub returns : goal.returns
returns c =
    let a = c.args in
    let t = table_in a.table.now a.rec in
    let l = tree_in a.listing.now in
    let x = a.source.now in
    let e = charge_is a.table.now a.rec c.requires.given.table_is in
    let w = c.walk_checks in
    within a.rec.entry_size a.limit t x a.destination.now a.rec.charge e
    c.planned_sum-sum.result c.planned_sum-sum.ensures.value _ (sym c.available_memory.ensures ∙ c.in-Ok.is)
    (λ (b : Option ℕ). if_directory (kind (lookup l) x) (walked (length x) (walk_from t l b x)))
    (check_of w.result) _ (sym c.shrink.ensures ∙ c.in-Ok-shrink.is) w.ensures
