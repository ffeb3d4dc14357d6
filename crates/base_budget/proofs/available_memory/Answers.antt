-- `available_memory` meets its contract: what is left of the whole limit.
use mathlib.Core.Path.{ap, ◌∙◌}
use Rattle.base_budget.specs.Budget.{shrunk}
use Rattle.base_budget.specs.declared.MemoryBudget.{MemoryBudget}
use Rattle.base_budget.proofs.available_memory.Goals as goal

pub returns : goal.returns
returns c =
    let a = c.args in
    c.shrink.ensures ∙ ap (λ (b : MemoryBudget). shrunk b a.charge) c.full.ensures
