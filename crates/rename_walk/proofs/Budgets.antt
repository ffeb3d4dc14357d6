-- One node visited within a budget, as the code adds, and what an answer says of a node.
use mathlib.Core.Path.{◌≡◌, sym, ◌∙◌}
use mathlib.Core.Bool.{Bool, true}
use Prim.Native.Nat.{ℕ, ◌+◌, ◌≤◌}
use native.Mathlib.Omega.{arith}
use borrow.Author.Tests.{leb-true}
use Rattle.std.specs.Prelude.{Ok}
use Rattle.base_budget.specs.Budget.{covers, shrunk}
use Rattle.base_budget.specs.declared.MemoryBudget.{MemoryBudget}
use Rattle.base_budget.proofs.Budgets.{left_is}

-- the budget b was shrunk by the sum s to r, and t is whether r covers the cost c
module _ (b : MemoryBudget) (s c : ℕ) (r : MemoryBudget) (e : shrunk b s ≡ Ok r) (t : Bool) (f : t ≡ covers r c) where
  pub covered : t ≡ true → s + c ≤ b.available
  covered h =
      let l = left_is b s r e in
      let m = leb-true c r.available (sym f ∙ h) in
      omega (arith, l.0, l.1)
