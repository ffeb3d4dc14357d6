-- What is known of a budget by what it answers when it is shrunk.
use mathlib.Core.Path.{◌≡◌, sym, ap, ◌∙◌}
use Prim.Native.Nat.{ℕ, ◌-◌, ◌<◌, ◌≤◌}
use lib.Dec.{leb}
use borrow.Author.Tests.{leb-true, leb-false}
use Rattle.std.specs.Prelude.{Result, Ok, Err}
use Rattle.model.proofs.Orders.{yea, nay, test, bot}
use Rattle.base_budget.specs.Budget.{shrunk}
use Rattle.base_budget.specs.declared.MemoryBudget.{MemoryBudget}
use Rattle.base_budget.specs.declared.MemoryUsageLimitExceeded.{MemoryUsageLimitExceeded}

-- the budget that is left, or what there is where none is
abbrev available_or : ℕ → Result MemoryBudget MemoryUsageLimitExceeded → ℕ
available_or d (Ok r) = r.available
available_or d (Err e) = d

module _ (b : MemoryBudget) (n : ℕ) where
  pub left_is : (r : MemoryBudget) → shrunk b n ≡ Ok r → (n ≤ b.available) × (r.available ≡ b.available - n)
  left_is r e = elim (test (leb n b.available)) [
    | yea z ↦ (leb-true n b.available z, sym (ap (available_or 0) e) ∙ rw z)
    | nay z ↦ absurd (bot (cc))
  ]

  pub exceeded_is : (x : MemoryUsageLimitExceeded) → shrunk b n ≡ Err x → b.available < n
  exceeded_is x e = elim (test (leb n b.available)) [
    | yea z ↦ absurd (bot (cc))
    | nay z ↦ leb-false n b.available z
  ]
