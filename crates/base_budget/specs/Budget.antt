-- What a memory budget answers. `shrink` on what is free of a limit is document 01's plan: "… the rest is the walk's
-- budget".
use Rattle.std.specs.Prelude.{Bool, cond, ℕ, ◌-◌, leb, Result, Ok, Err}
use Rattle.base_budget.specs.declared.MemoryBudget.{MemoryBudget}
use Rattle.base_budget.specs.declared.MemoryUsageLimitExceeded.{MemoryUsageLimitExceeded}

-- bytes are within what is available; equal passes
abbrev pub covers : MemoryBudget → ℕ → Bool
covers b n = leb n b.available

-- the budget with n fewer available, or the error with the limit where n is above it
abbrev pub shrunk : MemoryBudget → ℕ → Result MemoryBudget MemoryUsageLimitExceeded
shrunk b n = cond (covers b n) (Ok (record { available = b.available - n; limit = b.limit }))
    (Err (record { limit = b.limit }))
