-- The plan's sum over what is below the source alone; what the plan gives, by the two comparisons; what a stopped walk gives.
use mathlib.Core.Path.{◌≡◌, refl, ap, ◌∙◌}
use mathlib.Core.Bool.{true}
use mathlib.Core.List.{[], ◌∷◌}
use mathlib.Core.Option.{Option, some}
use Prim.Native.Nat.{ℕ, ◌+◌, ◌-◌, ◌*◌}
use native.Mathlib.Omega.{arith}
use lib.ListN.{length}
use borrow.Author.Tests.{le-leb}
use Rattle.model.specs.Bytes.{every}
use Rattle.model.specs.Path.{Path, below}
use Rattle.model.specs.Map.{only, keys}
use Rattle.model.specs.Tree.{Table}
use Rattle.model.specs.Table.{charge}
use Rattle.model.specs.Checks.{Check, ◌then◌, limited}
use Rattle.model.specs.Rename.{new_key, planned, plan, budget}
use Rattle.base_budget.specs.Budget.{shrunk}
use Rattle.base_budget.specs.declared.MemoryBudget.{MemoryBudget}
use Rattle.std.specs.Prelude.{Ok}
use Rattle.base_budget.proofs.Budgets.{left_is}
use Rattle.model.proofs.Orders.{yea, nay, test}
use Rattle.model.proofs.Maps.{every_only}

-- keys that are not below a add nothing
planned_below : (a b : Path) (t : Table) → planned a b (only (below a) t) ≡ planned a b t
planned_below a b [] = refl
planned_below a b (x ∷ xs) =
    let ih = planned_below a b xs in
    elim (test (below a x.0)) [
      | yea e ↦ rw (e, e) (ap (λ (n : ℕ). 2 * length x.0 + length (new_key a b x.0) + 256 + n) ih)
      | nay e ↦ rw e (omega arith)
    ]

-- p is the part of t below a, and s the sum over it
pub planned-part :
    (a b : Path) (t p : Table) (s : ℕ) → p ≡ only (below a) t → (every (below a) (keys p) ≡ true → s ≡ planned a b p) → s ≡ planned a b t
planned-part a b t p s e h = h (ap (λ (m : Table). every (below a) (keys m)) e ∙ every_only (below a) t) ∙ ap (planned a b) e ∙ planned_below a b t

-- c is the table's charge; what it leaves of the limit is a budget, and what the plan's sum s leaves of that another
module _ (E limit : ℕ) (t : Table) (a b : Path) (c : ℕ) (e : c ≡ charge E t) where
  abbrev whole : MemoryBudget
  whole = record { available = limit; limit = limit }

  module _ (s : ℕ) (f : s ≡ planned a b t) (free : MemoryBudget) (h : shrunk whole c ≡ Ok free) where
    -- x is what the next check, `at` a budget, gave
    pub within : (at : Option ℕ → Check) (x : Check) (rest : MemoryBudget) → shrunk free s ≡ Ok rest
        → x ≡ at (some rest.available) → x ≡ (plan (limited E limit) t a b then at (budget (limited E limit) t a b))
    within at x rest i j =
        let l = left_is whole c free h in
        let m = left_is free s rest i in
        let y = l.0 in
        let z = l.1 in
        let u = m.0 in
        let v = m.1 in
        let w : rest.available ≡ limit - charge E t - planned a b t =
        v ∙ ap (λ (n : ℕ). n - s) z ∙ ap (λ (n : ℕ). limit - n - s) e ∙ ap (λ (n : ℕ). limit - charge E t - n) f in
        rw (le-leb (charge E t) limit (omega arith), le-leb (planned a b t) (limit - charge E t) (omega arith))
        (j ∙ ap (λ (n : ℕ). at (some n)) w)
