-- How many components a path has: a slash adds one, any other byte none.
use mathlib.Core.Path.{◌≡◌, refl, sym, ap, ◌∙◌}
use mathlib.Core.Bool.{cond}
use mathlib.Core.List.{[], ◌∷◌}
use Prim.Native.Nat.{ℕ, ◌+◌}
use native.Mathlib.Omega.{arith}
use lib.Dec.{eqb}
use lib.ListN.{length}
use Rattle.std.specs.List.{count_by}
use Rattle.std.proofs.lemmas.List.Recursion.{is_count_by}
use Rattle.model.specs.Path.{Path, components}
use Rattle.model.proofs.Orders.{yea, nay, test}
use Rattle.model.proofs.Texts.{on_first_length}

abbrev slashes : Path → ℕ
slashes [] = 0
slashes (b ∷ s) = cond (eqb b 47) (1 + slashes s) (slashes s)

one_more : (s : Path) → 1 + slashes s ≡ length (components s)
one_more [] = refl
one_more (b ∷ s) =
    let ih = one_more s in
    elim (test (eqb b 47)) [
      | yea z ↦ rw z (omega (arith, ih))
      | nay z ↦ rw z (omega (arith, ih, on_first_length b (components s)))
    ]

pub counted_slashes : (s : Path) → 1 + count_by (λ (b : ℕ). eqb b 47) s ≡ length (components s)
counted_slashes s = ap (λ (n : ℕ). 1 + n) (sym (is_count_by slashes (λ (b : ℕ). eqb b 47) refl (λ _ _. refl) s)) ∙ one_more s
