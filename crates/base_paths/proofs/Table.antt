-- A rule proved by one test that antt computes: at each entry of a table, one after the other, or at each number below a bound.
use mathlib.Core.Path.{◌≡◌, ◌∙◌, subst, sym}
use mathlib.Core.Bool.{Bool, true, ◌&&◌}
use mathlib.Core.List.{List, [], ◌∷◌}
use Prim.Native.Nat.{ℕ, zero, suc, ◌+◌, ◌<◌}
use native.Mathlib.Nat.{add-zero, add-suc, suc-add, le_of_suc-le-suc, not-suc-le-zero}
use lib.ListN.{length, get_or}
use Rattle.model.proofs.Orders.{and_true}

-- the test f passes at each entry of the list and its place, counted from i
abbrev pub each : (ℕ → ℕ → Bool) → ℕ → List ℕ → Bool
each f i [] = true
each f i (x ∷ xs) = f i x && each f (suc i) xs

pub from : (f : ℕ → ℕ → Bool) (xs : List ℕ) (i : ℕ) → each f i xs ≡ true
    → (k : ℕ) → k < length xs → f (i + k) (get_or xs k 0) ≡ true
from f [] i t k h = absurd (not-suc-le-zero h)
from f (x ∷ xs) i t zero h = rw add-zero (and_true (f i x) (each f (suc i) xs) t).0
from f (x ∷ xs) i t (suc k) h =
    subst (λ (m : ℕ). f m (get_or xs k 0) ≡ true) (suc-add i k ∙ sym (add-suc i k))
    (from f xs (suc i) (and_true (f i x) (each f (suc i) xs) t).1 k (le_of_suc-le-suc h))

-- the test f passes at each number below n
abbrev pub each_below : (ℕ → Bool) → ℕ → Bool
each_below f zero = true
each_below f (suc n) = f 0 && each_below (λ (k : ℕ). f (suc k)) n

pub below : (f : ℕ → Bool) (n : ℕ) → each_below f n ≡ true → (k : ℕ) → k < n → f k ≡ true
below f zero t k h = absurd (not-suc-le-zero h)
below f (suc n) t zero h = (and_true (f 0) (each_below (λ (j : ℕ). f (suc j)) n) t).0
below f (suc n) t (suc k) h =
    below (λ (j : ℕ). f (suc j)) n (and_true (f 0) (each_below (λ (j : ℕ). f (suc j)) n) t).1 k (le_of_suc-le-suc h)
