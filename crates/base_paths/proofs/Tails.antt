-- Laws of `characters` at the ranges that a `Tail` stands for.
use mathlib.Core.Path.{◌≡◌, refl, sym}
use mathlib.Core.Bool.{true, false}
use mathlib.Core.List.{[], ◌∷◌}
use Prim.Native.Nat.{ℕ, zero, suc, ◌-◌}
use native.Mathlib.Omega.{arith}
use lib.Dec.{leb, eqb, eqb-suc-zero, leb-suc-zero}
use lib.ListN.{replicate}
use Rattle.model.specs.Bytes.{Bytes}
use Rattle.model.specs.Utf8.{Range, within, tail, nowhere, characters}
use Rattle.model.proofs.Orders.{yea, nay, test}
use Rattle.base_paths.specs.Scan.{ranges}

no_byte : (b : ℕ) → within nowhere b ≡ false
no_byte zero = refl
no_byte (suc b) = elim (test (leb 1 (suc b))) [ yea e ↦ cc (leb-suc-zero b) | nay e ↦ cc ]

-- nothing follows where no byte may
pub stuck : (s : Bytes) → characters (nowhere ∷ []) s ≡ false
stuck [] = refl
stuck (b ∷ s) = cc (no_byte b)

tails : (n : ℕ) → ranges n tail ≡ replicate n tail
tails zero = refl
tails (suc n) = refl

-- a byte in its range
pub passed : (n : ℕ) (r : Range) (b : ℕ) (s : Bytes) → (n ≡ 0 → ⊥) → within r b ≡ true
    → characters (ranges (n - 1) tail) s ≡ characters (ranges n r) (b ∷ s)
passed zero r b s p e = absurd (p refl)
passed (suc n) r b s p e = let m : suc n - 1 ≡ n = omega arith in cc (tails n)

-- a text ends only where nothing is needed
pub at_end : (n : ℕ) (r : Range) → characters (ranges n r) [] ≡ eqb n 0
at_end zero r = refl
at_end (suc n) r = sym (eqb-suc-zero n)
