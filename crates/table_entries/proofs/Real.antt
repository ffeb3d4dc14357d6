-- Which 64 bits are a NaN's, and that all of them are the one NaN.
use mathlib.Core.Path.{◌≡◌, refl, sym, ◌∙◌, subst}
use mathlib.Core.Bool.{Bool, true, false, not}
use Prim.Native.Nat.{ℕ, ◌≤◌, ◌<◌, ◌%◌}
use lib.Dec.{T}
use lib.Ieee.{Float, nan, inf, fin, binary64, nan_bits, is_nan, of_bits}
use lib.Ieee.Bits.{nan_bits_above, nan_bits_is}
use borrow.Author.Tests.{le-ltb, lt-ltb}

-- bits up to the infinity's, the sign taken off, are no NaN's
pub real_bits : (n : ℕ) → n % 0x8000_0000_0000_0000 ≤ 0x7ff0_0000_0000_0000 → T (not (nan_bits binary64 n))
real_bits n h =
    let is_real : nan_bits binary64 n ≡ false = nan_bits_above binary64 n ∙ le-ltb 0x7ff0_0000_0000_0000 (n % 0x8000_0000_0000_0000) h in
    subst (λ (b : Bool). T (not b)) (sym is_real) tt

one_nan : (x : Float) → is_nan x ≡ true → nan ≡ x
unfolding is_nan
one_nan nan h = refl
one_nan (inf s) h = absurd (subst (λ (b : Bool). T (not b)) h tt)
one_nan (fin s m e) h = absurd (subst (λ (b : Bool). T (not b)) h tt)

-- all others are, and what they are is the constant's NaN
pub not_real : (n : ℕ) → 0x7ff0_0000_0000_0000 < n % 0x8000_0000_0000_0000 → of_bits binary64 0x7ff8_0000_0000_0000 ≡ of_bits binary64 n
unfolding of_bits
not_real n h = one_nan (of_bits binary64 n) (sym (nan_bits_is binary64 n) ∙ nan_bits_above binary64 n ∙ lt-ltb 0x7ff0_0000_0000_0000 (n % 0x8000_0000_0000_0000) h)
