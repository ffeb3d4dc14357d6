-- Numbers in bytes, read or written in two halves.
use mathlib.Core.Path.{◌≡◌, refl, sym, ap, ◌∙◌}
use mathlib.Core.List.{[], ◌∷◌, ◌++◌}
use Prim.Native.Nat.{ℕ, zero, suc, ◌+◌, ◌*◌, ◌/◌, ◌%◌, ◌^◌, ◌≤◌}
use native.Mathlib.Omega.{arith}
use native.Mathlib.Nat.{mul_assoc, pow-succ', div-one, div-div-eq-div-mul, zero-add, suc-add}
use lib.ListN.{length, take, drop, length-drop}
use lib.Seq.{take-add, drop-drop, length-take-le}
use Rattle.model.specs.Bytes.{Bytes, number, number_at, bytes}

pub number_append : (xs ys : Bytes) → number (xs ++ ys) ≡ number xs + 256 ^ length xs * number ys
number_append [] ys = omega arith
number_append (x ∷ xs) ys =
    let m : ℕ = 256 ^ length xs * number ys in
    let e : 256 ^ suc (length xs) * number ys ≡ 256 * m = rw (pow-succ' 256 (length xs), mul_assoc) in
    rw (number_append xs ys, e) (omega arith)

-- a number of n + m bytes is read in two parts
pub number_at_halves : (n m : ℕ) (s : Bytes) (at : ℕ) → at + n ≤ length s
    → number_at s at (n + m) ≡ number_at s at n + 256 ^ n * number_at s (at + n) m
number_at_halves n m s at h =
    let low : Bytes = take n (drop at s) in
    let l : length low ≡ n = length-take-le n (drop at s) (rw length-drop (omega arith)) in
    ap number (take-add n m (drop at s)) ∙ number_append low (take m (drop n (drop at s))) ∙ rw (l, drop-drop n at s)

pub length_bytes : (n v : ℕ) → length (bytes n v) ≡ n
length_bytes zero v = refl
length_bytes (suc n) v = ap suc (length_bytes n (v / 256))

-- v in n + m bytes is written in two parts
pub bytes_halves : (n m v : ℕ) → bytes n v ++ bytes m (v / 256 ^ n) ≡ bytes (n + m) v
bytes_halves zero m v = rw (div-one, zero-add)
bytes_halves (suc n) m v =
    let e : v / 256 ^ suc n ≡ v / 256 / 256 ^ n = rw pow-succ' (sym (div-div-eq-div-mul v 256 (256 ^ n))) in
    rw (e, suc-add) (ap (λ (s : Bytes). v % 256 ∷ s) (bytes_halves n m (v / 256)))
