-- Bytes that are all 0: the test as an equation, and as what is folded over them.
use mathlib.Core.Path.{◌≡◌, refl, sym, ap, ap₂, ◌∙◌}
use mathlib.Core.Bool.{Bool, true, ◌&&◌, and-true, and_assoc}
use mathlib.Core.List.{[], ◌∷◌, ◌++◌}
use Prim.Native.Nat.{ℕ, zero, suc, ◌+◌, ◌-◌, ◌≤◌}
use native.Mathlib.Omega.{arith}
use lib.Dec.{eqb}
use lib.ListN.{length, take, drop, replicate, length-drop}
use lib.Seq.{take_at}
use borrow.Author.Tests.{eqb-true}
use Rattle.std.specs.List.{fold}
use Rattle.model.specs.Bytes.{Bytes}
use Rattle.model.specs.Table.{padded}
use Rattle.model.proofs.Orders.{and_true}
use Rattle.base_fields.specs.Read.{zeros}
use Rattle.base_fields.specs.Write.{overwritten}
use Rattle.base_fields.proofs.Writes.{length_overwritten}

pub zeros_are : (s : Bytes) → zeros s ≡ true → s ≡ replicate (length s) 0
zeros_are [] h = refl
zeros_are (b ∷ s) h = let e = and_true (eqb b 0) (zeros s) h in ap₂ ◌∷◌ (eqb-true b 0 e.0) (zeros_are s e.1)

pub zeros_of : (n : ℕ) → zeros (replicate n 0) ≡ true
zeros_of zero = refl
zeros_of (suc n) = zeros_of n

-- all bytes from n on are 0, as a test and as an equation, both ways
pub zeros_behind : (s : Bytes) (n : ℕ) → zeros (drop n s) ≡ true → drop n s ≡ replicate (length s - n) 0
zeros_behind s n h = zeros_are (drop n s) h ∙ rw length-drop

pub behind_zeros : (s : Bytes) (n : ℕ) → drop n s ≡ replicate (length s - n) 0 → zeros (drop n s) ≡ true
behind_zeros s n e = rw e (zeros_of (length s - n))

-- what zeroing leaves: all of a buffer, and what is behind bs, once bs is written to its start
pub zeroed_all : (t : Bytes) → take 0 t ++ replicate (length t - 0) 0 ≡ replicate (length t) 0
zeroed_all t = let e : length t - 0 ≡ length t = omega arith in rw e

pub zeroed_behind : (t bs : Bytes) (n : ℕ) → length bs ≡ n → n ≤ length t
    → take n (overwritten t 0 bs) ++ replicate (length (overwritten t 0 bs) - n) 0 ≡ padded (length t) bs
zeroed_behind t bs n e h =
    let front : take n (overwritten t 0 bs) ≡ bs = take_at bs (drop (0 + length bs) t) n e in
    let size : length (overwritten t 0 bs) ≡ length t = length_overwritten t 0 bs (omega arith) in
    ap₂ (λ (s : Bytes) (k : ℕ). s ++ replicate (k - n) 0) front size
    ∙ ap (λ (k : ℕ). bs ++ replicate (length t - k) 0) (sym e)

-- what `all_zero` folds
fold_zeros : (s : Bytes) (ok : Bool) → fold (λ (a : Bool) (b : ℕ). a && eqb b 0) ok s ≡ (ok && zeros s)
fold_zeros [] ok = sym (and-true ok)
fold_zeros (b ∷ s) ok = fold_zeros s (ok && eqb b 0) ∙ and_assoc ok (eqb b 0) (zeros s)

pub folded : (s : Bytes) → fold (λ (a : Bool) (b : ℕ). a && eqb b 0) true s ≡ zeros s
folded s = fold_zeros s true
