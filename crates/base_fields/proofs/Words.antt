-- Eight bytes that are the same number are the same bytes: what two have in common goes on behind them.
-- Assumes nothing else than `IsBytes` where a law names it.
use mathlib.Core.Path.{◌≡◌, refl, sym, ap, ◌∙◌}
use mathlib.Core.List.{[], ◌∷◌, ◌++◌}
use Prim.Native.Nat.{ℕ, ◌+◌, ◌≤◌}
use native.Mathlib.Omega.{arith}
use lib.ListN.{length, drop}
use Rattle.model.specs.Bytes.{Bytes, number_at, bytes}
use Rattle.model.proofs.Words.{IsBytes}
use Rattle.base_fields.specs.Read.{common}
use Rattle.base_fields.proofs.Common.{heads, alike, apart}
use Rattle.base_fields.proofs.Pieces.{piece}

common_behind : (u s t : Bytes) → common (u ++ s) (u ++ t) ≡ length u + common s t
common_behind [] s t = omega arith
common_behind (b ∷ u) s t = elim (heads b (u ++ s) b (u ++ t)) [
  | alike e n o ↦ omega (arith, common_behind u s t)
  | apart e n o ↦ absurd (e refl)
]

pub same_word : (a b : Bytes) (i : ℕ) → IsBytes a → IsBytes b → i + 8 ≤ length a → i + 8 ≤ length b
    → number_at a i 8 ≡ number_at b i 8 → common (drop i a) (drop i b) ≡ 8 + common (drop (i + 8) a) (drop (i + 8) b)
same_word a b i ba bb ha hb e =
    let p = piece a ba i 8 (i + 8) refl ha in
    let q = piece b bb i 8 (i + 8) refl hb in
    let w : Bytes = bytes 8 (number_at a i 8) in
    let r : drop i b ≡ w ++ drop (i + 8) b = q ∙ ap (λ (n : ℕ). bytes 8 n ++ drop (i + 8) b) (sym e) in
    rw (p, r) (common_behind w (drop (i + 8) a) (drop (i + 8) b))
