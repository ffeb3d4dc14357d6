-- Byte strings in pieces: a number that was read is written as the same bytes, where they are bytes.
-- Assumes nothing else than `IsBytes` where a law names it.
use mathlib.Core.Path.{◌≡◌, refl, sym, ap, ◌∙◌}
use mathlib.Core.List.{[], ◌∷◌, ◌++◌, append_assoc}
use Prim.Native.Nat.{ℕ, zero, suc, ◌+◌, ◌*◌, ◌/◌, ◌%◌, ◌<◌, ◌≤◌}
use native.Mathlib.Omega.{arith}
use lib.ListN.{length, take, drop, get_or, take-append-drop, length-drop}
use lib.Seq.{drop-drop, length-take-le}
use Rattle.model.specs.Bytes.{Bytes, number, number_at, bytes}
use Rattle.model.proofs.Words.{IsBytes}
use Rattle.model.proofs.Formed.{bytes_drop}

-- bytes, by an index and as a list
pub bytes_of : (s : Bytes) → ((i : ℕ) → get_or s i 0 < 256) → IsBytes s
bytes_of [] h = tt
bytes_of (b ∷ s) h = (h 0, bytes_of s (λ i. h (suc i)))

pub bytes_take : (i : ℕ) (s : Bytes) → IsBytes s → IsBytes (take i s)
bytes_take zero s h = tt
bytes_take (suc i) [] h = tt
bytes_take (suc i) (b ∷ s) h = (h.0, bytes_take i s h.1)

pub bytes_number : (n : ℕ) (u : Bytes) → length u ≡ n → IsBytes u → bytes n (number u) ≡ u
bytes_number zero [] e h = refl
bytes_number zero (b ∷ u) e h = absurd (omega arith)
bytes_number (suc n) [] e h = absurd (omega arith)
bytes_number (suc n) (b ∷ u) e h =
    let l : length u ≡ n = omega arith in
    let p : (b + 256 * number u) % 256 ≡ b = omega arith in
    let q : (b + 256 * number u) / 256 ≡ number u = omega arith in
    rw (p, q, bytes_number n u l h.1)

-- the bytes of s from i on, cut at k
module _ (s : Bytes) where
  pub cut : (i j k : ℕ) → k ≡ i + j → drop i s ≡ take j (drop i s) ++ drop k s
  cut i j k e = rw e (sym (take-append-drop j (drop i s)) ∙ ap (λ (l : Bytes). take j (drop i s) ++ l) (drop-drop j i s))

  pub part_length : (i j : ℕ) → i + j ≤ length s → length (take j (drop i s)) ≡ j
  part_length i j h = length-take-le j (drop i s) (rw length-drop (omega arith))

  pub piece : IsBytes s → (i j k : ℕ) → k ≡ i + j → i + j ≤ length s → drop i s ≡ bytes j (number_at s i j) ++ drop k s
  piece bs i j k e h =
      let b = bytes_number j (take j (drop i s)) (part_length i j h) (bytes_take j (drop i s) (bytes_drop i s bs)) in
      cut i j k e ∙ ap (λ (l : Bytes). l ++ drop k s) (sym b)

-- seven pieces and what is behind them
pub grouped : (a b c d e k w r : Bytes) → a ++ (b ++ (c ++ (d ++ (e ++ (k ++ (w ++ r)))))) ≡ (a ++ (b ++ (c ++ (d ++ (e ++ (k ++ w)))))) ++ r
grouped a b c d e k w r = simp append_assoc
