-- Laws of `overwritten`: its length, what stands before and behind it, and two writes in a row.
use mathlib.Core.Path.{◌≡◌, sym, ap, ap₂, ◌∙◌}
use mathlib.Core.List.{[], ◌∷◌, ◌++◌, append_assoc, append-nil}
use Prim.Native.Nat.{ℕ, suc, ◌+◌, ◌/◌, ◌^◌, ◌<◌, ◌≤◌}
use native.Mathlib.Omega.{arith}
use native.Mathlib.Nat.{add-zero, add_assoc}
use native.Mathlib.Numerals.{add-one}
use lib.ListN.{length, take, drop, set, length-append, length-drop, take-append-drop}
use lib.Seq.{set_split, append_snoc, take_at, drop_at, drop-drop, length-take-le}
use Rattle.model.specs.Bytes.{Bytes, bytes}
use Rattle.base_fields.specs.Write.{overwritten}
use Rattle.base_fields.proofs.Numbers.{length_bytes, bytes_halves}

-- nothing written
pub overwritten_none : (t : Bytes) (at : ℕ) → overwritten t at [] ≡ t
overwritten_none t at = rw (append-nil, add-zero) (take-append-drop at t)

-- a store of one byte
pub overwritten_one : (t : Bytes) (at b : ℕ) → at < length t → set t at b ≡ overwritten t at (b ∷ [])
overwritten_one t at b h = set_split t at b h ∙ sym (append_snoc (take at t) b (drop (suc at) t)) ∙ rw (add-one at)

module _ (t : Bytes) (at : ℕ) (bs : Bytes) (h : at + length bs ≤ length t) where
  length_front : length (take at t ++ bs) ≡ at + length bs
  length_front = length-append (take at t) bs ∙ ap (λ (n : ℕ). n + length bs) (length-take-le at t (omega arith))

  pub length_overwritten : length (overwritten t at bs) ≡ length t
  length_overwritten =
      let f = length_front in
      let d = length-drop (at + length bs) t in
      length-append (take at t ++ bs) (drop (at + length bs) t) ∙ (omega arith)

  -- up to the end of what was written, and behind it
  pub take_overwritten : take (at + length bs) (overwritten t at bs) ≡ take at t ++ bs
  take_overwritten = take_at (take at t ++ bs) (drop (at + length bs) t) (at + length bs) length_front

  pub drop_overwritten : drop (at + length bs) (overwritten t at bs) ≡ drop (at + length bs) t
  drop_overwritten = drop_at (take at t ++ bs) (drop (at + length bs) t) (at + length bs) length_front

  -- a second write right behind the first
  module _ (more : Bytes) where
    behind_both : drop (at + length bs + length more) (overwritten t at bs) ≡ drop (at + length (bs ++ more)) t
    behind_both =
        sym (drop-drop (length more) (at + length bs) (overwritten t at bs))
        ∙ ap (drop (length more)) drop_overwritten
        ∙ drop-drop (length more) (at + length bs) t
        ∙ rw (length-append, add_assoc)

    pub overwritten_twice : overwritten (overwritten t at bs) (at + length bs) more ≡ overwritten t at (bs ++ more)
    overwritten_twice =
        ap₂ (λ (x y : Bytes). x ++ more ++ y) take_overwritten behind_both
        ∙ ap (λ (x : Bytes). x ++ drop (at + length (bs ++ more)) t) (append_assoc (take at t) bs more)

-- two stores of one byte
pub two_stores : (t : Bytes) (at a b : ℕ) → at + 2 ≤ length t
    → set (set t at a) (at + 1) b ≡ overwritten t at (a ∷ b ∷ [])
two_stores t at a b h =
    let g : at + 1 ≤ length t = omega arith in
    let l : length (overwritten t at (a ∷ [])) ≡ length t = length_overwritten t at (a ∷ []) g in
    ap (λ (u : Bytes). set u (at + 1) b) (overwritten_one t at a (omega arith))
    ∙ overwritten_one (overwritten t at (a ∷ [])) (at + 1) b (omega arith)
    ∙ overwritten_twice t at (a ∷ []) g (b ∷ [])

-- a number of n + m bytes, written in two parts
pub number_twice : (n m v : ℕ) (t : Bytes) (at : ℕ) → at + (n + m) ≤ length t
    → overwritten (overwritten t at (bytes n v)) (at + n) (bytes m (v / 256 ^ n)) ≡ overwritten t at (bytes (n + m) v)
number_twice n m v t at h =
    let low : Bytes = bytes n v in
    let high : Bytes = bytes m (v / 256 ^ n) in
    let l : length low ≡ n = length_bytes n v in
    let at_high : at + n ≡ at + length low = omega arith in
    ap (λ (k : ℕ). overwritten (overwritten t at low) k high) at_high
    ∙ overwritten_twice t at low (omega arith) high
    ∙ ap (overwritten t at) (bytes_halves n m v)

-- writes in a row, each right behind the one before
pub two_writes : (t t₁ t₂ xs ys : Bytes) (at b : ℕ) → at + length xs ≤ length t → b ≡ at + length xs
    → t₁ ≡ overwritten t at xs → t₂ ≡ overwritten t₁ b ys → t₂ ≡ overwritten t at (xs ++ ys)
two_writes t t₁ t₂ xs ys at b h eb e₁ e₂ = e₂ ∙ ap₂ (λ (u : Bytes) (n : ℕ). overwritten u n ys) e₁ eb ∙ overwritten_twice t at xs h ys

pub three_writes : (t t₁ t₂ t₃ xs ys zs : Bytes) (at b c : ℕ) → at + length xs + length ys ≤ length t → b ≡ at + length xs → c ≡ at + length xs + length ys
    → t₁ ≡ overwritten t at xs → t₂ ≡ overwritten t₁ b ys → t₃ ≡ overwritten t₂ c zs → t₃ ≡ overwritten t at (xs ++ (ys ++ zs))
three_writes t t₁ t₂ t₃ xs ys zs at b c h eb ec e₁ e₂ e₃ =
    let l : length (xs ++ ys) ≡ length xs + length ys = length-append xs ys in
    two_writes t t₂ t₃ (xs ++ ys) zs at c (omega arith) (omega arith) (two_writes t t₁ t₂ xs ys at b (omega arith) eb e₁ e₂) e₃
    ∙ ap (overwritten t at) (append_assoc xs ys zs)
