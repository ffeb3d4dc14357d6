-- Whether a path is below another, a child of it, or before it with one byte behind it, by the bytes that the two have in common.
use mathlib.Core.Path.{◌≡◌, refl, ap, sym, ◌∙◌}
use mathlib.Core.Bool.{Bool, true, false, not, ◌&&◌, ◌||◌, and_assoc}
use mathlib.Core.List.{[], ◌∷◌, ◌++◌}
use Prim.Native.Nat.{ℕ, zero, suc, ◌+◌, ◌<◌, ◌≤◌}
use native.Mathlib.Omega.{arith}
use native.Mathlib.Numerals.{add-one}
use lib.Dec.{eqb, ltb}
use lib.ListN.{length, get_or, drop}
use borrow.Author.Tests.{eq-eqb, ne_eqb, le-ltb}
use Rattle.std.specs.List.{list_any}
use Rattle.model.specs.Bytes.{Bytes, before}
use Rattle.model.specs.Path.{Path, below, slashless, child}
use Rattle.base_fields.specs.Read.{common}
use Rattle.model.proofs.Orders.{none_before, bot, and_true}
use Rattle.base_fields.proofs.Common.{alike, apart, heads, before_apart}

-- `below` by the bytes in common
pub below_apart : (d q : Path) → common d q < length d → false ≡ below d q
below_apart [] q h = absurd (omega arith)
below_apart (a ∷ d) [] h = refl
below_apart (a ∷ d) (b ∷ q) h = elim (heads a d b q) [
  | alike e n o ↦ rw (eq-eqb a b e) (below_apart d q (omega arith))
  | apart e n o ↦ rw (ne_eqb a b e)
]

pub below_over : (d q : Path) → length q ≤ common d q → false ≡ below d q
below_over [] [] h = refl
below_over [] (b ∷ q) h = absurd (omega arith)
below_over (a ∷ d) [] h = refl
below_over (a ∷ d) (b ∷ q) h = elim (heads a d b q) [
  | alike e n o ↦ rw (eq-eqb a b e) (below_over d q (omega arith))
  | apart e n o ↦ rw (ne_eqb a b e)
]

pub below_next : (d q : Path) (n : ℕ) → n ≡ common d q → length d ≤ n → n < length q → eqb (get_or q n 0) 47 ≡ below d q
below_next [] [] n e h k = absurd (omega arith)
below_next [] (b ∷ q) zero e h k = refl
below_next [] (b ∷ q) (suc n) e h k = absurd (omega arith)
below_next (a ∷ d) [] n e h k = absurd (omega arith)
below_next (a ∷ d) (b ∷ q) zero e h k = absurd (omega arith)
below_next (a ∷ d) (b ∷ q) (suc n) e h k = elim (heads a d b q) [
  | alike z m o ↦ rw (eq-eqb a b z) (below_next d q n (omega arith) (omega arith) (omega arith))
  | apart z m o ↦ absurd (omega arith)
]

-- `child`: the same, and no other slash
pub child_apart : (d q : Path) → common d q < length d → false ≡ child d q
child_apart [] q h = absurd (omega arith)
child_apart (a ∷ d) [] h = refl
child_apart (a ∷ d) (b ∷ q) h = elim (heads a d b q) [
  | alike e n o ↦ rw (eq-eqb a b e) (child_apart d q (omega arith))
  | apart e n o ↦ rw (ne_eqb a b e)
]

pub child_over : (d q : Path) → length q ≤ common d q → false ≡ child d q
child_over [] [] h = refl
child_over [] (b ∷ q) h = absurd (omega arith)
child_over (a ∷ d) [] h = refl
child_over (a ∷ d) (b ∷ q) h = elim (heads a d b q) [
  | alike e n o ↦ rw (eq-eqb a b e) (child_over d q (omega arith))
  | apart e n o ↦ rw (ne_eqb a b e)
]

-- behind all of the directory's bytes: a slash, and no other
child_next : (d q : Path) (n : ℕ) → n ≡ common d q → length d ≤ n → n < length q
    → (eqb (get_or q n 0) 47 && slashless (drop (suc n) q)) ≡ child d q
child_next [] [] n e h k = absurd (omega arith)
child_next [] (b ∷ q) zero e h k = refl
child_next [] (b ∷ q) (suc n) e h k = absurd (omega arith)
child_next (a ∷ d) [] n e h k = absurd (omega arith)
child_next (a ∷ d) (b ∷ q) zero e h k = absurd (omega arith)
child_next (a ∷ d) (b ∷ q) (suc n) e h k = elim (heads a d b q) [
  | alike z m o ↦ rw (eq-eqb a b z) (child_next d q n (omega arith) (omega arith) (omega arith))
  | apart z m o ↦ absurd (omega arith)
]

module _ (d q : Path) (n : ℕ) (e : n ≡ common d q) (h : length d ≤ n) (k : n < length q) where
  pub child_other : (get_or q n 0 ≡ 47 → ⊥) → false ≡ child d q
  child_other z = let c = child_next d q n e h k in ap (λ (t : Bool). t && slashless (drop (suc n) q)) (sym (ne_eqb (get_or q n 0) 47 z)) ∙ c

  pub child_slash : get_or q n 0 ≡ 47 → slashless (drop (n + 1) q) ≡ child d q
  child_slash z =
      let c = child_next d q n e h k in
      rw (add-one n) (ap (λ (t : Bool). t && slashless (drop (suc n) q)) (sym (eq-eqb (get_or q n 0) 47 z)) ∙ c)

pub below_long : (d q : Path) → below d q ≡ true → length d < length q
below_long [] [] h = absurd (bot (cc))
below_long [] (c ∷ q) h = omega arith
below_long (a ∷ d) [] h = absurd (bot (cc))
below_long (a ∷ d) (c ∷ q) h = omega (arith, below_long d q (and_true (eqb a c) (below d q) h).1)

-- `child`: below, and no other slash
pub child_below : (d q : Path) → child d q ≡ (below d q && slashless (drop (length d + 1) q))
child_below d q = rw (add-one (length d)) (go d q)
  where
    go : (d q : Path) → child d q ≡ (below d q && slashless (drop (suc (length d)) q))
    go [] [] = refl
    go [] (c ∷ q) = refl
    go (a ∷ d) [] = refl
    go (a ∷ d) (c ∷ q) = ap (λ (t : Bool). eqb a c && t) (go d q) ∙ sym (and_assoc (eqb a c) (below d q) (slashless (drop (suc (length d)) q)))

not_or : (a b : Bool) → not (a || b) ≡ (not a && not b)
not_or true b = refl
not_or false b = refl

pub none_any : (s : Path) → not (list_any (λ (b : ℕ). eqb b 47) s) ≡ slashless s
none_any [] = refl
none_any (b ∷ s) = not_or (eqb b 47) (list_any (λ (c : ℕ). eqb c 47) s) ∙ ap (λ (t : Bool). not (eqb b 47) && t) (none_any s)

-- a key of no bytes but those in common
pub with_over : (k d : Bytes) (b n : ℕ) → n ≡ common k d → length k ≤ n → true ≡ before k (d ++ (b ∷ []))
with_over [] [] b n e h = refl
with_over [] (y ∷ d) b n e h = refl
with_over (x ∷ k) [] b n e h = absurd (omega arith)
with_over (x ∷ k) (y ∷ d) b n e h = elim (heads x k y d) [
  | alike z m o ↦ elim (heads x k y (d ++ (b ∷ []))) [
    | alike w p q ↦ rw q (with_over k d b (common k d) refl (omega arith))
    | apart w p q ↦ absurd (w z)
  ]
  | apart z m o ↦ absurd (omega arith)
]

-- the first bytes that are not in common decide
pub with_apart : (k d : Bytes) (b n : ℕ) → n ≡ common k d → n < length k → n < length d
    → ltb (get_or k n 0) (get_or d n 0) ≡ before k (d ++ (b ∷ []))
with_apart [] d b n e h l = absurd (omega arith)
with_apart (x ∷ k) [] b n e h l = absurd (omega arith)
with_apart (x ∷ k) (y ∷ d) b zero e h l = elim (heads x k y d) [
  | alike z m o ↦ absurd (omega arith)
  | apart z m o ↦ elim (heads x k y (d ++ (b ∷ []))) [
    | alike w p q ↦ absurd (z w)
    | apart w p q ↦ sym (before_apart (x ∷ k) (y ∷ d ++ (b ∷ [])) 0 (sym p) (omega arith) (omega arith))
  ]
]
with_apart (x ∷ k) (y ∷ d) b (suc n) e h l = elim (heads x k y d) [
  | alike z m o ↦ elim (heads x k y (d ++ (b ∷ []))) [
    | alike w p q ↦ rw q (with_apart k d b n (omega arith) (omega arith) (omega arith))
    | apart w p q ↦ absurd (w z)
  ]
  | apart z m o ↦ absurd (omega arith)
]

-- where the path has no others, the byte behind it decides
pub with_next : (k d : Bytes) (b n : ℕ) → n ≡ common k d → n < length k → length d ≤ n
    → ltb (get_or k n 0) b ≡ before k (d ++ (b ∷ []))
with_next [] d b n e h l = absurd (omega arith)
with_next (x ∷ k) [] b zero e h l = elim (heads x k b []) [
  | alike w p q ↦ rw (q, le-ltb x b (omega (arith, w))) (sym (none_before k))
  | apart w p q ↦ sym (before_apart (x ∷ k) (b ∷ []) 0 (sym p) (omega arith) (omega arith))
]
with_next (x ∷ k) [] b (suc n) e h l = absurd (omega arith)
with_next (x ∷ k) (y ∷ d) b zero e h l = absurd (omega arith)
with_next (x ∷ k) (y ∷ d) b (suc n) e h l = elim (heads x k y d) [
  | alike z m o ↦ elim (heads x k y (d ++ (b ∷ []))) [
    | alike w p q ↦ rw q (with_next k d b n (omega arith) (omega arith) (omega arith))
    | apart w p q ↦ absurd (w z)
  ]
  | apart z m o ↦ absurd (omega arith)
]
