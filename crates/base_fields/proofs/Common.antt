-- The order of byte strings by the bytes that two have in common.
-- `Lt`, the order as a type, with its transitivity, is of `model`.
use mathlib.Core.Path.{◌≡◌, refl, sym, ◌∙◌}
use mathlib.Core.Bool.{true, false}
use mathlib.Core.Logic.{inl, inr}
use mathlib.Core.List.{[], ◌∷◌, ◌++◌}
use Prim.Native.Nat.{ℕ, zero, suc, ◌<◌, ◌≤◌, min, compare, Ordering}
use native.Mathlib.Omega.{arith}
use lib.Dec.{ltb, leb}
use lib.ListN.{length, get_or, take, drop, drop_of_length-le}
use lib.Seq.{drop-cons}
use borrow.Author.Tests.{lt-ltb, le-ltb, ltb-true, ltb-false, leb-true, leb-false}
use Rattle.model.specs.Bytes.{Bytes, by_order, order, before}
use Rattle.model.proofs.Orders.{bot, yea, nay, test, NatOrder, nat_lt, nat_eq, nat_gt, nat_order}
use Rattle.model.proofs.Orders.{Lt, Lt_irrefl, Lt_trans, Lt-≢, Cmp, cmp, none_before}
use Rattle.base_fields.specs.Read.{common}

-- by the first bytes: the same, and the rest decides, or not, and they decide
pub data Heads (a : ℕ) (s : Bytes) (b : ℕ) (t : Bytes) : Type 0 where
  alike : a ≡ b → common (a ∷ s) (b ∷ t) ≡ suc (common s t)
      → order (a ∷ s) (b ∷ t) ≡ order s t → Heads a s b t
  apart : (a ≡ b → ⊥) → common (a ∷ s) (b ∷ t) ≡ 0
      → order (a ∷ s) (b ∷ t) ≡ compare a b → Heads a s b t

pub heads : (a : ℕ) (s : Bytes) (b : ℕ) (t : Bytes) → Heads a s b t
heads a s b t = go (nat_order a b) refl
  where
    go : {o : Ordering} → NatOrder a b o → compare a b ≡ o → Heads a s b t
    go (nat_lt h) w = apart (λ e. omega arith) (rw w) (rw w)
    go (nat_eq e) w = alike e (rw w) (rw w)
    go (nat_gt h) w = apart (λ e. omega arith) (rw w) (rw w)

pub common_first : (a b : Bytes) → common a b ≤ length a
common_first [] b = omega arith
common_first (a ∷ s) [] = omega arith
common_first (a ∷ s) (b ∷ t) = elim (heads a s b t) [
  | alike e n o ↦ omega (arith, common_first s t)
  | apart e n o ↦ omega arith
]

pub common_second : (a b : Bytes) → common a b ≤ length b
common_second [] b = omega arith
common_second (a ∷ s) [] = omega arith
common_second (a ∷ s) (b ∷ t) = elim (heads a s b t) [
  | alike e n o ↦ omega (arith, common_second s t)
  | apart e n o ↦ omega arith
]

pub take_common : (a b : Bytes) (k : ℕ) → k ≤ common a b → take k a ≡ take k b
take_common a b zero h = refl
take_common [] b (suc k) h = absurd (omega arith)
take_common (a ∷ s) [] (suc k) h = absurd (omega arith)
take_common (a ∷ s) (b ∷ t) (suc k) h = elim (heads a s b t) [
  | alike e n o ↦ cc (take_common s t k (omega arith))
  | apart e n o ↦ absurd (omega arith)
]

-- what two strings have in common does not decide
pub order_behind : (a b : Bytes) (k : ℕ) → k ≤ common a b → order a b ≡ order (drop k a) (drop k b)
order_behind a b zero h = refl
order_behind [] b (suc k) h = absurd (omega arith)
order_behind (a ∷ s) [] (suc k) h = absurd (omega arith)
order_behind (a ∷ s) (b ∷ t) (suc k) h = elim (heads a s b t) [
  | alike e n o ↦ o ∙ order_behind s t k (omega arith)
  | apart e n o ↦ absurd (omega arith)
]

less_ltb : (x y : ℕ) → by_order (compare x y) true false false ≡ ltb x y
less_ltb x y = elim (nat_order x y) as (λ o z. by_order o true false false ≡ ltb x y) [
  | nat_lt l ↦ sym (lt-ltb x y l)
  | nat_eq e ↦ sym (le-ltb x y (omega arith))
  | nat_gt l ↦ sym (le-ltb x y (omega arith))
]

-- the order, where one has no bytes but those n in common
module _ (a b : Bytes) (n : ℕ) (e : n ≡ common a b) where
  behind : order a b ≡ order (drop n a) (drop n b)
  behind = order_behind a b n (omega arith)

  pub order_first_ends : length a ≤ n → n < length b → order a b ≡ Ordering.lt
  order_first_ends h k = behind ∙ rw (drop_of_length-le a h, drop-cons b n 0 k)

  pub order_second_ends : n < length a → length b ≤ n → order a b ≡ Ordering.gt
  order_second_ends h k = behind ∙ rw (drop_of_length-le b k, drop-cons a n 0 h)

  pub order_both_end : length a ≤ n → length b ≤ n → order a b ≡ Ordering.eq
  order_both_end h k = behind ∙ rw (drop_of_length-le a h, drop_of_length-le b k)

  pub before_ended : length b ≤ n → before a b ≡ false
  before_ended k = rw (behind, drop_of_length-le b k) (none_before (drop n a))

-- the first bytes that are not in common differ, and decide
pub get_d_apart : (a b : Bytes) (n : ℕ) → n ≡ common a b → n < length a → n < length b
    → (get_or a n 0 ≡ get_or b n 0 → ⊥) × (order a b ≡ compare (get_or a n 0) (get_or b n 0))
get_d_apart [] b n e h k = absurd (omega arith)
get_d_apart (a ∷ s) [] n e h k = absurd (omega arith)
get_d_apart (a ∷ s) (b ∷ t) zero e h k = elim (heads a s b t) [
  | alike d m o ↦ absurd (omega arith)
  | apart d m o ↦ (d, o)
]
get_d_apart (a ∷ s) (b ∷ t) (suc n) e h k = elim (heads a s b t) [
  | alike d m o ↦ (let r = get_d_apart s t n (omega arith) (omega arith) (omega arith) in (r.0, o ∙ r.1))
  | apart d m o ↦ absurd (omega arith)
]

module _ (a b : Bytes) (n : ℕ) (e : n ≡ common a b) (h : n < length a) (k : n < length b) where
  pub before_apart : before a b ≡ ltb (get_or a n 0) (get_or b n 0)
  before_apart = rw (get_d_apart a b n e h k).1 (less_ltb (get_or a n 0) (get_or b n 0))

-- `before`, the test, and `Lt`, both ways
pub before_Lt : (a b : Bytes) → before a b ≡ true → Lt a b
before_Lt a b h = elim (cmp a b) [
  | Cmp.lt l w ↦ l
  | Cmp.eq e w ↦ absurd (bot (cc))
  | Cmp.gt l w ↦ absurd (bot (cc))
]

pub Lt_before : (a b : Bytes) → Lt a b → before a b ≡ true
Lt_before a b l = elim (cmp a b) [
  | Cmp.lt k w ↦ cc
  | Cmp.eq e w ↦ absurd (Lt-≢ a b l e)
  | Cmp.gt k w ↦ absurd (Lt_irrefl a (Lt_trans a b a l k))
]

pub not_before : (a b : Bytes) → Lt a b → before b a ≡ false
not_before a b l = elim (test (before b a)) [
  | yea z ↦ absurd (Lt_irrefl b (Lt_trans b a b (before_Lt b a z) l))
  | nay z ↦ z
]

-- what is before another does not have all of it in common
pub common_short : (a b : Bytes) → Lt a b → common a b < length b
common_short a b l = elim (test (ltb (common a b) (length b))) [
  | yea p ↦ ltb-true (common a b) (length b) p
  | nay p ↦ (let d = before_ended a b (common a b) refl (ltb-false (common a b) (length b) p) in
      absurd (bot (cc (Lt_before a b l))))
]

-- a string is before one that goes on behind it, and a proper front before the whole
pub Lt-append : (s : Bytes) (b : ℕ) (t : Bytes) → Lt s (s ++ b ∷ t)
Lt-append [] b t = tt
Lt-append (a ∷ s) b t = inr (refl, Lt-append s b t)

pub Lt-take : (s : Bytes) (k : ℕ) → k < length s → Lt (take k s) s
Lt-take [] k h = absurd (omega arith)
Lt-take (a ∷ s) zero h = tt
Lt-take (a ∷ s) (suc k) h = inr (refl, Lt-take s k (omega arith))

-- what is before b is before every front of b that is longer than what they have in common
pub Lt_front : (a b : Bytes) (k : ℕ) → Lt a b → common a b < k → Lt a (take k b)
Lt_front a b zero l h = absurd (omega arith)
Lt_front [] [] (suc k) l h = l
Lt_front [] (b ∷ t) (suc k) l h = tt
Lt_front (a ∷ s) [] (suc k) l h = absurd l
Lt_front (a ∷ s) (b ∷ t) (suc k) (inl l) h = inl l
Lt_front (a ∷ s) (b ∷ t) (suc k) (inr p) h = elim (heads a s b t) [
  | alike e n o ↦ inr (e, Lt_front s t k p.1 (omega arith))
  | apart e n o ↦ absurd (e p.0)
]

common_none : (s : Bytes) → common s [] ≡ 0
common_none [] = refl
common_none (a ∷ s) = refl

-- where one has ended, no more is in common
module _ (a b : Bytes) (i : ℕ) where
  first_over : length a ≤ i → common (drop i a) (drop i b) ≡ 0
  first_over h = rw (drop_of_length-le a h)

  second_over : length b ≤ i → common (drop i a) (drop i b) ≡ 0
  second_over h = rw (drop_of_length-le b h) (common_none (drop i a))

  pub one_over : min (length a) (length b) ≤ i → common (drop i a) (drop i b) ≡ 0
  one_over h = elim (test (leb (length a) i)) [
    | yea z ↦ first_over (leb-true (length a) i z)
    | nay z ↦ second_over (omega (arith, leb-false (length a) i z))
  ]
