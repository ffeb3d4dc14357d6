-- The record of a table into which two lists of entries without a common key were put: each changes it by the same with the other and without.
-- Assumes a table whose keys ascend; of the two lists no order is asked.
use mathlib.Core.Path.{◌≡◌, refl, ap}
use mathlib.Core.List.{[], ◌∷◌}
use mathlib.Core.Option.{Option, none, some}
use Prim.Native.Nat.{ℕ, ◌+◌}
use native.Mathlib.Omega.{arith}
use lib.ListN.{length}
use Rattle.model.specs.Path.{Path}
use Rattle.model.specs.Map.{Map, lookup, put, puts}
use Rattle.model.specs.Tree.{Table}
use Rattle.model.specs.Table.{body_of, encode, entry_charge, charge_sum}
use Rattle.model.proofs.Orders.{Lt-≢, Cmp, cmp, Split, split, has_none, is_some, opt, bot, same_no, same_refl}
use Rattle.model.proofs.Maps.{Ascending, lookup_puts, lookup_low, ascending_puts}
use Rattle.table_measure.proofs.Passes.{bytes_cons}

-- no path has a value in both
abbrev pub Apart : {A : Type 0} → Map A → Map A → Type 0
Apart {A} d m = (q : Path) (e : A) → lookup d q ≡ some e → lookup m q ≡ none

module _ {A : Type 0} where
  -- so too the other way round
  pub apart_sym : (d m : Map A) → Apart d m → Apart m d
  apart_sym d m h q e f = elim (opt (lookup d q)) [ has_none n ↦ n | is_some x n ↦ absurd (bot (cc (h q x n))) ]

  -- so too what is left of one behind its first
  pub apart_left : (x : Path × A) (d m : Map A) → Apart (x ∷ d) m → Apart d m
  apart_left x d m h q e f = elim (split x.0 q) [ Split.eq n w ↦ h q x.1 (cc) | Split.ne n w ↦ h q e (cc) ]

  -- of the other likewise
  pub apart_right : (x : Path × A) (d m : Map A) → Apart d (x ∷ m) → Apart d m
  apart_right x d m h q e f = let g = h q e f in elim (split x.0 q) [ Split.eq n w ↦ absurd (bot (cc)) | Split.ne n w ↦ cc ]

  -- the first key of one is not in the other
  pub apart_first : (x : Path × A) (d m : Map A) → Apart d (x ∷ m) → lookup d x.0 ≡ none
  apart_first x d m h = elim (opt (lookup d x.0)) [ has_none n ↦ n | is_some e n ↦ absurd (bot (cc (h x.0 e n, same_refl x.0))) ]

  -- a sum over a map, by the weight of each value at its path; and what stands at one path, if anything does
  module _ (f : Path → A → ℕ) where
    abbrev pub total : Map A → ℕ
    total [] = 0
    total (x ∷ xs) = f x.0 x.1 + total xs

    abbrev pub weight : Path → Option A → ℕ
    weight k none = 0
    weight k (some v) = f k v

    -- a value put at k adds its weight and takes that of what stood there
    pub total_put : (k : Path) (v : A) (t : Map A) → Ascending t → total (put k v t) + weight k (lookup t k) ≡ total t + f k v
    total_put k v [] h = omega arith
    total_put k v (x ∷ xs) h =
        elim (cmp k x.0) [
          | Cmp.lt l w ↦
              let n : lookup (x ∷ xs) k ≡ none = lookup_low k (x ∷ xs) l h in
              rw (n, w) (omega arith)
          | Cmp.eq e w ↦
              let s : lookup (x ∷ xs) k ≡ some x.1 = cc (same_refl k) in
              let g : f x.0 x.1 ≡ f k x.1 = cc in
              rw (s, w) (omega arith)
          | Cmp.gt l w ↦
              let s : lookup (x ∷ xs) k ≡ lookup xs k = cc (same_no x.0 k (Lt-≢ x.0 k l)) in
              let i = total_put k v xs h.1 in
              rw (s, w) (omega arith)
        ]

    -- what is put apart from d changes the sum by the same with d and without
    pub apart_total : (m d t : Map A) → Ascending t → Apart d m → total (puts m (puts d t)) + total t ≡ total (puts d t) + total (puts m t)
    apart_total [] d t h a = refl
    apart_total (x ∷ xs) d t h a =
        let k = x.0 in
        let v = x.1 in
        let n = apart_first x d xs a in
        let here : lookup (puts xs (puts d t)) k ≡ lookup (puts xs t) k = cc (lookup_puts xs (puts d t) k, lookup_puts xs t k, lookup_puts d t k) in
        let w = ap (weight k) here in
        let p = total_put k v (puts xs (puts d t)) (ascending_puts xs (puts d t) (ascending_puts d t h)) in
        let r = total_put k v (puts xs t) (ascending_puts xs t h) in
        let i = apart_total xs d t h (apart_right x d xs a) in
        omega arith

-- the bytes of a table are such a sum
used_total : (t : Table) → length (encode t) ≡ total (λ k e. 24 + length k + length (body_of e)) t
used_total [] = refl
used_total (x ∷ xs) = let i = used_total xs in let b = bytes_cons 0 x.0 x.1 xs in omega arith

-- so is the number of its entries
count_total : (t : Table) → length t ≡ total (λ k e. 1) t
count_total [] = refl
count_total (x ∷ xs) = let i = count_total xs in omega arith

-- and its charge
pub charge_total : (E : ℕ) (t : Table) → charge_sum E t ≡ total (entry_charge E) t
charge_total E [] = refl
charge_total E (x ∷ xs) = let i = charge_total E xs in omega arith

module _ (m d t : Table) (h : Ascending t) (a : Apart d m) where
  -- the bytes used, after both: those after d and those after m, less those before
  pub apart_used : length (encode (puts m (puts d t))) + length (encode t) ≡ length (encode (puts d t)) + length (encode (puts m t))
  apart_used =
      let f = apart_total (λ k e. 24 + length k + length (body_of e)) m d t h a in
      rw (used_total (puts m (puts d t)), used_total t, used_total (puts d t), used_total (puts m t)) f

  -- the number of entries likewise
  pub apart_count : length (puts m (puts d t)) + length t ≡ length (puts d t) + length (puts m t)
  apart_count =
      let f = apart_total (λ k e. 1) m d t h a in
      rw (count_total (puts m (puts d t)), count_total t, count_total (puts d t), count_total (puts m t)) f

  -- the charge likewise
  pub apart_charge : (E : ℕ) → charge_sum E (puts m (puts d t)) + charge_sum E t ≡ charge_sum E (puts d t) + charge_sum E (puts m t)
  apart_charge E =
      let f = apart_total (entry_charge E) m d t h a in
      rw (charge_total E (puts m (puts d t)), charge_total E t, charge_total E (puts d t), charge_total E (puts m t)) f
