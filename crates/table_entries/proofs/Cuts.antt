-- Laws of a map cut at a path: nothing is lost, a path is looked up where it can stand, and a value is put at the cut.
-- Assumes nothing, but for `lookup_first`: paths that ascend.
use mathlib.Core.Path.{◌≡◌, refl, ap, sym, ◌∙◌}
use mathlib.Core.List.{[], ◌∷◌, ◌++◌, append_assoc}
use mathlib.Core.Bool.{true, false}
use Prim.Native.Nat.{Ordering}
use Prim.Native.Nat.{ℕ, ◌+◌}
use native.Mathlib.Omega.{arith}
use Rattle.model.specs.Bytes.{Bytes, order, same, before}
use Rattle.model.specs.Path.{Path}
use Rattle.model.specs.Map.{Map, lookup, put}
use Rattle.model.specs.Tree.{Table}
use Rattle.model.specs.Table.{entry_bytes, encode, charge_sum}
use Rattle.model.proofs.Orders.{Lt, Lt_irrefl, Lt_trans, Lt-≢, Cmp, cmp, Split, split, test, yea, nay, bot}
use Rattle.model.proofs.Maps.{Ascending, above_trans, lookup_low}
use Rattle.table_entries.specs.Cut.{up_to, since, behind, first_if}

-- how x stands to k, both ways round
data Sides (x k : Path) : Type 0 where
  low : Lt x k → before x k ≡ true → same x k ≡ false → order k x ≡ Ordering.gt → Sides x k
  here : x ≡ k → before x k ≡ false → same x k ≡ true → order k x ≡ Ordering.eq → Sides x k
  high : Lt k x → before x k ≡ false → same x k ≡ false → order k x ≡ Ordering.lt → Sides x k

sides : (x k : Path) → Sides x k
sides x k =
    elim (cmp k x) [
      | Cmp.lt l w ↦ high l (not_low l) (off (λ e. Lt-≢ k x l (sym e))) w
      | Cmp.eq e w ↦ here (sym e) (not_less e) (on e) w
      | Cmp.gt l w ↦ low l (is_low l) (off (Lt-≢ x k l)) w
    ]
  where
    is_low : Lt x k → before x k ≡ true
    is_low l = elim (cmp x k) [ Cmp.lt m w ↦ rw w | Cmp.eq e w ↦ absurd (Lt-≢ x k l e) | Cmp.gt m w ↦ absurd (Lt_irrefl x (Lt_trans x k x l m)) ]

    not_low : Lt k x → before x k ≡ false
    not_low l = elim (cmp x k) [ Cmp.lt m w ↦ absurd (Lt_irrefl x (Lt_trans x k x m l)) | Cmp.eq e w ↦ rw w | Cmp.gt m w ↦ rw w ]

    not_less : k ≡ x → before x k ≡ false
    not_less e = elim (cmp x k) [ Cmp.lt m w ↦ absurd (Lt-≢ x k m (sym e)) | Cmp.eq f w ↦ rw w | Cmp.gt m w ↦ rw w ]

    on : k ≡ x → same x k ≡ true
    on e = elim (split x k) [ Split.eq f w ↦ w | Split.ne n w ↦ absurd (n (sym e)) ]

    off : (x ≡ k → ⊥) → same x k ≡ false
    off n = elim (split x k) [ Split.eq f w ↦ absurd (n f) | Split.ne m w ↦ w ]

module _ {A : Type 0} where
  pub up_since : (k : Path) (t : Map A) → up_to k t ++ since k t ≡ t
  up_since k [] = refl
  up_since k (x ∷ xs) = elim (test (before x.0 k)) [ yea a ↦ rw a (ap (λ (l : Map A). x ∷ l) (up_since k xs)) | nay a ↦ rw a ]

  pub put_cut : (k : Path) (v : A) (t : Map A) → put k v t ≡ up_to k t ++ ((k, v) ∷ behind k t)
  put_cut k v [] = refl
  put_cut k v (x ∷ xs) =
      elim (sides x.0 k) [
        | low l b s o ↦ rw (o, b) (ap (λ (l : Map A). x ∷ l) (put_cut k v xs))
        | here e b s o ↦ rw (o, b, s)
        | high l b s o ↦ rw (o, b, s)
      ]

  -- a path that is not before k is looked up from k on
  pub lookup_since : (k q : Path) (t : Map A) → before q k ≡ false → lookup (since k t) q ≡ lookup t q
  lookup_since k q [] h = refl
  lookup_since k q (x ∷ xs) h =
      elim (test (before x.0 k)) [
        | yea a ↦ elim (split x.0 q) [
          | Split.eq e w ↦ absurd (bot (cc))
          | Split.ne n w ↦ rw (a, w) (lookup_since k q xs h)
        ]
        | nay a ↦ rw a
      ]

  -- and k itself is the first there, or not there
  pub lookup_first : (k : Path) (t : Map A) → Ascending t → lookup t k ≡ first_if k (since k t)
  lookup_first k [] h = refl
  lookup_first k (x ∷ xs) h =
      elim (sides x.0 k) [
        | low l b s o ↦ rw (b, s) (lookup_first k xs h.1)
        | here e b s o ↦ rw (b, s)
        | high l b s o ↦ rw (b, s) (lookup_low k xs (above_trans k x.0 xs l h.0) h.1)
      ]

pub encode_append : (a b : Table) → encode (a ++ b) ≡ encode a ++ encode b
encode_append [] b = refl
encode_append (x ∷ xs) b = ap (λ (l : Bytes). entry_bytes x.0 x.1 ++ l) (encode_append xs b) ∙ sym (append_assoc (entry_bytes x.0 x.1) (encode xs) (encode b))

pub charge_append : (E : ℕ) (a b : Table) → charge_sum E (a ++ b) ≡ charge_sum E a + charge_sum E b
charge_append E [] b = omega arith
charge_append E (x ∷ xs) b = let h = charge_append E xs b in omega (arith, h)
