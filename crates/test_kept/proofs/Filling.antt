-- std's tests over bytes are the definition's.
use Rattle.std.proofs.Common.{◌≡◌, refl, ap, ◌∙◌, [], ◌∷◌, ◌&&◌, eqb, nat_eq}
use Prim.Native.Nat.{Ordering, compare}
use lib.Dec.{compare_is_eq}
use Rattle.std.specs.List.{list_all}
use Rattle.std.specs.Cmp.Lexicographic.{pointwise}
use Rattle.model.specs.Bytes.{Bytes, same, by_order, order}
use Rattle.test_kept.specs.Left.{filled}

pub filled_all : (w : Bytes) → list_all (λ b. eqb b 165) w ≡ filled w
filled_all [] = refl
filled_all (b ∷ w) = ap (λ r. eqb b 165 && r) (filled_all w)

by_first : (o q : Ordering) → (compare_is_eq o && compare_is_eq q) ≡ compare_is_eq (by_order o Ordering.lt q Ordering.gt)
by_first Ordering.lt q = refl
by_first Ordering.eq q = refl
by_first Ordering.gt q = refl

pub same_bytes : (s t : Bytes) → pointwise nat_eq s t ≡ same s t
same_bytes [] [] = refl
same_bytes [] (b ∷ t) = refl
same_bytes (a ∷ s) [] = refl
same_bytes (a ∷ s) (b ∷ t) = ap (λ r. eqb a b && r) (same_bytes s t) ∙ by_first (compare a b) (order s t)
