-- What std's comparisons of slices answer is `order`, `same` and `before`; what two have in common is their common front.
use mathlib.Core.Path.{◌≡◌, refl, sym, ap, ◌∙◌}
use mathlib.Core.Bool.{true, false, ◌&&◌}
use mathlib.Core.List.{[], ◌∷◌}
use Prim.Native.Nat.{compare, Ordering}
use native.Mathlib.Omega.{arith}
use lib.Dec.{eqb}
use lib.Pointwise.{pointwise}
use borrow.Author.Tests.{lt-ltb, le-ltb}
use Rattle.std.specs.declared.cmp.Ordering.TheVariants.{Less, Equal, Greater}
use Rattle.std.specs.Ordering.{nat_cmp, is_lt}
use Rattle.std.specs.Cmp.Lexicographic.{slice_cmp}
use Rattle.model.specs.Bytes.{Bytes, by_order, order, same}
use Rattle.model.proofs.Orders.{NatOrder, nat_lt, nat_eq, nat_gt, nat_order, same_cons}

pub ordered : (a b : Bytes) → slice_cmp nat_cmp a b ≡ by_order (order a b) Less Equal Greater
ordered [] [] = refl
ordered [] (y ∷ ys) = refl
ordered (x ∷ xs) [] = refl
ordered (x ∷ xs) (y ∷ ys) = go (nat_order x y) refl (ordered xs ys)
  where
    go : {o : Ordering} → NatOrder x y o → compare x y ≡ o → slice_cmp nat_cmp xs ys ≡ by_order (order xs ys) Less Equal Greater
        → slice_cmp nat_cmp (x ∷ xs) (y ∷ ys) ≡ by_order (order (x ∷ xs) (y ∷ ys)) Less Equal Greater
    go (nat_lt h) w r = rw (w, lt-ltb x y h)
    go (nat_eq e) w r = rw (w, le-ltb x y (omega arith)) r
    go (nat_gt h) w r = rw (w, le-ltb x y (omega arith))

pub pointwise_same : (a b : Bytes) → pointwise eqb a b ≡ same a b
pointwise_same [] [] = refl
pointwise_same [] (y ∷ ys) = refl
pointwise_same (x ∷ xs) [] = refl
pointwise_same (x ∷ xs) (y ∷ ys) = ap (λ t. eqb x y && t) (pointwise_same xs ys) ∙ sym (same_cons x y xs ys)

pub less_before : (o : Ordering) → is_lt (by_order o Less Equal Greater) ≡ by_order o true false false
less_before Ordering.lt = refl
less_before Ordering.eq = refl
less_before Ordering.gt = refl
