-- Maps cut at a path: what stands at or behind it, and what is below a directory.
use mathlib.Core.Path.{◌≡◌, refl, sym, ◌∙◌}
use mathlib.Core.Logic.{◌⊎◌, inl, inr}
use mathlib.Core.List.{[], ◌∷◌, ◌++◌}
use mathlib.Core.Bool.{Bool, true, false, not}
use Rattle.model.specs.Bytes.{before, cons_if}
use Rattle.model.specs.Path.{Path, below}
use Rattle.model.specs.Map.{Map, lookup, only}
use Rattle.model.proofs.Orders.{bot, Lt, Lt_irrefl, Lt_trans, Lt-≢, same_no, Cmp, cmp, yea, nay, test, and_true, below_range}
use Rattle.model.proofs.Maps.{Above, Ascending}
use Rattle.table_entries.specs.Cut.{since}
use Rattle.rename_walk.specs.Stretch.{slashed}

-- q is at k or behind it
abbrev pub Le : Path → Path → Type 0
Le k q = before q k ≡ false

pub le_lt : (k q : Path) → Lt k q → Le k q
le_lt k q l = elim (cmp q k) [
  | Cmp.lt m w ↦ absurd (Lt_irrefl k (Lt_trans k q k l m))
  | Cmp.eq e w ↦ rw w
  | Cmp.gt m w ↦ rw w
]

pub le_self : (k : Path) → Le k k
le_self k = elim (cmp k k) [
  | Cmp.lt m w ↦ absurd (Lt_irrefl k m)
  | Cmp.eq e w ↦ rw w
  | Cmp.gt m w ↦ rw w
]

le_is : (k q : Path) → Le k q → (k ≡ q) ⊎ Lt k q
le_is k q h = elim (cmp q k) [
  | Cmp.lt m w ↦ absurd (bot (cc))
  | Cmp.eq e w ↦ inl (sym e)
  | Cmp.gt m w ↦ inr m
]

pub lt_le : (j k q : Path) → Lt j k → Le k q → Lt j q
lt_le j k q l h = go (le_is k q h)
  where
    go : (k ≡ q) ⊎ Lt k q → Lt j q
    go (inl e) = rw e at l
    go (inr m) = Lt_trans j k q l m

pub le_le : (j k q : Path) → Le j k → Le k q → Le j q
le_le j k q l h = go (le_is j k l)
  where
    go : (j ≡ k) ⊎ Lt j k → Le j q
    go (inl e) = rw e h
    go (inr m) = le_lt j q (lt_le j k q m h)

-- what is below d is not before d with a slash, and before d with a '0'
not_is : (b : Bool) → not b ≡ true → b ≡ false
not_is true h = absurd (bot (cc))
not_is false h = refl

pub below_since : (d q : Path) → below d q ≡ true → Le (slashed d) q
below_since d q h =
    let e = and_true (not (before q (slashed d))) (before q (d ++ (48 ∷ []))) (sym (below_range d q) ∙ h) in
    not_is (before q (slashed d)) e.0

past : (d q : Path) → Le (slashed d) q → below d q ≡ false → Le (d ++ (48 ∷ [])) q
past d q h e = let f = below_range d q in cc

not_past : (d q : Path) → Le (d ++ (48 ∷ [])) q → below d q ≡ false
not_past d q h = elim (test (below d q)) [
  | yea e ↦ (let f = and_true (not (before q (slashed d))) (before q (d ++ (48 ∷ []))) (sym (below_range d q) ∙ e) in absurd (bot (cc)))
  | nay e ↦ e
]

module _ {A : Type 0} where
  -- every path of a map is so
  abbrev pub Each : (Path → Type 0) → Map A → Type 0
  Each P [] = Unit {0}
  Each P (x ∷ xs) = P x.0 × Each P xs

  pub each_on : (P Q : Path → Type 0) → ((q : Path) → P q → Q q) → (xs : Map A) → Each P xs → Each Q xs
  each_on P Q h [] a = tt
  each_on P Q h (x ∷ xs) a = (h x.0 a.0, each_on P Q h xs a.1)

  pub each_of : (P : Path → Type 0) → ((q : Path) → P q) → (xs : Map A) → Each P xs
  each_of P h [] = tt
  each_of P h (x ∷ xs) = (h x.0, each_of P h xs)

  pub each_only : (f : Path → Bool) (P Q : Path → Type 0) → ((q : Path) → f q ≡ true → P q → Q q) → (xs : Map A) → Each P xs → Each Q (only f xs)
  each_only f P Q h [] a = tt
  each_only f P Q h (x ∷ xs) a = elim (test (f x.0)) [
    | yea e ↦ rw e (h x.0 e a.0, each_only f P Q h xs a.1)
    | nay e ↦ rw e (each_only f P Q h xs a.1)
  ]

  pub each_above : (k : Path) (xs : Map A) → Above k xs → Ascending xs → Each (Lt k) xs
  each_above k [] h a = tt
  each_above k (x ∷ xs) h a = (h, each_on (Lt x.0) (Lt k) (λ q l. Lt_trans k x.0 q h l) xs (each_above x.0 xs a.0 a.1))

  pub each_since : (k : Path) (xs : Map A) → Ascending xs → Each (Le k) (since k xs)
  each_since k [] a = tt
  each_since k (x ∷ xs) a = elim (test (before x.0 k)) [
    | yea e ↦ rw e (each_since k xs a.1)
    | nay e ↦ rw e (e, each_on (Lt x.0) (Le k) (λ q l. le_le k x.0 q e (le_lt x.0 q l)) xs (each_above x.0 xs a.0 a.1))
  ]

  pub only_none : (f : Path → Bool) (xs : Map A) → Each (λ q. f q ≡ false) xs → only f xs ≡ []
  only_none f [] a = refl
  only_none f (x ∷ xs) a = rw a.0 (only_none f xs a.1)

  pub only_same : (f g : Path → Bool) (xs : Map A) → Each (λ q. f q ≡ g q) xs → only f xs ≡ only g xs
  only_same f g [] a = refl
  only_same f g (x ∷ xs) a = let e = a.0 in let ih = only_same f g xs a.1 in λ i. cons_if (e i) x (ih i)

  pub only_append : (f : Path → Bool) (xs ys : Map A) → only f (xs ++ ys) ≡ only f xs ++ only f ys
  only_append f [] ys = refl
  only_append f (x ∷ xs) ys = let ih = only_append f xs ys in elim (test (f x.0)) [ yea e ↦ cc | nay e ↦ cc ]

  -- behind a path that is not below d, and not before what is, nothing is below d
  pub none_past : (d : Path) (x : Path) (xs : Map A) → Le (slashed d) x → below d x ≡ false → Above x xs → Ascending xs → only (below d) xs ≡ []
  none_past d x xs h e u a =
      let z = past d x h e in
      only_none (below d) xs (each_on (Lt x) (λ q. below d q ≡ false) (λ q l. not_past d q (le_le (d ++ (48 ∷ [])) x q z (le_lt x q l))) xs (each_above x xs u a))

  -- the second part of an ascending map has what the whole has from its first path on
  first_lt : (x : Path) (xs : Map A) (y : Path × A) (ys : Map A) → Above x (xs ++ (y ∷ ys)) → Ascending (xs ++ (y ∷ ys)) → Lt x y.0
  first_lt x [] y ys h a = h
  first_lt x (z ∷ zs) y ys h a = Lt_trans x z.0 y.0 h (first_lt z.0 zs y ys a.0 a.1)

  pub second_has : (xs : Map A) (y : Path × A) (ys : Map A) → Ascending (xs ++ (y ∷ ys)) → (q : Path) → Le y.0 q
      → lookup (y ∷ ys) q ≡ lookup (xs ++ (y ∷ ys)) q
  second_has [] y ys a q h = refl
  second_has (x ∷ xs) y ys a q h =
      let l = lt_le x.0 y.0 q (first_lt x.0 xs y ys a.0 a.1) h in
      rw (same_no x.0 q (λ e. Lt-≢ x.0 q l e)) (second_has xs y ys a.1 q h)
