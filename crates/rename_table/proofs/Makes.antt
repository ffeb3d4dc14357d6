-- Two lists without a common key, put into a table in one order: the same as both, one over the other.
use mathlib.Core.Path.{◌≡◌, refl, ◌∙◌}
use mathlib.Core.List.{[], ◌∷◌, ◌++◌}
use mathlib.Core.Bool.{true}
use mathlib.Core.Option.{Option, none, some}
use Rattle.model.specs.Bytes.{before}
use Rattle.model.specs.Path.{Path}
use Rattle.model.specs.Map.{Map, lookup, ascends, puts}
use Rattle.model.proofs.Orders.{Split, split, yea, nay, test, has_none, is_some, opt}
use Rattle.model.proofs.Maps.{Ascending, or_else, map_ext, lookup_puts, ascends_is, ascending_puts}
use Rattle.table_measure.specs.Into.{into}
use Rattle.table_measure.proofs.Intos.{into_puts}
use Rattle.rename_laws.proofs.Records.{Apart}
use Rattle.rename_table.proofs.Ascents.{arranged}

module _ {A : Type 0} where
  lookup-append : (xs ys : Map A) (q : Path) → lookup (xs ++ ys) q ≡ or_else (lookup xs q) (lookup ys q)
  lookup-append [] ys q = refl
  lookup-append (x ∷ xs) ys q = elim (split x.0 q) [ Split.eq e w ↦ rw w | Split.ne e w ↦ rw w (lookup-append xs ys q) ]

  -- any ascending list with the same lookups as m over d makes the same of t
  same_lookups : (xs m d t : Map A) → Ascending xs → Ascending t → ((q : Path) → lookup xs q ≡ or_else (lookup m q) (lookup d q))
      → into xs t ≡ puts m (puts d t)
  same_lookups xs m d t h g e =
      into_puts xs t h g
      ∙ map_ext (puts xs t) (puts m (puts d t)) (ascending_puts xs t g) (ascending_puts m (puts d t) (ascending_puts d t g))
      (λ q.
      let u = lookup_puts xs t q in
      let v = lookup_puts m (puts d t) q in
      let w = lookup_puts d t q in
      let x = e q in
      elim (opt (lookup m q)) [ has_none n ↦ cc | is_some y n ↦ cc ])

  -- of two that are not both something, either comes first
  either_first : (x y : Option A) → ((e : A) → x ≡ some e → y ≡ none) → or_else x y ≡ or_else y x
  either_first none none h = refl
  either_first none (some y) h = refl
  either_first (some x) y h = rw (h x refl)

  module _ (a b : Path) (u v : A) (xs ys : Map A) (p : Apart ((a, u) ∷ xs) ((b, v) ∷ ys)) where
    -- in one order they have what the second has, and else what the first has
    lookup_arranged : (q : Path) → lookup (arranged a b u v xs ys) q ≡ or_else (lookup ((b, v) ∷ ys) q) (lookup ((a, u) ∷ xs) q)
    lookup_arranged q =
        let d : Map A = (a, u) ∷ xs in
        let m : Map A = (b, v) ∷ ys in
        let s = either_first (lookup d q) (lookup m q) (p q) in
        elim (test (before a b)) [
          | yea h ↦ elim (test (before b (a ++ (47 ∷ [])))) [
            | yea g ↦ rw (h, g) (within_first q)
            | nay g ↦ rw (h, g) (lookup-append d m q ∙ s)
          ]
          | nay h ↦ elim (test (before a (b ++ (47 ∷ [])))) [
            | yea g ↦ rw (h, g) (within_second q)
            | nay g ↦ rw (h, g) (lookup-append m d q)
          ]
        ]
      where
        within_first : (q : Path) → lookup ((a, u) ∷ (((b, v) ∷ ys) ++ xs)) q ≡ or_else (lookup ((b, v) ∷ ys) q) (lookup ((a, u) ∷ xs) q)
        within_first q =
            let f = lookup-append ((b, v) ∷ ys) xs q in
            elim (split a q) [ Split.eq e w ↦ cc (p q u (cc)) | Split.ne e w ↦ cc ]

        within_second : (q : Path) → lookup ((b, v) ∷ (((a, u) ∷ xs) ++ ys)) q ≡ or_else (lookup ((b, v) ∷ ys) q) (lookup ((a, u) ∷ xs) q)
        within_second q =
            let f = lookup-append ((a, u) ∷ xs) ys q in
            let s = either_first (lookup ((a, u) ∷ xs) q) (lookup ((b, v) ∷ ys) q) (p q) in
            elim (split b q) [ Split.eq e w ↦ cc | Split.ne e w ↦ cc ]

    pub arranged_makes : (t : Map A) → ascends [] (arranged a b u v xs ys) ≡ true → Ascending t
        → into (arranged a b u v xs ys) t ≡ puts ((b, v) ∷ ys) (puts ((a, u) ∷ xs) t)
    arranged_makes t h g =
        same_lookups (arranged a b u v xs ys) ((b, v) ∷ ys) ((a, u) ∷ xs) t (ascends_is [] (arranged a b u v xs ys) h).1 g lookup_arranged
