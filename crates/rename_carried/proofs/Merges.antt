-- Two ascending maps put together: the smaller of their first keys comes first, and what lies below a is put together as the whole is.
use mathlib.Core.Path.{◌≡◌, refl, ap, sym, ◌∙◌}
use mathlib.Core.List.{[], ◌∷◌}
use mathlib.Core.Bool.{false}
use mathlib.Core.Option.{none}
use Rattle.model.specs.Bytes.{before}
use Rattle.model.specs.Path.{Path, below}
use Rattle.model.specs.Map.{Map, lookup, put, puts, only, mapped}
use Rattle.model.specs.Tree.{Table, Tree}
use Rattle.model.specs.Rename.{as_entry, uncovered}
use Rattle.model.proofs.Orders.{Lt, Lt_irrefl, Lt_trans, Lt-≢, Cmp, cmp, Split, split, same_refl, bot, yea, nay, test}
use Rattle.model.proofs.Maps.{Above, Ascending, above_trans, above_puts, lookup_puts, lookup_mapped, lookup_only, ascending_puts, ascending_only, ascending_mapped, map_ext}
use Rattle.base_fields.proofs.Common.{Lt_before}
use Rattle.rename_carried.specs.Streams.{carried_below}

module _ {A : Type 0} where
  put_low : (k : Path) (v : A) (m : Map A) → Above k m → put k v m ≡ (k, v) ∷ m
  put_low k v [] h = refl
  put_low k v (x ∷ xs) h = elim (cmp k x.0) [
    | Cmp.lt g w ↦ rw w
    | Cmp.eq e w ↦ absurd (Lt-≢ k x.0 h e)
    | Cmp.gt g w ↦ absurd (Lt_irrefl k (Lt_trans k x.0 k h g))
  ]

  put_high : (k : Path) (v : A) (y : Path × A) (m : Map A) → Lt y.0 k → put k v (y ∷ m) ≡ y ∷ put k v m
  put_high k v y m h = elim (cmp k y.0) [
    | Cmp.lt g w ↦ absurd (Lt_irrefl k (Lt_trans k y.0 k g h))
    | Cmp.eq e w ↦ absurd (Lt-≢ y.0 k h (sym e))
    | Cmp.gt g w ↦ rw w
  ]

  -- the first key of what is put is the smaller one
  pub puts_first : (x : Path × A) (xs m : Map A) → Above x.0 xs → Ascending xs → Above x.0 m → puts (x ∷ xs) m ≡ x ∷ puts xs m
  puts_first x xs m h a g = put_low x.0 x.1 (puts xs m) (above_puts x.0 xs m h a g)

  -- the first key of what it is put into is
  pub puts_second : (y : Path × A) (xs m : Map A) → Above y.0 xs → Ascending xs → puts xs (y ∷ m) ≡ y ∷ puts xs m
  puts_second y [] m h a = refl
  puts_second y (x ∷ xs) m h a =
      ap (put x.0 x.1) (puts_second y xs m (above_trans y.0 x.0 xs h a.0) a.1) ∙ put_high x.0 x.1 y (puts xs m) h

  -- a path that is not there: it is before a first one that is not before it, and is not behind the first either
  pub before_first : (q : Path) (x : Path × A) (xs : Map A) → before x.0 q ≡ false → lookup (x ∷ xs) q ≡ none → Lt q x.0
  before_first q x xs b l = elim (cmp q x.0) [
    | Cmp.lt g w ↦ g
    | Cmp.eq e w ↦ (let y = same_refl q in absurd (bot (cc)))
    | Cmp.gt g w ↦ (let y = Lt_before x.0 q g in absurd (bot (cc)))
  ]

  pub behind_first : (q : Path) (x : Path × A) (xs : Map A) → lookup (x ∷ xs) q ≡ none → lookup xs q ≡ none
  behind_first q x xs l = elim (split x.0 q) [ Split.eq e w ↦ absurd (bot (cc)) | Split.ne e w ↦ cc ]

module _ (t : Table) (l : Tree) (a : Path) where
  abbrev inside : Table
  inside = mapped as_entry (only (uncovered t a) (only (below a) l))

  abbrev whole : Table
  whole = mapped as_entry (only (uncovered t a) l)

  found_below : (q : Path) → lookup (puts (only (below a) t) inside) q ≡ lookup (only (below a) (puts t whole)) q
  found_below q =
      let a1 = lookup_puts (only (below a) t) inside q in
      let a2 = lookup_only (below a) t q in
      let a3 = lookup_mapped as_entry (only (uncovered t a) (only (below a) l)) q in
      let a4 = lookup_only (uncovered t a) (only (below a) l) q in
      let a5 = lookup_only (below a) l q in
      let b1 = lookup_only (below a) (puts t whole) q in
      let b2 = lookup_puts t whole q in
      let b3 = lookup_mapped as_entry (only (uncovered t a) l) q in
      let b4 = lookup_only (uncovered t a) l q in
      elim (test (below a q)) [
        | yea e ↦ elim (test (uncovered t a q)) [ yea d ↦ cc | nay d ↦ cc ]
        | nay e ↦ elim (test (uncovered t a q)) [ yea d ↦ cc | nay d ↦ cc ]
      ]

  -- the parts below a, put together, are what is carried from there
  pub carried_parts : Ascending l → puts (only (below a) t) inside ≡ carried_below t l a
  carried_parts h =
      map_ext (puts (only (below a) t) inside) (carried_below t l a)
      (ascending_puts (only (below a) t) inside
      (ascending_mapped as_entry (only (uncovered t a) (only (below a) l))
      (ascending_only (uncovered t a) (only (below a) l) (ascending_only (below a) l h))))
      (ascending_only (below a) (puts t whole)
      (ascending_puts t whole (ascending_mapped as_entry (only (uncovered t a) l) (ascending_only (uncovered t a) l h))))
      found_below
