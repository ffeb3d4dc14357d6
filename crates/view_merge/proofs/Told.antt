-- What is told to be next: which of two paths is smaller, by how they compare; and what is visible there, by the stored kind.
use mathlib.Core.Path.{◌≡◌, ap₂, ◌∙◌}
use mathlib.Core.Bool.{true, false, not, ◌||◌}
use mathlib.Core.Option.{some}
use Prim.Native.Nat.{ℕ, ◌+◌, ◌<◌}
use native.Mathlib.Omega.{arith}
use lib.Dec.{eqb}
use lib.ListN.{get_or}
use Rattle.std.specs.Prelude.{Some}
use Rattle.std.proofs.Common.{Ordering, Less, Equal, Greater}
use Rattle.model.specs.Bytes.{Bytes, by_order, order, before}
use Rattle.model.specs.Path.{Path}
use Rattle.model.specs.Tree.{Entry, own, reference, directory, deleted, view, kind_of}
use Rattle.model.specs.Listing.{record_at, node_of}
use Rattle.model.specs.Table.{type_of}
use Rattle.model.specs.Calls.{exists, says}
use Rattle.view_merge.specs.Merges.{remaining, Next}
use Rattle.view_merge.specs.declared.Merge.{Merge}
use Rattle.view_merge.specs.declared.Head.{Head}
use Rattle.view_merge.specs.declared.Head.TheVariants as head
use Rattle.model.proofs.Orders.{Cmp, cmp, bot, yea, nay, test}
use Rattle.base_fields.proofs.Common.{Lt_before}

-- the paths a and b compare as x and y do, which they are
module _ (a b x y : Path) (ea : a ≡ x) (eb : b ≡ y) where
  abbrev as_order : Path → Path → Ordering
  as_order p q = by_order (order p q) Less Equal Greater

  pub equal : Equal ≡ as_order a b → x ≡ y
  equal h = let k : Equal ≡ as_order x y = h ∙ ap₂ as_order ea eb in elim (cmp x y) [
    | Cmp.lt g w ↦ absurd (bot (cc))
    | Cmp.eq g w ↦ g
    | Cmp.gt g w ↦ absurd (bot (cc))
  ]

  pub larger : Greater ≡ as_order a b → before y x ≡ true
  larger h = let k : Greater ≡ as_order x y = h ∙ ap₂ as_order ea eb in elim (cmp x y) [
    | Cmp.lt g w ↦ absurd (bot (cc))
    | Cmp.eq g w ↦ absurd (bot (cc))
    | Cmp.gt g w ↦ Lt_before y x g
  ]

-- kind 4 is that of a deleted entry, and every other entry shows something that is no link
pub live : (e : Entry) (k : ℕ) → k ≡ type_of e → not (eqb k 4) ≡ says exists (kind_of (view e))
live (own m c) k h = rw h
live (reference m z p) k h = rw h
live (directory m) k h = rw h
live deleted k h = rw h

-- a record of kind 1 is a directory, one of kind 2 a file, every other a link
pub no_link : (s : Bytes) (at k : ℕ) → k ≡ get_or s (at + 2) 0 → (eqb k 1 || eqb k 2) ≡ says exists (kind_of (some (node_of (record_at s at))))
no_link s at k h = elim (test (eqb k 1)) [
  | yea e ↦ (let f : eqb (get_or s (at + 2) 0) 1 ≡ true = rw h at e in rw (e, f))
  | nay e ↦ elim (test (eqb k 2)) [
    | yea g ↦ (
        let f : eqb (get_or s (at + 2) 0) 1 ≡ false = rw h at e in
        let i : eqb (get_or s (at + 2) 0) 2 ≡ true = rw h at g in
        rw (e, g, f, i)
        )
    | nay g ↦ (
        let f : eqb (get_or s (at + 2) 0) 1 ≡ false = rw h at e in
        let i : eqb (get_or s (at + 2) 0) 2 ≡ false = rw h at g in
        rw (e, g, f, i)
        )
  ]
]

-- g was told, which is h
pub next_told : (o part : Bytes) (m : Merge) {g h : Head} → Some g ≡ Some h → Next o part m g → Next o part m h
next_told o part m {g} {h} e x = let z : g ≡ h = cc in rw z at x

-- what was told is to come
pub is_left : (o part : Bytes) (m : Merge) (h : Head) → Next o part m h → 0 < remaining m
is_left o part m head.Entry x = let a = x.0 in omega arith
is_left o part m head.Record x = let a = x.0 in omega arith
is_left o part m head.Both x = let a = x.0 in omega arith
