-- A child of a directory lies below it, so what is asked of children is asked of the part below it alone.
use mathlib.Core.Path.{◌≡◌, refl, ap, ◌∙◌}
use mathlib.Core.List.{[], ◌∷◌}
use mathlib.Core.Bool.{Bool, true, false, not, ◌&&◌, ◌||◌}
use Prim.Native.Nat.{ℕ, ◌-◌, ◌≤◌}
use native.Mathlib.Omega.{arith}
use lib.ListN.{length, drop, length-drop}
use lib.Seq.{length-take-le}
use Rattle.model.specs.Bytes.{Bytes}
use Rattle.model.specs.Path.{Path, below, child}
use Rattle.model.specs.Map.{lookup, is_none, ascends, only}
use Rattle.model.specs.Tree.{Table, Tree}
use Rattle.model.specs.Listing.{tree_in, is_listing}
use Rattle.model.specs.Table.{entries_at, table_in}
use Rattle.model.specs.declared.Record.{Record}
use Rattle.model.proofs.Orders.{bot, yea, nay, test}
use Rattle.model.proofs.Rules.{child_below}
use Rattle.model.proofs.Maps.{above_only, ascends_is, is_ascends, ascending_only}
use Rattle.base_fields.specs.Read.{part}
use Rattle.listing_records.specs.Place.{tree_at, Standing}
use Rattle.listing_records.specs.Parts.{PartOf}
use Rattle.model.proofs.Listings.{checked}
use Rattle.listing_records.proofs.Parts.{part_tree}
use Rattle.table_entries.specs.declared.Place.{Place}
use Rattle.table_below.specs.Parts.{is_deleted, visible_in}
use Rattle.view_children.specs.Children.{listed_in}

not_child : (d k : Path) → below d k ≡ false → child d k ≡ false
not_child d k h = elim (test (child d k)) [
  | yea e ↦ absurd (bot (cc (child_below d k e)))
  | nay e ↦ e
]

-- the entries below d have all its children
pub visible_below : (d : Path) (t : Table) → visible_in d (only (below d) t) ≡ visible_in d t
visible_below d [] = refl
visible_below d (x ∷ xs) = elim (test (below d x.0)) [
  | yea e ↦ rw e (ap (λ (b : Bool). (child d x.0 && not (is_deleted x.1)) || b) (visible_below d xs))
  | nay e ↦ rw (e, not_child d x.0 e) (visible_below d xs)
]

-- and so have the listed nodes below d
listed_below : (t : Table) (d : Path) (l : Tree) → listed_in t d (only (below d) l) ≡ listed_in t d l
listed_below t d [] = refl
listed_below t d (x ∷ xs) = elim (test (below d x.0)) [
  | yea e ↦ rw e (ap (λ (b : Bool). (child d x.0 && is_none (lookup t x.0)) || b) (listed_below t d xs))
  | nay e ↦ rw (e, not_child d x.0 e) (listed_below t d xs)
]

-- the listing's part below d
module _ (s : Bytes) (d : Path) (from to n : ℕ) (h : is_listing s ≡ true) (k : PartOf s d from to n) where
  up_part : ascends [] (tree_at (part s from to) n 0) ≡ true
  up_part =
      let u = ascends_is [] (tree_in s) (checked s h).up in
      ap (ascends []) (part_tree s d from to n k)
      ∙ is_ascends [] (only (below d) (tree_in s)) (above_only (below d) [] (tree_in s) u.0 u.1) (ascending_only (below d) (tree_in s) u.1)

  small_part : length (part s from to) ≤ 16777216
  small_part =
      let a = k.start in
      let b = k.end in
      let c = (checked s h).small in
      let e = length-drop from s in
      let f : length (part s from to) ≡ to - from = length-take-le (to - from) (drop from s) (omega arith) in
      omega arith

  pub part_stands : Standing (part s from to) n 0
  part_stands = record { small = small_part; full = k.full; up = up_part }

  -- asked of the entries from the first on, the part answers for the whole
  pub listed_part : (w : Bytes) (r : Record) (q : Place) → q ≡ record { at = 0; left = r.count } → (b : Bool)
      → b ≡ listed_in (entries_at w q.left q.at) d (tree_at (part s from to) n 0) → b ≡ listed_in (table_in w r) d (tree_in s)
  listed_part w r q e b f =
      f ∙ ap (λ (p : Place). listed_in (entries_at w p.left p.at) d (tree_at (part s from to) n 0)) e
      ∙ ap (listed_in (table_in w r) d) (part_tree s d from to n k) ∙ listed_below (table_in w r) d (tree_in s)
