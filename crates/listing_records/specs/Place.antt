-- Places in a listing: the records from a place on, and the first of them that is not before a path.
use Rattle.std.specs.Prelude.{◌≡◌, true, cond, [], ℕ, zero, suc, ◌≤◌, length}
use Rattle.std.proofs.Math.Option.{Option, none, some}
use Rattle.model.specs.Bytes.{Bytes, same, before}
use Rattle.model.specs.Path.{Path}
use Rattle.model.specs.Map.{ascends}
use Rattle.model.specs.Tree.{Node, Tree}
use Rattle.model.specs.Listing.{record_at, record_end, records_from, filled, node_of, tree_from}
use Rattle.listing_records.specs.declared.Place.{Place}

-- the tree of the n records from `at` on
abbrev pub tree_at : Bytes → ℕ → ℕ → Tree
tree_at s n at = tree_from (records_from s n at)

-- n records stand from `at` up to the end, and their paths ascend
pub record Standing (s : Bytes) (n at : ℕ) : Type 0 where
  pub small : length s ≤ 16777216
  pub full : filled s n at ≡ true
  pub up : ascends [] (tree_at s n at) ≡ true

-- the place of the first of them whose path is not before p
abbrev pub seek_from : Bytes → Path → ℕ → ℕ → Place
seek_from s p zero at = record { at = at; left = 0 }
seek_from s p (suc n) at = cond (before (record_at s at).path p) (seek_from s p n (record_end s at))
    (record { at = at; left = suc n })

-- the node of the first of them, if that has the path p
abbrev pub node_if : Bytes → Path → ℕ → ℕ → Option Node
node_if s p zero at = none
node_if s p (suc n) at = cond (same (record_at s at).path p) (some (node_of (record_at s at))) none
