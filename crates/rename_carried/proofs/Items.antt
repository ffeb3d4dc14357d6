-- What is known of the item that is told, and of the parts that a caller starts with.
use mathlib.Core.Path.{◌≡◌, refl, ap}
use mathlib.Core.List.{List, [], ◌∷◌}
use mathlib.Core.Bool.{Bool, true}
use Prim.Native.Nat.{ℕ, ◌-◌, ◌<◌, ◌≤◌}
use native.Mathlib.Omega.{arith}
use lib.Dec.{leb}
use lib.ListN.{length}
use Rattle.std.specs.Prelude.{Option, Some, None, MatchOption}
use Rattle.model.specs.Bytes.{Bytes, every}
use Rattle.model.specs.Path.{Path, below}
use Rattle.model.specs.Map.{ascends, only, keys}
use Rattle.model.specs.Listing.{record_at, record_end, node_of, tree_from, tree_in, is_listing}
use Rattle.model.specs.Table.{key_at}
use Rattle.model.proofs.Orders.{and_true}
use Rattle.base_fields.specs.Read.{part}
use Rattle.listing_records.specs.Place.{tree_at}
use Rattle.listing_records.specs.Parts.{PartOf}
use Rattle.model.proofs.Listings.{checked}
use Rattle.listing_records.proofs.Places.{first_record}
use Rattle.listing_records.proofs.Parts.{part_tree}
use Rattle.rename_uncovered.specs.Ahead.{fitting}
use Rattle.rename_carried.specs.Streams.{remaining, Streaming, Next}
use Rattle.rename_carried.specs.declared.Stream.{Stream}
use Rattle.rename_carried.specs.declared.Head.{Head}
use Rattle.rename_carried.specs.declared.Head.TheVariants as next
use Rattle.rename_carried.proofs.Steps.{fewer_under}

-- what is told is there
pub entry_there : (own part : Bytes) (s : Stream) (h : Head) → Next own part s h → h ≡ next.Entry → 0 < s.entries.left
entry_there own part s h n z = let u : Next own part s next.Entry = rw z at n in u.0

pub listed_there : (own part : Bytes) (s : Stream) (h : Head) → Next own part s h → h ≡ next.Listed → 0 < s.listed.left
listed_there own part s h n z = let u : Next own part s next.Listed = rw z at n in u.0

-- where `head_at` tells none, nothing is left
pub at_end : (own part : Bytes) (s : Stream) (o : Option Head) → ((h : Head) → o ≡ Some h → ⊥)
    → MatchOption o (remaining s ≡ 0) (Next own part s) → remaining s ≤ 0
at_end own part s None f m = omega arith
at_end own part s (Some h) f m = absurd (f h refl)

-- its key lies below a
module _ (own part table : Bytes) (a : Path) (f : List Bool) (s : Stream) (w : Streaming own part table a f s) where
  pub entry_below : 0 < s.entries.left → below a (key_at own s.entries.at) ≡ true
  entry_below h = (fewer_under own part [] a s.entries.left s.entries.at h w.under).0

  pub listed_below : 0 < s.listed.left → below a (record_at part s.listed.at).path ≡ true
  listed_below h =
      let m = s.listed.left in
      let to = s.listed.at in
      let k = (record_at part to).path in
      let b = tree_at part (m - 1) (record_end part to) in
      let u : every (fitting a) (keys ((k, node_of (record_at part to)) ∷ b)) ≡ true
      = rw (ap tree_from (first_record part m to h)) at w.listed.under in
      (and_true (below a k) (leb (length k) 512) (and_true (fitting a k) (every (fitting a) (keys b)) u).0).0

-- the part of a checked listing is one of which `first` tells what is carried
pub part_of_listing : (s : Bytes) (a : Path) (from to n : ℕ) → is_listing s ≡ true → PartOf s a from to n
    → (ascends [] (tree_in s) ≡ true) × (tree_at (part s from to) n 0 ≡ only (below a) (tree_in s))
part_of_listing s a from to n h w = ((checked s h).up, part_tree s a from to n w)
