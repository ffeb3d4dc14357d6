-- A walk down a path that searches a listing forward.
use Rattle.std.specs.Prelude.{◌≡◌, true, ℕ, ◌≤◌, length, take}
use Rattle.std.proofs.Math.Option.{none}
use Rattle.model.specs.Bytes.{Bytes}
use Rattle.model.specs.Path.{Path}
use Rattle.model.specs.Map.{lookup}
use Rattle.model.specs.Listing.{tree_in}
use Rattle.listing_records.specs.Place.{tree_at, Standing}
use Rattle.listing_records.specs.declared.ComponentWalk.{ComponentWalk}

-- the walk w is good for every prefix of p of k or more bytes: each is looked up among the records from w's place on,
-- since those before it are before the prefix, or w is exhausted, and none of them is listed
pub record Walks (s : Bytes) (p : Path) (w : ComponentWalk) (k : ℕ) : Type 0 where
  pub stand : Standing s w.left w.at
  pub ahead : (j : ℕ) → k ≤ j → j ≤ length p → lookup (tree_in s) (take j p)
      ≡ lookup (tree_at s w.left w.at) (take j p)
  pub gone : w.exhausted ≡ true → (j : ℕ) → k ≤ j → j ≤ length p → lookup (tree_in s) (take j p) ≡ none
