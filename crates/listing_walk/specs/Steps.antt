-- One step of a walk.
use Rattle.std.specs.Prelude.{◌≡◌, true, not, ℕ, ◌+◌, take}
use Rattle.model.specs.Bytes.{Bytes}
use Rattle.model.specs.Path.{Path}
use Rattle.model.specs.Map.{lookup}
use Rattle.model.specs.Tree.{kind, is_directory}
use Rattle.model.specs.Listing.{tree_in}
use Rattle.listing_records.specs.Found.{target_kind}
use Rattle.listing_records.specs.Walk.{Walks}
use Rattle.listing_records.specs.declared.ComponentWalk.{ComponentWalk}
use Rattle.listing_records.specs.declared.RealTarget.{RealTarget}

-- over the listing s, at the first k bytes of p, the walk w finds r and goes on as v
pub record Steps (s : Bytes) (p : Path) (k : ℕ) (w : ComponentWalk) (r : RealTarget) (v : ComponentWalk) : Type 0 where
  pub found : target_kind r ≡ kind (lookup (tree_in s)) (take k p)
  pub ended : v.exhausted ≡ not (is_directory (target_kind r))
  pub stays : w.exhausted ≡ true → v ≡ w
  pub goes_on : Walks s p v (k + 1)
