-- Stretches of a listing's records, and the directories found in one, entered last first.
use Rattle.std.specs.Prelude.{◌≡◌, cond, [], ◌∷◌, ◌++◌, ℕ, zero, suc, ◌+◌, ◌<◌, ◌≤◌}
use Rattle.std.proofs.Math.Option.{Option}
use Rattle.model.specs.Bytes.{Bytes}
use Rattle.model.specs.Path.{Path, below}
use Rattle.model.specs.Map.{only}
use Rattle.model.specs.Tree.{Table, Tree}
use Rattle.model.specs.Listing.{record_end}
use Rattle.model.specs.Rename.{Walk, children, last_first, enter, walk}
use Rattle.listing_records.specs.Place.{tree_at, Standing}
use Rattle.table_entries.specs.Cut.{since}

-- where the n records from `at` on end
abbrev pub end_after : Bytes → ℕ → ℕ → ℕ
end_after s zero at = at
end_after s (suc n) at = end_after s n (record_end s at)

-- d with a slash: nothing below d is before it
abbrev pub slashed : Path → Path
slashed d = d ++ (47 ∷ [])

-- how many paths at the front are below d
abbrev pub lead : Path → Tree → ℕ
lead d [] = 0
lead d (x ∷ xs) = let r = suc (lead d xs) in cond (below d x.0) r 0

-- of the n records from `at` on, those from d and a slash on are the m from `to` on, and the first `count` of these are
-- those below d
pub record Under (s : Bytes) (d : Path) (n at m to count : ℕ) : Type 0 where
  pub stand : Standing s m to
  pub few : count ≤ m
  pub rest : tree_at s m to ≡ since (slashed d) (tree_at s n at)
  pub are : tree_at s count to ≡ only (below d) (tree_at s m to)

-- the stretch of c of the n records from `at` on is the one from `low` on and the one from `high` on, neither empty
pub record Halved (s : Bytes) (n c at low-left low_count low high-left high-count high : ℕ) : Type 0 where
  pub low_at : low ≡ at
  pub low_all : low-left ≡ n
  pub low_some : 0 < low_count
  pub high_some : 0 < high-count
  pub high_stand : Standing s high-left high
  pub high_fit : high-count ≤ high-left
  pub counts : low_count + high-count ≡ c
  pub lefts : low_count + high-left ≡ n
  pub there : high ≡ end_after s low_count at

-- the walk after the directories among the children of d in xs, the last found first, each walked n levels deep
abbrev pub entered : ℕ → Table → Tree → Option ℕ → Path → Tree → Walk → Walk
entered n t l b d xs w = enter (walk n t l b) (last_first (children t xs d) []) w
