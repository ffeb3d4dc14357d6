-- The entries below a directory, as one part in the middle of a table.
use Rattle.std.specs.Prelude.{◌≡◌, Bool, true, false, not, ◌&&◌, ℕ, ◌≤◌, length}
use Rattle.model.specs.Bytes.{Bytes, some?}
use Rattle.model.specs.Path.{Path, below, child}
use Rattle.model.specs.Map.{only}
use Rattle.model.specs.Tree.{Entry, own, reference, directory, deleted, Table}
use Rattle.model.specs.Table.{entries_at}
use Rattle.base_fields.specs.Read.{part}
use Rattle.table_entries.specs.Place.{Standing}

-- n entries in the bytes s from `from` up to `to` are those of the table t below d; the part has them by itself, and
-- the whole has them there
pub record PartOf (s : Bytes) (t : Table) (d : Path) (from to n : ℕ) : Type 0 where
  pub start : from ≤ to
  pub end : to ≤ length s
  pub stand : Standing (part s from to) n 0
  pub are : entries_at (part s from to) n 0 ≡ only (below d) t
  pub stand_there : Standing s n from
  pub there : entries_at s n from ≡ only (below d) t

-- a deleted entry shows nothing, every other entry something
abbrev pub is_deleted : Entry → Bool
is_deleted (own m c) = false
is_deleted (reference m z p) = false
is_deleted (directory m) = false
is_deleted deleted = true

-- some entry is a child of d and is not deleted
abbrev pub visible_in : Path → Table → Bool
visible_in d t = some? (λ x. child d x.0 && not (is_deleted x.1)) t
