-- What an insertion answers and leaves, in one.
use Rattle.std.specs.Prelude.{◌≡◌, ℕ, length, replicate}
use Rattle.model.specs.Bytes.{Bytes}
use Rattle.model.specs.Tree.{Table}
use Rattle.model.specs.Table.{encode, padded}
use Rattle.table_insert.specs.Insert.{Inserted, insertion, if_done}

-- the table t was to be put into the bytes s, with the work buffer w: i is answered, and s' and w' are left
pub record Leaves (E limit : ℕ) (s w : Bytes) (t : Table) (i : Inserted) (s' w' : Bytes) : Type 0 where
  pub answer : i ≡ insertion E limit (length s) t
  pub bytes : s' ≡ if_done i (padded (length s) (encode t)) s
  pub buffer : w' ≡ if_done i (replicate (length w) 0) w
