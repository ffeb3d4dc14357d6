-- The records below a directory, as one part in the middle of a listing.
use Rattle.std.specs.Prelude.{◌≡◌, true, List, [], ◌∷◌, ℕ, ◌≤◌, length}
use Rattle.model.specs.Bytes.{Bytes, cons_if}
use Rattle.model.specs.Path.{Path, below}
use Rattle.model.specs.Listing.{ListingRecord, filled, records_from, records}
use Rattle.base_fields.specs.Read.{part}

-- those of the records whose path is below d, in order
abbrev pub records_below : Path → List ListingRecord → List ListingRecord
records_below d [] = []
records_below d (r ∷ rs) = cons_if (below d r.path) r (records_below d rs)

-- n records of the listing s, in the bytes from `from` up to `to`, are those below d; the part decodes to them by
-- itself, and the whole does there
pub record PartOf (s : Bytes) (d : Path) (from to n : ℕ) : Type 0 where
  pub start : from ≤ to
  pub end : to ≤ length s
  pub full : filled (part s from to) n 0 ≡ true
  pub are : records_from (part s from to) n 0 ≡ records_below d (records s)
  pub there : records_from s n from ≡ records_below d (records s)
