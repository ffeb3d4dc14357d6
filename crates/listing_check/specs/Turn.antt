-- What the inner functions of the one pass give: a record by itself, and the flags of a path.
use Rattle.std.specs.Prelude.{◌≡◌, Bool, false, ◌&&◌, List, ℕ, ◌+◌, ◌≤◌, ◌<◌, leb, length, get_or, take}
use Rattle.model.specs.Bytes.{Bytes}
use Rattle.model.specs.Path.{Path, is_path}
use Rattle.model.specs.Listing.{ListingRecord, record_end, ruled}

-- the record that starts at `at` ends within s
abbrev pub fits : Bytes → ℕ → Bool
fits s at = leb (at + 19) (length s) && leb (record_end s at) (length s)

-- what `formed_record` asks of a record by itself
abbrev pub formed_alone : ListingRecord → Bool
formed_alone r = is_path r.path && ruled r

-- the flags of a path's proper fronts, by their lengths, are the answers of a test
abbrev pub Agree : List Bool → Path → (Path → Bool) → Type 0
Agree flags p f = (k : ℕ) → k < length p → get_or flags k false ≡ f (take k p)

-- flags e after flags f, for a path of m bytes: those up to n stay, those from there to m are cleared, that at m is d
pub record Marked (f e : List Bool) (n m : ℕ) (d : Bool) : Type 0 where
  pub size : length e ≡ length f
  pub stay : (k : ℕ) → k ≤ n → get_or e k false ≡ get_or f k false
  pub clear : (k : ℕ) → n < k → k < m → get_or e k false ≡ false
  pub own : get_or e m false ≡ d
