-- A cursor over the uncovered records of a listing's part below a, beside a cursor over the table.
use Rattle.std.specs.Prelude.{◌≡◌, Bool, true, false, ◌&&◌, List, ℕ, ◌-◌, ◌<◌, leb, length}
use Rattle.model.specs.Bytes.{Bytes, every, before}
use Rattle.model.specs.Path.{Path, below}
use Rattle.model.specs.Map.{is_none, lookup, ascends, only, keys}
use Rattle.model.specs.Tree.{Table, Tree}
use Rattle.model.specs.Listing.{record_at, record_end}
use Rattle.model.specs.Table.{entries_at}
use Rattle.model.specs.Rename.{uncovered}
use Rattle.listing_records.specs.Place.{tree_at, Standing}
use Rattle.table_entries.specs.Place as table
use Rattle.rename_uncovered.specs.Cover.{Covering}
use Rattle.rename_uncovered.specs.declared.Cursor.{Cursor}

-- a path that may be listed below a
abbrev pub fitting : Path → Path → Bool
fitting a q = below a q && leb (length q) 512

-- with a listed path, every path between a and it is listed
abbrev pub Placed : Path → Tree → Type 0
Placed a l = (q k : Path) → is_none (lookup l q) ≡ false → below a k ≡ true → below k q ≡ true
    → is_none (lookup l k) ≡ false

-- the n records of p are those of a listing that are below a
pub record PartBelow (p : Bytes) (a : Path) (n : ℕ) : Type 0 where
  pub stand : Standing p n 0
  pub under : every (fitting a) (keys (tree_at p n 0)) ≡ true
  pub placed : Placed a (tree_at p n 0)

-- the uncovered ones of the m records of p from `at` on
abbrev pub to_come : Table → Path → Bytes → ℕ → ℕ → Tree
to_come t a p m at = only (uncovered t a) (tree_at p m at)

-- m records below a stand in p from `at` on, and i entries in s from `to` on
pub record Ready (p s : Bytes) (a : Path) (f : List Bool) (m at i to : ℕ) : Type 0 where
  pub size : length f ≡ 513
  pub stand : Standing p m at
  pub entries : table.Standing s i to
  pub under : every (fitting a) (keys (tree_at p m at)) ≡ true

-- of the part's tree l and of the table t they have all that is behind the path `last`, which was read last
pub record Reading (p s : Bytes) (a : Path) (t : Table) (l : Tree) (f : List Bool) (m at i to : ℕ) : Type 0 where
  pub last : Path
  pub up : ascends last (tree_at p m at) ≡ true
  pub have : (q : Path) → before last q ≡ true → lookup (tree_at p m at) q ≡ lookup l q
  pub ahead : (q : Path) → before last q ≡ true → lookup (entries_at s i to) q ≡ lookup t q
  pub cover : Covering t a l f last
  pub placed : Placed a l

-- the cursor stands at an uncovered record, which was read, or at the end
pub record Ahead (p s : Bytes) (a : Path) (t : Table) (l : Tree) (f : List Bool) (m at i to : ℕ) : Type 0 where
  pub here : 0 < m → uncovered t a (record_at p at).path ≡ true
  pub behind : 0 < m → Reading p s a t l f (m - 1) (record_end p at) i to

-- the same of a cursor's places
abbrev pub ReadyAt : Bytes → Bytes → Path → List Bool → Cursor → Type 0
ReadyAt p s a f c = Ready p s a f c.left c.at c.place.left c.place.at

abbrev pub AheadAt : Bytes → Bytes → Path → Table → Tree → List Bool → Cursor → Type 0
AheadAt p s a t l f c = Ahead p s a t l f c.left c.at c.place.left c.place.at
