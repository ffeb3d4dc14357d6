-- Document 01, "Turning a call down": the causes of 1, 2, 11, 12 and 13, apart from the order of checks. The rows are
-- those of its table.
use Rattle.std.specs.Prelude.{◌≡◌, false, ℕ, ◌+◌, ◌*◌, ◌<◌, length}
use Rattle.std.proofs.Math.Option.{none}
use Rattle.model.specs.Bytes.{Bytes, every}
use Rattle.model.specs.Path.{Path, short}
use Rattle.model.specs.Map.{lookup, keys, rekey}
use Rattle.model.specs.Tree.{Table, Tree, shown, kind, a_directory}
use Rattle.model.specs.Listing.{is_listing, tree_in}
use Rattle.model.specs.Table.{encode, charge, is_table, table_in}
use Rattle.model.specs.Rename.{planned, sum, walk_from, carried, onto_itself}
use Rattle.model.specs.Content.{appended}
use Rattle.model.specs.Calls.{Call, append, rename, changed}
use Rattle.model.specs.Outcome.{Store, Request, table_after}

-- a rename of a directory, whose plan and walk are charged beside the table; onto itself it has neither (#104)
pub record MovesDirectory (t : Table) (l : Tree) (c : Call) (a b : Path) : Type 0 where
  pub renames : c ≡ rename a b
  pub moves : kind (shown t l) a ≡ a_directory
  pub elsewhere : onto_itself (shown t l) a b ≡ false

-- the causes of 11 and 12 for a call c on the table t over the tree l
pub data Exceeds (E limit : ℕ) (t : Table) (l : Tree) (c : Call) : ℕ → Type 0 where
  -- "limit": the charge after the call, the plan, or the walk's sum (all of it, as it is without a budget) after an
  -- addition
  charge_above : limit < charge E (changed t l c) → Exceeds E limit t l c 11
  plan_above : (a b : Path) → MovesDirectory t l c a b → limit < charge E t + planned a b t → Exceeds E limit t l c 11
  walk_above : (a b : Path) (n : ℕ) → MovesDirectory t l c a b → kind (lookup l) a ≡ a_directory
      → walk_from t l none a ≡ sum n → 2 * length a + 1 < n → limit < charge E t + planned a b t + n
      → Exceeds E limit t l c 11
  -- #103, append: the whole new content beside the charge as it is
  content_above : (p : Path) (m : ℕ) (d b : Bytes) → c ≡ append p m d b
      → limit < charge E t + length (appended (shown t l p) d b) → Exceeds E limit t l c 11
  -- "a moved key above 512 bytes or 32 components"
  key_above : (a b : Path) → c ≡ rename a b → every short (keys (rekey a b (carried t l a))) ≡ false
      → Exceeds E limit t l c 12

pub data Cause (listing : Bytes) (q : Request) (s : Store) : ℕ → Type 0 where
  -- "table, record, E above 4,096 or work buffer malformed or too short"
  malformed_table : is_table s.table s.rec ≡ false → Cause listing q s 1
  short_work : length q.work < length s.table → Cause listing q s 1
  -- "listing malformed"
  malformed_listing : is_listing listing ≡ false → Cause listing q s 2
  exceeds : (n : ℕ) → Exceeds s.rec.entry_size q.limit (table_in s.table s.rec) (tree_in listing)
      q.call n → Cause listing q s n
  -- "entries after the call longer than the table buffer"
  no_room : length s.table < length (encode (table_after listing q s)) → Cause listing q s 13
