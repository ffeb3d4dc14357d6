-- Entries in `own` and records in `part`, both ascending, read as one: what they show together.
use Rattle.std.specs.Prelude.{◌≡◌, true, [], ◌∷◌, ℕ, ◌+◌, ◌<◌, Some, None}
use Rattle.std.specs.Prelude as code
use Rattle.std.proofs.Math.Option.{Option, none, some}
use Rattle.model.specs.Bytes.{Bytes, before}
use Rattle.model.specs.Path.{Path}
use Rattle.model.specs.Tree.{Node, Tree, view}
use Rattle.model.specs.Listing.{record_at, node_of}
use Rattle.model.specs.Table.{key_at, entry_at, entries_at}
use Rattle.model.specs.Plain.{visible_tree}
use Rattle.listing_records.specs.Place.{tree_at}
use Rattle.listing_records.specs.Place as listing
use Rattle.table_entries.specs.Place as table
use Rattle.view_merge.specs.declared.Merge.{Merge}
use Rattle.view_merge.specs.declared.Head.{Head}
use Rattle.view_merge.specs.declared.Head.TheVariants as head

-- what the entries and the records from here on show
abbrev pub ahead : Bytes → Bytes → Merge → Tree
ahead own part m =
    visible_tree (entries_at own m.entries.left m.entries.at) (tree_at part m.records.left m.records.at)

-- no more steps than these
abbrev pub remaining : Merge → ℕ
remaining m = m.entries.left + m.records.left

-- the bytes before both places
abbrev pub passed : Merge → ℕ
passed m = m.entries.at + m.records.at

-- what the code reads stands there
pub record Merging (own part : Bytes) (m : Merge) : Type 0 where
  pub entries : table.Standing own m.entries.left m.entries.at
  pub records : listing.Standing part m.records.left m.records.at

-- which is next, by the paths at both places
abbrev pub Next : Bytes → Bytes → Merge → Head → Type 0
Next own part m head.Entry =
    (0 < m.entries.left) × (0 < m.records.left → before (key_at own m.entries.at)
    (record_at part m.records.at).path ≡ true)
Next own part m head.Record =
    (0 < m.records.left) × (0 < m.entries.left → before (record_at part m.records.at).path
    (key_at own m.entries.at) ≡ true)
Next own part m head.Both =
    (0 < m.entries.left) × (0 < m.records.left) × (key_at own m.entries.at
    ≡ (record_at part m.records.at).path)

-- its path, and what is visible there: the entry counts, where there is one
abbrev pub head_path : Bytes → Bytes → Merge → Head → Path
head_path own part m head.Entry = key_at own m.entries.at
head_path own part m head.Record = (record_at part m.records.at).path
head_path own part m head.Both = key_at own m.entries.at

abbrev pub head_node : Bytes → Bytes → Merge → Head → Option Node
head_node own part m head.Entry = view (entry_at own m.entries.at)
head_node own part m head.Record = some (node_of (record_at part m.records.at))
head_node own part m head.Both = view (entry_at own m.entries.at)

-- the same of what `head_at` tells: where nothing is next, the path is empty and nothing is visible
abbrev pub next_path : Bytes → Bytes → Merge → code.Option Head → Path
next_path own part m (Some h) = head_path own part m h
next_path own part m None = []

abbrev pub next_node : Bytes → Bytes → Merge → code.Option Head → Option Node
next_node own part m (Some h) = head_node own part m h
next_node own part m None = none

-- as a tree of one path or of none
abbrev pub tree_of : Path → Option Node → Tree
tree_of k none = []
tree_of k (some n) = (k, n) ∷ []
