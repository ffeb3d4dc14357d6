-- How what is visible at a path stands to what is listed there.
use Rattle.std.specs.Prelude.{◌≡◌, Bool, true, false, ◌<◌, Some, None}
use Rattle.std.specs.Prelude as code
use Rattle.std.proofs.Math.Option.{Option, none, some}
use Rattle.model.specs.Bytes.{Bytes}
use Rattle.model.specs.Map.{is_none}
use Rattle.model.specs.Tree.{Node}
use Rattle.model.specs.Listing.{record_at, node_of}
use Rattle.view_merge.specs.declared.Merge.{Merge}
use Rattle.view_merge.specs.declared.Head.{Head}
use Rattle.view_merge.specs.declared.Head.TheVariants as head
use Rattle.view_marks.specs.declared.Mark.{Mark}
use Rattle.view_marks.specs.declared.Mark.TheVariants as mark

-- b is true exactly if P holds
abbrev pub Tells : Bool → Type 0 → Type 0
Tells b P = (b ≡ true → P) × (b ≡ false → P → ⊥)

-- what is listed at what is next
abbrev pub listed_node : Bytes → Merge → Head → Option Node
listed_node part m head.Entry = none
listed_node part m head.Record = some (node_of (record_at part m.records.at))
listed_node part m head.Both = some (node_of (record_at part m.records.at))

-- the same of what `head_at` tells: where nothing is next, nothing is listed
abbrev pub next_listed : Bytes → Merge → code.Option Head → Option Node
next_listed part m (Some h) = listed_node part m h
next_listed part m None = none

-- the mark of a path where v is visible and l is listed: no two marks hold of the same
abbrev pub Marks : Option Node → Option Node → Mark → Type 0
Marks v l mark.Same = (is_none v ≡ false) × (v ≡ l)
Marks v l mark.New = (is_none v ≡ false) × (l ≡ none)
Marks v l mark.Gone = (v ≡ none) × (is_none l ≡ false)
Marks v l mark.Changed = (is_none v ≡ false) × (is_none l ≡ false) × (v ≡ l → ⊥)
Marks v l mark.Nothing = (v ≡ none) × (l ≡ none)

-- the entry of what is new or changed, and the record of what is gone or the same, stand where the merge does
abbrev pub There : Merge → Mark → Type 0
There m mark.Same = 0 < m.records.left
There m mark.New = 0 < m.entries.left
There m mark.Gone = 0 < m.records.left
There m mark.Changed = 0 < m.entries.left
There m mark.Nothing = Unit
