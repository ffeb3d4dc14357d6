-- Two ascending streams below a, read as one: the table's entries in `own`, and the listing's uncovered records in
-- `part`.
use Rattle.std.specs.Prelude.{◌≡◌, Bool, true, false, List, [], ℕ, ◌+◌, ◌<◌, Option, None}
use Rattle.std.proofs.Math.Option.{none}
use Rattle.model.specs.Bytes.{Bytes, every, before}
use Rattle.model.specs.Path.{Path, below}
use Rattle.model.specs.Map.{lookup, puts, only, keys, mapped}
use Rattle.model.specs.Tree.{Entry, Table, Tree}
use Rattle.model.specs.Listing.{record_at, node_of}
use Rattle.model.specs.Table.{key_at, entry_at, entries_at}
use Rattle.model.specs.Rename.{as_entry, uncovered}
use Rattle.table_entries.specs.Place.{Standing}
use Rattle.rename_uncovered.specs.Ahead.{to_come, ReadyAt, AheadAt}
use Rattle.rename_carried.specs.declared.Stream.{Stream}
use Rattle.rename_carried.specs.declared.Head.{Head}
use Rattle.rename_carried.specs.declared.Head.TheVariants as next

-- what rename carries from below a
abbrev pub carried_below : Table → Tree → Path → Table
carried_below t l a = only (below a) (puts t (mapped as_entry (only (uncovered t a) l)))

-- what is to come: the entries of `own` from the stream's place on, and the uncovered records of `part`, as entries
abbrev pub ahead : Table → Path → Bytes → Bytes → Stream → Table
ahead t a own part s =
    puts (entries_at own s.entries.left s.entries.at)
    (mapped as_entry (to_come t a part s.listed.left s.listed.at))

-- no more steps than these
abbrev pub remaining : Stream → ℕ
remaining s = s.entries.left + s.listed.left

-- what the code reads stands there, all of it below a
pub record Streaming (own part table : Bytes) (a : Path) (f : List Bool) (s : Stream) : Type 0 where
  pub entries : Standing own s.entries.left s.entries.at
  pub listed : ReadyAt part table a f s.listed
  pub under : every (below a) (keys (entries_at own s.entries.left s.entries.at)) ≡ true

-- the listed stream stands at an uncovered record of the part's tree l or at its end, and the entries to come are some
-- of the table t
pub record Carrying (own part table : Bytes) (a : Path) (t : Table) (l : Tree) (f : List Bool)
    (s : Stream) : Type 0 where
  pub listed : AheadAt part table a t l f s.listed
  pub entries : (q : Path) → lookup t q ≡ none → lookup (entries_at own s.entries.left s.entries.at) q ≡ none

-- which stream is next, by the keys at their places
abbrev pub Next : Bytes → Bytes → Stream → Head → Type 0
Next own part s next.Entry =
    (0 < s.entries.left) × (0 < s.listed.left → before (key_at own s.entries.at)
    (record_at part s.listed.at).path ≡ true)
Next own part s next.Listed =
    (0 < s.listed.left) × (0 < s.entries.left → before (key_at own s.entries.at)
    (record_at part s.listed.at).path ≡ false)

-- what is next
abbrev pub item_at : Bytes → Bytes → Stream → Head → Path × Entry
item_at own part s next.Entry = (key_at own s.entries.at, entry_at own s.entries.at)
item_at own part s next.Listed = ((record_at part s.listed.at).path, as_entry (node_of (record_at part s.listed.at)))

-- nothing is to come exactly where `head_at` tells none
pub record Ending (t : Table) (h : Option Head) : Type 0 where
  pub none_left : h ≡ None → t ≡ []
  pub ended : t ≡ [] → h ≡ None
