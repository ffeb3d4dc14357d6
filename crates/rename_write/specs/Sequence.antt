-- Stretches one behind the other: what one asks and does, so that two in a row ask and do the same of both together.
use Rattle.std.specs.Prelude.{◌≡◌, Bool, true, cond, [], ◌∷◌, ◌++◌, ◌≤◌, length}
use Rattle.std.proofs.Math.Option.{Option, none, some}
use Rattle.model.specs.Bytes.{Bytes, before}
use Rattle.model.specs.Path.{Path}
use Rattle.model.specs.Map.{lookup, ascends}
use Rattle.model.specs.Tree.{Node, Entry, deleted, Table, Tree}
use Rattle.model.specs.Table.{encode}
use Rattle.model.specs.Rename.{as_entry}
use Rattle.table_entries.specs.Place.{end_of}
use Rattle.table_measure.specs.Into.{into}
use Rattle.table_write.specs.Merge.{Merged}
use Rattle.table_write.specs.declared.Merge.{Merge}
use Rattle.rename_carried.specs.Streams.{carried_below}
use Rattle.rename_write.specs.Stretch.{deletion, move, turned, Behind}

-- xs can be put, and behind it what is put later
pub record Fits (s w : Bytes) (xs : Table) (x : Merge) : Type 0 where
  pub t : Table
  pub k : Path
  pub later : Table
  pub merged : Merged s w t k x.left x.at x.out
  pub up : ascends k (xs ++ later) ≡ true
  pub room : length (encode (into (xs ++ later) t)) ≤ length w

-- the work buffer was w and is w': xs was put
pub record AllPut (s w w' : Bytes) (xs : Table) (x x' : Merge) : Type 0 where
  pub merged : (t : Table) (k : Path) (later : Table) → Merged s w t k x.left x.at x.out
      → ascends k (xs ++ later) ≡ true → Behind s w' (into xs t) later x'
  pub long : length w' ≡ length w
  pub end : end_of s x'.left x'.at ≡ end_of s x.left x.at

-- what is carried from below a: of a directory all that is there, of a file nothing
abbrev pub lower : Bool → Table → Tree → Path → Table
lower whole t l a = cond whole (carried_below t l a) []

-- the entry that is carried from a itself
abbrev pub top_of : Option Entry → Option Node → Entry
top_of (some e) n = e
top_of none (some n) = as_entry n
top_of none none = deleted

abbrev pub top : Table → Tree → Path → Entry
top t l a = top_of (lookup t a) (lookup l a)

-- what is put for the source: a deleted entry at it and at each key below it
abbrev pub departures : Bool → Table → Tree → Path → Table
departures whole t l a = (a, deleted) ∷ turned deletion (lower whole t l a)

-- for the destination: what is carried, at its new keys
abbrev pub arrivals : Bool → Table → Tree → Path → Path → Table
arrivals whole t l a b = (b, top t l a) ∷ turned (move a b) (lower whole t l a)

-- all of it in one order: of two paths the one that is first comes with all below it, unless the other lies before what
-- is below it
abbrev pub ordered : Bool → Table → Tree → Path → Path → Table
ordered whole t l a b =
    cond (before a b)
    (cond (before b (a ++ (47 ∷ []))) ((a, deleted) ∷ (arrivals whole t l a b ++ turned deletion (lower whole t l a)))
    (departures whole t l a ++ arrivals whole t l a b))
    (cond (before a (b ++ (47 ∷ []))) ((b, top t l a) ∷ (departures whole t l a
    ++ turned (move a b) (lower whole t l a)))
    (arrivals whole t l a b ++ departures whole t l a))
