-- Stretches of entries with ascending keys that are put into a table one after the other, each entry made of one that
-- rename carries.
use Rattle.std.specs.Prelude.{◌≡◌, Bool, true, ◌&&◌, List, [], ◌∷◌, ◌++◌, ℕ, ◌+◌, ◌≤◌, leb, length}
use Rattle.std.specs.Borrow.{MutBor}
use Rattle.model.specs.Bytes.{Bytes, every, before}
use Rattle.model.specs.Path.{Path, below}
use Rattle.model.specs.Map.{ascends, put, only}
use Rattle.model.specs.Tree.{Entry, deleted, Table, Tree}
use Rattle.model.specs.Table.{body_of, encode, entries_at}
use Rattle.model.specs.Rename.{new_key}
use Rattle.listing_records.specs.Place.{tree_at}
use Rattle.listing_records.specs.Place as listing
use Rattle.table_entries.specs.Place.{Standing, end_of}
use Rattle.table_entries.specs.Cut.{up_to}
use Rattle.table_measure.specs.Into.{into}
use Rattle.table_write.specs.Merge.{Merged}
use Rattle.table_write.specs.declared.Merge.{Merge}
use Rattle.rename_carried.specs.Streams.{carried_below, Next, item_at}
use Rattle.rename_carried.specs.declared.Stream.{Stream}
use Rattle.rename_carried.specs.declared.Head.{Head}

-- what is put for an entry that is carried: a deleted one at its key
abbrev pub deletion : Path × Entry → Path × Entry
deletion x = (x.0, deleted)

-- and itself at its new key
abbrev pub move : Path → Path → Path × Entry → Path × Entry
move a b x = (new_key a b x.0, x.1)

-- its new key, and what of it follows a, are lengths that a key has room for
abbrev pub movable : Path → Path → Path × Entry → Bool
movable a b x = leb (length a) (length x.0) && leb (length (new_key a b x.0)) 512

-- what is put for all of them
abbrev pub turned : (Path × Entry → Path × Entry) → Table → Table
turned g [] = []
turned g (x ∷ xs) = g x ∷ turned g xs

-- the n records of p are those of the tree l that are below a
pub record Listed (p : Bytes) (a : Path) (n : ℕ) (l : Tree) : Type 0 where
  pub up : ascends [] l ≡ true
  pub are : tree_at p n 0 ≡ only (below a) l

-- all that is carried from below a passes a test, with T for the table and p for the listing's part
pub record AllPass (fit : Path × Entry → Bool) (p : Bytes) (T : Table) (a : Path) (n : ℕ) : Type 0 where
  pub l : Tree
  pub listed : Listed p a n l
  pub all : every fit (carried_below T l a) ≡ true

-- it has room for its new keys
abbrev pub Movables : Bytes → Table → Path → Path → ℕ → Type 0
Movables p T a b n = AllPass (movable a b) p T a n

-- the work buffer w has room up to the entry i, and for it
pub record Room (s w : Bytes) (x : Merge) (i : Path × Entry) : Type 0 where
  pub stand : Standing s x.left x.at
  pub fits : x.out + length (encode (up_to i.0 (entries_at s x.left x.at))) +
      (24 + length i.0 + length (body_of i.1)) ≤ length w

-- the work buffer was w and is w': the entry i was put
pub record Put (s w w' : Bytes) (x x' : Merge) (i : Path × Entry) : Type 0 where
  pub merged : (t : Table) (k : Path) → Merged s w t k x.left x.at x.out → before k i.0 ≡ true
      → Merged s w' (put i.0 i.1 t) i.0 x'.left x'.at x'.out
  pub long : length w' ≡ length w
  pub end : end_of s x'.left x'.at ≡ end_of s x.left x.at

-- what is put for what is carried from below a, with T for the table and p for the listing's part, can be put, and
-- after it what is put later
pub record Puttable (g : Path × Entry → Path × Entry) (s w p : Bytes) (T : Table) (a : Path) (n : ℕ)
    (x : Merge) : Type 0 where
  pub l : Tree
  pub t : Table
  pub k : Path
  pub later : Table
  pub listed : Listed p a n l
  pub merged : Merged s w t k x.left x.at x.out
  pub up : ascends k (turned g (carried_below T l a) ++ later) ≡ true
  pub room : length (encode (into (turned g (carried_below T l a) ++ later) t)) ≤ length w

-- the table t is written up to a key before what is put later
pub record Behind (s w : Bytes) (t later : Table) (x : Merge) : Type 0 where
  pub k : Path
  pub merged : Merged s w t k x.left x.at x.out
  pub up : ascends k later ≡ true

-- the work buffer was w and is w': all of it was put
pub record PutAll (g : Path × Entry → Path × Entry) (s w w' p : Bytes) (T : Table) (a : Path) (n : ℕ)
    (x x' : Merge) : Type 0 where
  pub merged : (l : Tree) (t : Table) (k : Path) (later : Table) → Listed p a n l
      → Merged s w t k x.left x.at x.out
      → ascends k (turned g (carried_below T l a) ++ later) ≡ true
      → Behind s w' (into (turned g (carried_below T l a)) t) later x'
  pub long : length w' ≡ length w
  pub end : end_of s x'.left x'.at ≡ end_of s x.left x.at

-- the item that is next passes a test, and what is put for it has room
pub record Turn (g : Path × Entry → Path × Entry) (fit : Path × Entry → Bool) (s own part w : Bytes) (d : Stream)
    (h : Head) (x : Merge) : Type 0 where
  pub entries : Standing own d.entries.left d.entries.at
  pub listed : listing.Standing part d.listed.left d.listed.at
  pub next : Next own part d h
  pub passes : fit (item_at own part d h) ≡ true
  pub room : Room s w x (g (item_at own part d h))

-- a step, by what its calls ask for, may be called there
abbrev pub Takes : (MutBor (List ℕ) → Stream → Head → Merge → Type 0) → (Path × Entry → Path × Entry)
    → (Path × Entry → Bool) → Bytes → Bytes → Bytes → Type 0
Takes pre g fit s own part =
    (w : _) (d : Stream) (h : Head) (x : Merge) → Turn g fit s own part w.now d h x → pre w d h x

-- a step, by what its calls return, puts what g makes of the item that is next
abbrev pub Puts : (MutBor (List ℕ) → Stream → Head → Merge → Merge → MutBor (List ℕ) → Type 0)
    → (Path × Entry → Path × Entry) → Bytes → Bytes → Bytes → Type 0
Puts post g s own part =
    (w : _) (d : Stream) (h : Head) (x y : Merge) (v : _) → post w d h x y v
    → Put s w.now v.now x y (g (item_at own part d h))
