-- Document 01, "The table and its charge" and "The list of calls and the plain tree": entries, nodes, and what is
-- visible at a path.
use Rattle.std.specs.Prelude.{Bool, true, false, [], ◌∷◌, ℕ, length}
use Rattle.std.proofs.Math.Option.{Option, none, some}
use Rattle.model.specs.Bytes.{Bytes}
use Rattle.model.specs.Path.{Path}
use Rattle.model.specs.Map.{Map, lookup}

-- "for a file, a content or the listed path that holds it"
pub data Body : Type 0 where
  held : Bytes → Body
  listed : Path → Body

-- "A node is a directory, file or link with mtime bits, a size …": the size of a directory and of a link is 0, and so
-- are a link's mtime bits
pub data Node : Type 0 where
  dir : (mtime : ℕ) → Node
  file : (mtime size : ℕ) → Body → Node
  link : Node

-- "1 own file, 2 reference to a listed file, 3 directory, 4 deleted"
pub data Entry : Type 0 where
  own : (mtime : ℕ) → Bytes → Entry
  reference : (mtime size : ℕ) → Path → Entry
  directory : (mtime : ℕ) → Entry
  deleted : Entry

abbrev pub Tree : Type 0
Tree = Map Node

abbrev pub Table : Type 0
Table = Map Entry

-- "Visible at a path: its entry of kind 1 to 3; nothing for kind 4 …"; "an own file's [size] is its content's length"
abbrev pub view : Entry → Option Node
view (own m c) = some (file m (length c) (held c))
view (reference m z p) = some (file m z (listed p))
view (directory m) = some (dir m)
view deleted = none

-- "… without an entry, what the listing has"
abbrev pub over : Option Entry → Option Node → Option Node
over none n = n
over (some e) n = view e

abbrev pub View : Type 0
View = Path → Option Node

abbrev pub shown : Table → Tree → View
shown t l p = over (lookup t p) (lookup l p)

-- what the checks ask of a path
pub data Kind : Type 0 where
  nothing a_directory a_file a_link : Kind

abbrev pub kind_of : Option Node → Kind
kind_of none = nothing
kind_of (some (dir m)) = a_directory
kind_of (some (file m z b)) = a_file
kind_of (some link) = a_link

-- "The root is always a directory."
abbrev pub kind : View → Path → Kind
kind f [] = a_directory
kind f (c ∷ p) = kind_of (f (c ∷ p))

abbrev pub is_nothing : Kind → Bool
is_nothing nothing = true
is_nothing a_directory = false
is_nothing a_file = false
is_nothing a_link = false

abbrev pub is_directory : Kind → Bool
is_directory nothing = false
is_directory a_directory = true
is_directory a_file = false
is_directory a_link = false
