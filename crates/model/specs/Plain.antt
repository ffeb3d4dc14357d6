-- Document 01, "The list of calls and the plain tree". The plain tree reads neither entries nor record; from an opening
-- on it begins as the listing's tree (`tree_in`), from any other table as the tree that the table shows.
use Rattle.std.specs.Prelude.{cond, [], ◌∷◌, ℕ, length}
use Rattle.std.proofs.Math.Option.{Option, none, some}
use Rattle.model.specs.Bytes.{Bytes, same}
use Rattle.model.specs.Path.{Path, ancestors}
use Rattle.model.specs.Map.{lookup, put, puts, del, each, rekey, outside}
use Rattle.model.specs.Tree.{held, Node, dir, file, Table, Tree, view, kind, is_directory}
use Rattle.model.specs.Checks.{Check, ◌then◌, missing, unlimited}
use Rattle.model.specs.Content.{content_of, appended, spliced}
use Rattle.model.specs.Calls.{Call, write, append, write_inside, mkdir, unlink, rmdir, rename, forms, rules}

-- "The plain tree's rules are these checks from 3 on without 11 to 13, read with an empty table and that tree, however
-- large, as listing."
abbrev pub plain_rules : Tree → Call → Check
plain_rules s c = forms c then rules unlimited [] s c

-- "the destination's node goes; then the source's node and all below it move, unchanged but for the destination
-- standing in the path where the source stood"
abbrev pub plain_move : Path → Path → Tree → Tree
plain_move a b s = puts (rekey a b s) (outside a s)

-- a file with a content
abbrev pub plain_write : Path → ℕ → Bytes → Tree → Tree
plain_write p m c s = put p (file m (length c) (held c)) s

-- #103: "each of the two, once accepted, counts as a write of the whole new content".
-- mkdir: "Else the path, and each ancestor below the root without a node, gets a directory with that mtime and size 0."
abbrev pub plain_effect : Tree → Call → Tree
plain_effect s (write p m c) = plain_write p m c s
plain_effect s (append p m d b) = plain_write p m (appended (lookup s p) d b) s
plain_effect s (write_inside p m o d) = plain_write p m (spliced o d (content_of (lookup s p) [])) s
plain_effect s (mkdir p up ok m) = cond (is_directory (kind (lookup s) p)) s
    (puts (each (dir m) (p ∷ missing (kind (lookup s)) (ancestors p))) s)
plain_effect s (unlink p) = del p s
plain_effect s (rmdir p) = del p s
plain_effect s (rename a b) = cond (same a b) s (plain_move a b (del b s))

-- #112: "the tree that the table shows", as a tree: over the listing, each entry's node at its key, and nothing at the
-- key of a deleted one
abbrev pub laid : Option Node → Path → Tree → Tree
laid none k s = del k s
laid (some n) k s = put k n s

abbrev pub visible_tree : Table → Tree → Tree
visible_tree [] l = l
visible_tree (x ∷ xs) l = laid (view x.1) x.0 (visible_tree xs l)
