-- Change request #102, "Show a directory": the names of a path's visible children as bytes, and what showing them
-- answers and leaves, for every input.
use Rattle.std.specs.Prelude.{Bool, true, false, cond, not, ◌&&◌, List, [], ◌∷◌, ◌++◌, ℕ, ◌+◌, leb, length, drop}
use Rattle.std.proofs.Math.Option.{some}
use Rattle.model.specs.Bytes.{Bytes, some?, cons_if, bytes}
use Rattle.model.specs.Path.{Path, ancestors, slashless, child}
use Rattle.model.specs.Map.{is_none, lookup}
use Rattle.model.specs.Tree.{Table, Tree, shown, Kind, nothing, a_directory, a_file, a_link, kind_of, kind}
use Rattle.model.specs.Listing.{tree_in, is_listing}
use Rattle.model.specs.Table.{table_in, is_table}
use Rattle.model.specs.Checks.{Check, pass, refuse, ◌then◌, unless, form, directory_at}
use Rattle.model.specs.Output.{Written, written_by}
use Rattle.model.specs.Plain.{visible_tree}
use Rattle.model.specs.declared.Record.{Record}

-- k is a child of p: p, a slash, and one component; a child of the root is one component
abbrev pub child_of : Path → Path → Bool
child_of [] k = slashless k
child_of (c ∷ p) k = child (c ∷ p) k

-- where the name of a child of p begins in its path: behind p and the slash
abbrev pub name_start : Path → ℕ
name_start [] = 0
name_start (c ∷ p) = length (c ∷ p) + 1

abbrev pub is_link : Kind → Bool
is_link nothing = false
is_link a_directory = false
is_link a_file = false
is_link a_link = true

-- "every visible child's name, each once, ascending by bytes", of the visible tree, whose paths ascend: so do the names
-- of one path's children. "A link that no entry covers is left out": no entry shows a link.
abbrev pub names : Path → Tree → List Bytes
names p [] = []
names p (x ∷ xs) = cons_if (child_of p x.0 && not (is_link (kind_of (some x.1)))) (drop (name_start p) x.0)
    (names p xs)

-- "each with a 16-bit length before it"
abbrev pub name_bytes : List Bytes → Bytes
name_bytes [] = []
name_bytes (n ∷ ns) = bytes 2 (length n) ++ (n ++ name_bytes ns)

-- "for a path without an entry a link … on the way 4": an ancestor that is listed as a link, with an entry or without
abbrev pub link_on_way : Tree → Path → Bool
link_on_way l p = some? (λ q. is_link (kind (lookup l) q)) (ancestors p)

-- "A file is 7, a missing path 5, for a path without an entry a link at it or on the way 4": 4 comes first
abbrev pub show_checks : Table → Tree → Path → Check
show_checks t l p =
    cond (is_none (lookup t p) && link_on_way l p) (refuse 4 0 (length p)) pass
    then directory_at (length p) (kind (shown t l) p)

-- the bytes that are shown
abbrev pub child_names : Bytes → Bytes → Record → Path → Bytes
child_names listing table rec p = name_bytes (names p (visible_tree (table_in table rec) (tree_in listing)))

-- 1, 2 and 3 as in every call; 4, 5 or 7; "and an output too short is 13"
abbrev pub may_show : Bytes → Bytes → Record → Path → Bytes → Check
may_show listing table rec p output =
    unless 1 (is_table table rec)
    then unless 2 (is_listing listing)
    then form 0 p
    then show_checks (table_in table rec) (tree_in listing) p
    then unless 13 (leb (length (child_names listing table rec p)) (length output))

-- "the output buffer's rest is 0, and the answer is the number of bytes written"
abbrev pub showing : Bytes → Bytes → Record → Path → Bytes → Written
showing listing table rec p output = written_by (may_show listing table rec p output) (child_names listing table rec p)
    output
