-- #102: what holds of showing a directory. Which names are written, over what table and listing show, and that on
-- tables which the calls built every visible path but a link is found so.
use Rattle.std.specs.Prelude.{◌≡◌, Bool, true, ◌&&◌, List, [], ◌∷◌, ◌++◌, ℕ, ltb, length}
use Rattle.model.specs.Bytes.{Bytes, some?, same, before}
use Rattle.model.specs.Path.{Path, slashless}
use Rattle.model.specs.Tree.{View, a_directory, kind}
use Rattle.model.specs.Table.{padded}
use Rattle.model.specs.Calls.{exists, says}
use Rattle.model.specs.Answer.{accepted}
use Rattle.model.specs.Outcome.{shown_in}
use Rattle.model.specs.declared.Record.{Record}
use Rattle.show_names.specs.Names.{name_bytes, showing}

-- a child's name is not empty and has no slash; the child's path
abbrev pub is_name : Bytes → Bool
is_name n = ltb 0 (length n) && slashless n

abbrev pub child_path : Path → Bytes → Path
child_path [] n = n
child_path (c ∷ p) n = (c ∷ p) ++ (47 ∷ n)

abbrev pub among : Bytes → List Bytes → Bool
among n ns = some? (same n) ns

-- "each once, ascending by bytes": each behind the one before, the first behind the empty name
abbrev pub rising : Bytes → List Bytes → Bool
rising m [] = true
rising m (n ∷ ns) = before m n && rising n ns

-- f shows something other than a link at k, which is what `exists` asks; at the root it shows a directory
abbrev pub shows_at : View → Path → Bool
shows_at f k = says exists (kind f k)

-- An accepted showing with the answer v: the path shows a directory; the output holds v bytes, which are names, and
-- zeros behind them; each name stands there once, in order; and it stands there exactly if something other than a link
-- is visible at the child's path.
pub record Shows (listing table : Bytes) (rec : Record) (p : Path) (output : Bytes) (v : ℕ) : Type 0 where
  pub directory : kind (shown_in listing table rec) p ≡ a_directory
  pub names : List Bytes
  pub written : (showing listing table rec p output).output ≡ padded (length output) (name_bytes names)
  pub size : v ≡ length (name_bytes names)
  pub in_order : rising [] names ≡ true
  pub exactly : (n : Bytes) → among n names ≡ (is_name n && shows_at (shown_in listing table rec) (child_path p n))

-- The path k is found by its name in a directory that is shown.
pub record FoundIn (f : View) (k : Path) : Type 0 where
  pub parent : Path
  pub name : Bytes
  pub is : k ≡ child_path parent name
  pub named : is_name name ≡ true
  pub directory : kind f parent ≡ a_directory

-- The path k stands, by its name, among the names that an accepted showing of its parent wrote into the output.
pub record StandsIn (listing table : Bytes) (rec : Record) (output : Bytes) (k : Path) : Type 0 where
  pub found : FoundIn (shown_in listing table rec) k
  pub answer : ℕ
  pub is_accepted : (showing listing table rec found.parent output).reply ≡ accepted answer
  pub shows : Shows listing table rec found.parent output answer
  pub stands : among found.name shows.names ≡ true
