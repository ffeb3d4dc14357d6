-- Change request #112: what a table that comes from elsewhere must keep over its listing. The tables that the calls
-- built keep it, and runs from every table that keeps it are as runs from an opening (`RunFrom` in Runs.antt).
use Rattle.std.specs.Prelude.{◌≡◌, true, ℕ}
use Rattle.std.proofs.Math.Option.{none, some}
use Rattle.model.specs.Path.{Path, below, child}
use Rattle.model.specs.Map.{lookup}
use Rattle.model.specs.Tree.{listed, Node, dir, file, link, Entry, reference, directory, Table, Tree, view, shown}
use Rattle.model.specs.Tree.{a_directory, kind}

-- the five rules of a table t over the tree l of its listing
pub record Rules (t : Table) (l : Tree) : Type 0 where
  -- "every entry of kind 1 to 3 has visible directories as parents"
  pub parents : (k : Path) (e : Entry) (n : Node) (q : Path) → lookup t k ≡ some e → view e ≡ some n
      → below q k ≡ true → kind (shown t l) q ≡ a_directory
  -- "every listed path below a path that shows no directory has an entry"
  pub hidden : (k : Path) (n : Node) (q : Path) → lookup l k ≡ some n → below q k ≡ true
      → (kind (shown t l) q ≡ a_directory → ⊥) → lookup t k ≡ none → ⊥
  -- "no entry covers a link"
  pub links : (k : Path) → lookup l k ≡ some link → lookup t k ≡ none
  -- "every reference names a listed file with that mtime and size"
  pub refs : (k : Path) (m s : ℕ) (p : Path) → lookup t k ≡ some (reference m s p)
      → lookup l p ≡ some (file m s (listed p))
  -- "a directory entry over a listed directory leaves none of its listed children without an entry"
  pub children : (k : Path) (m j : ℕ) (q : Path) (n : Node) → lookup t k ≡ some (directory m)
      → lookup l k ≡ some (dir j) → child k q ≡ true → lookup l q ≡ some n → lookup t q ≡ none → ⊥
