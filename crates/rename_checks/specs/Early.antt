-- What has passed before rename's plan, of a move to another path.
use Rattle.std.specs.Prelude.{◌≡◌}
use Rattle.model.specs.Path.{Path}
use Rattle.model.specs.Tree.{Table, Tree}
use Rattle.model.specs.Checks.{pass}
use Rattle.model.specs.Rename.{rename_paths, rename_types}

-- the first two of the three parts of `rename_checks`, of two paths
pub record EarlyPassed (t : Table) (l : Tree) (a b : Path) : Type 0 where
  pub two : a ≡ b → ⊥
  pub paths : rename_paths t l a b ≡ pass
  pub types : rename_types t l a b ≡ pass
