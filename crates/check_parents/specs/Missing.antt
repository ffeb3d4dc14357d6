-- The directories that mkdir with parents makes, by where each ends in the path.
use Rattle.std.specs.Prelude.{List, [], ◌∷◌, ◌++◌, map, ℕ, length}
use Rattle.model.specs.Path.{Path, ancestors}
use Rattle.model.specs.Tree.{Kind}
use Rattle.model.specs.Checks.{missing}

-- those of the missing ancestors, from the top, and of the path itself
abbrev pub missing_ends : (Path → Kind) → Path → List ℕ
missing_ends g p = map length (missing g (ancestors p)) ++ (length p ∷ [])
