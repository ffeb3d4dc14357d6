-- Change request #105: the walk of rename as one sum. What a node adds to it, and which listed nodes it comes to, with
-- no order among them. Each function is defined on every tree.
use Rattle.std.specs.Prelude.{Bool, false, ◌||◌, [], ◌∷◌, ℕ, ◌+◌, ◌*◌, length}
use Rattle.model.specs.Path.{Path, below}
use Rattle.model.specs.Map.{only}
use Rattle.model.specs.Tree.{Node, dir, file, link, Table, Tree}
use Rattle.model.specs.Rename.{stops, uncovered}

-- what the walk adds for a node at its path; nothing for one that stops it
abbrev pub cost : Path → Node → ℕ
cost p (dir m) = 3 * length p + 512
cost p (file m z c) = 2 * length p + 512
cost p link = 0

-- the sum over a tree
abbrev pub costs : Tree → ℕ
costs [] = 0
costs (x ∷ xs) = cost x.0 x.1 + costs xs

-- whether a node of a tree stops the walk
abbrev pub any_stops : Tree → Bool
any_stops [] = false
any_stops (x ∷ xs) = stops x.1 || any_stops xs

-- the listed paths below a that no entry covers: what the walk comes to
abbrev pub reached : Table → Tree → Path → Tree
reached t l a = only (uncovered t a) (only (below a) l)
