-- The names of a directory's children, as a merge comes to them.
use Rattle.std.specs.Prelude.{◌≡◌, Bool, true, List, [], ◌∷◌, ℕ, ◌+◌, ◌-◌, ◌≤◌, ◌<◌, length, drop}
use Rattle.model.specs.Bytes.{Bytes, every}
use Rattle.model.specs.Path.{Path, below}
use Rattle.model.specs.Map.{keys}
use Rattle.view_merge.specs.Merges.{ahead, Merging, head_path, head_node, tree_of}
use Rattle.view_merge.specs.declared.Merge.{Merge}
use Rattle.view_merge.specs.declared.Head.{Head}
use Rattle.show_names.specs.Names.{names}

-- k lies below p; below the root everything does
abbrev pub inside : Path → Path → Bool
inside [] k = true
inside (c ∷ p) k = below (c ∷ p) k

-- all that the merge has to come lies below p
pub record Showing (own part : Bytes) (p : Path) (m : Merge) : Type 0 where
  pub merging : Merging own part m
  pub under : every (inside p) (keys (ahead own part m)) ≡ true

-- the name of what is next, or none
abbrev pub head_names : Path → Bytes → Bytes → Merge → Head → List Bytes
head_names p own part m h = names p (tree_of (head_path own part m h) (head_node own part m h))

-- n bytes with the length before it: none where there is no name; else the name is what ends the path
pub record Sized (p : Path) (own part : Bytes) (m : Merge) (h : Head) (n : ℕ) : Type 0 where
  pub absent : n ≡ 0 → head_names p own part m h ≡ []
  pub named : 0 < n → (2 ≤ n) × (n ≤ length (head_path own part m h) + 2) × (head_names p own part m h
      ≡ drop (length (head_path own part m h) + 2 - n) (head_path own part m h) ∷ [])
