-- The flags of the one pass over a listing's part below a: at k, whether the first k bytes of the path just read are
-- uncovered. Only flags of listed paths are asked for, so the others may say anything, and none is ever cleared.
use Rattle.std.specs.Prelude.{◌≡◌, Bool, true, false, List, ℕ, ◌≤◌, length, get_or, take}
use Rattle.std.proofs.Math.Option.{none}
use Rattle.model.specs.Bytes.{before}
use Rattle.model.specs.Path.{Path, below}
use Rattle.model.specs.Map.{is_none, lookup}
use Rattle.model.specs.Tree.{Table, Tree}
use Rattle.model.specs.Rename.{uncovered}

-- the path p was read last, and the flags of its fronts that are listed in l are right
pub record Covering (t : Table) (a : Path) (l : Tree) (f : List Bool) (p : Path) : Type 0 where
  pub flag : (k : ℕ) → k ≤ length p → is_none (lookup l (take k p)) ≡ false → get_or f k false
      ≡ uncovered t a (take k p)

-- the path q is read behind p: it lies below a, nothing listed is between p and q, and every path between a and q is
-- listed
pub record Following (a : Path) (l : Tree) (p q : Path) : Type 0 where
  pub under : below a q ≡ true
  pub after : before p q ≡ true
  pub next : (k : Path) → before p k ≡ true → before k q ≡ true → lookup l k ≡ none
  pub placed : (k : Path) → below a k ≡ true → below k q ≡ true → is_none (lookup l k) ≡ false
