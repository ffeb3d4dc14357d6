-- Finite maps as lists of paths with values, strictly ascending by path: the form of the table and of the trees.
-- Each function is defined on every list.
use Rattle.std.specs.Prelude.{Bool, true, false, cond, ◌&&◌, List, [], ◌∷◌, ◌++◌}
use Rattle.std.proofs.Math.Option.{Option, none, some}
use Rattle.model.specs.Bytes.{by_order, cons_if, order, same, before}
use Rattle.model.specs.Path.{Path, rest}

abbrev pub Map : Type 0 → Type 0
Map A = List (Path × A)

abbrev pub is_none : {A : Type 0} → Option A → Bool
is_none none = true
is_none (some a) = false

-- by what follows a path in another, if it is that path or below it
abbrev pub by_rest : {B : Type 0} → Option Path → (Path → B) → B → B
by_rest none f x = x
by_rest (some r) f x = f r

module _ {A : Type 0} where
  abbrev pub lookup : Map A → Path → Option A
  lookup [] k = none
  lookup (x ∷ xs) k = let r = lookup xs k in cond (same x.0 k) (some x.1) r

  -- "ascend strictly by bytes", from the path p on; from the empty path on, no path of the map is empty
  abbrev pub ascends : Path → Map A → Bool
  ascends p [] = true
  ascends p (x ∷ xs) = before p x.0 && ascends x.0 xs

  -- with the value v at k
  abbrev pub put : Path → A → Map A → Map A
  put k v [] = (k, v) ∷ []
  put k v (x ∷ xs) = let r = x ∷ put k v xs in by_order (order k x.0) ((k, v) ∷ x ∷ xs) ((k, v) ∷ xs) r

  -- with all of xs put; where a path stands twice in xs, the first counts
  abbrev pub puts : Map A → Map A → Map A
  puts [] m = m
  puts (x ∷ xs) m = put x.0 x.1 (puts xs m)

  -- without the path k
  abbrev pub del : Path → Map A → Map A
  del k [] = []
  del k (x ∷ xs) = let r = del k xs in cond (same k x.0) r (x ∷ r)

  -- the part whose paths pass a test
  abbrev pub only : (Path → Bool) → Map A → Map A
  only f [] = []
  only f (x ∷ xs) = cons_if (f x.0) x (only f xs)

  -- one value at each path of a list
  abbrev pub each : A → List Path → Map A
  each v [] = []
  each v (k ∷ ks) = (k, v) ∷ each v ks

  abbrev pub keys : Map A → List Path
  keys [] = []
  keys (x ∷ xs) = x.0 ∷ keys xs

  -- what is at a or below it, with b standing in the path where a stood; and what is neither at a nor below it
  abbrev pub rekey : Path → Path → Map A → Map A
  rekey a b [] = []
  rekey a b (x ∷ xs) = let r = rekey a b xs in by_rest (rest a x.0) (λ s. (b ++ s, x.1) ∷ r) r

  abbrev pub outside : Path → Map A → Map A
  outside a [] = []
  outside a (x ∷ xs) = let r = outside a xs in by_rest (rest a x.0) (λ s. r) (x ∷ r)

-- each value by a function
abbrev pub mapped : {A B : Type 0} → (A → B) → Map A → Map B
mapped f [] = []
mapped f (x ∷ xs) = (x.0, f x.1) ∷ mapped f xs
