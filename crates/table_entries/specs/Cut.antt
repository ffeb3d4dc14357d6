-- A map whose paths ascend, cut at a path.
-- Each function is defined on every list.
use Rattle.std.specs.Prelude.{cond, [], ◌∷◌}
use Rattle.std.proofs.Math.Option.{Option, none, some}
use Rattle.model.specs.Bytes.{same, before}
use Rattle.model.specs.Path.{Path}
use Rattle.model.specs.Map.{Map}

module _ {A : Type 0} where
  -- what stands before k: up to the first path that is not before it
  abbrev pub up_to : Path → Map A → Map A
  up_to k [] = []
  up_to k (x ∷ xs) = let r = x ∷ up_to k xs in cond (before x.0 k) r []

  -- what stands from k on
  abbrev pub since : Path → Map A → Map A
  since k [] = []
  since k (x ∷ xs) = let r = since k xs in cond (before x.0 k) r (x ∷ xs)

  -- without its first, if that has the path k
  abbrev pub unless_first : Path → Map A → Map A
  unless_first k [] = []
  unless_first k (x ∷ xs) = cond (same x.0 k) xs (x ∷ xs)

  -- what stands behind k
  abbrev pub behind : Path → Map A → Map A
  behind k m = unless_first k (since k m)

  -- the value of the first, if that has the path k
  abbrev pub first_if : Path → Map A → Option A
  first_if k [] = none
  first_if k (x ∷ xs) = cond (same x.0 k) (some x.1) none
