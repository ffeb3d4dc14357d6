-- The proper ancestors of a path by the places of its slashes, and those from a place on: what a cursor that moves
-- forward finds.
use Rattle.std.specs.Prelude.{◌≡◌, false, List, [], ◌∷◌, map, ◌⊎◌, ℕ, suc, ◌≤◌, ◌<◌, eqb, length, get_or, take, drop}
use Rattle.model.specs.Bytes.{Bytes, cons_if}
use Rattle.model.specs.Path.{Path}

-- the places of the slashes of s, whose first byte stands at i
abbrev pub slashes_in : ℕ → Bytes → List ℕ
slashes_in i [] = []
slashes_in i (b ∷ s) = cons_if (eqb b 47) i (slashes_in (suc i) s)

-- the places of a path's slashes from place i on
abbrev pub slashes_from : Path → ℕ → List ℕ
slashes_from p i = slashes_in i (drop i p)

abbrev pub first_or : ℕ → List ℕ → ℕ
first_or n [] = n
first_or n (k ∷ ks) = k

-- the first of them; where there is none, the path's length
abbrev pub next_slash : Path → ℕ → ℕ
next_slash p i = first_or (length p) (slashes_from p i)

-- the proper ancestors, from the top, whose end is at place i or behind it: each ends before its slash
abbrev pub ancestors_from : Path → ℕ → List Path
ancestors_from p i = map (λ (k : ℕ). take k p) (slashes_from p i)

-- behind place i no slash stands in p, and i is `from` or a slash stands there: p's parent ends at i, if it has `from`
-- bytes or more
pub record Parted (p : Path) (from i : ℕ) : Type 0 where
  pub low : from ≤ i
  pub high : i < length p
  pub here : (i ≡ from) ⊎ (get_or p i 0 ≡ 47)
  pub behind : (j : ℕ) → i < j → j < length p → eqb (get_or p j 0) 47 ≡ false
