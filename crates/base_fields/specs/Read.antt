-- What is read of byte strings, beside the numbers and the order that `model` defines.
use Rattle.std.specs.Prelude.{Bool, true, cond, ◌&&◌, [], ◌∷◌, ℕ, suc, ◌-◌, eqb, take, drop}
use Rattle.model.specs.Bytes.{Bytes}

-- how many bytes two strings have in common from the start
abbrev pub common : Bytes → Bytes → ℕ
common [] t = 0
common (a ∷ s) [] = 0
common (a ∷ s) (b ∷ t) = cond (eqb a b) (suc (common s t)) 0

-- the bytes from one place up to another
abbrev pub part : Bytes → ℕ → ℕ → Bytes
part s from to = take (to - from) (drop from s)

-- every byte is 0
abbrev pub zeros : Bytes → Bool
zeros [] = true
zeros (b ∷ s) = eqb b 0 && zeros s
