-- Entries put into a table one after the other.
use Rattle.std.specs.Prelude.{[], ◌∷◌}
use Rattle.model.specs.Map.{Map, put}

-- the first of xs is put first; where their paths ascend this is `puts`
abbrev pub into : {A : Type 0} → Map A → Map A → Map A
into [] m = m
into (x ∷ xs) m = into xs (put x.0 x.1 m)
