-- Some of the paths on the way to a path, by where each ends in it.
use Rattle.std.specs.Prelude.{Bool, true, ◌&&◌, List, [], ◌∷◌, map, ℕ, leb, ltb, take}
use Rattle.model.specs.Path.{Path}
use Rattle.base_paths.specs.declared.prefixes.Dirs.{Dirs}

-- the ends that a Dirs holds
abbrev pub ends_of : Dirs → List ℕ
ends_of d = take d.count d.ends

-- ends ascend strictly from a on, up to n
abbrev pub climbs : ℕ → ℕ → List ℕ → Bool
climbs a n [] = true
climbs a n (e ∷ es) = ltb a e && (leb e n && climbs e n es)

-- the paths that end there
abbrev pub prefixes : Path → List ℕ → List Path
prefixes p es = map (λ (e : ℕ). take e p) es
