-- The visible children of a directory, in two parts: entries that are not deleted, and listed paths without an entry.
use Rattle.std.specs.Prelude.{Bool, ◌&&◌}
use Rattle.model.specs.Bytes.{some?}
use Rattle.model.specs.Path.{Path, child}
use Rattle.model.specs.Map.{lookup, keys, is_none}
use Rattle.model.specs.Tree.{Table, Tree}

-- some path of the listing is a child of d and has no entry
abbrev pub listed_in : Table → Path → Tree → Bool
listed_in t d l = some? (λ k. child d k && is_none (lookup t k)) (keys l)
