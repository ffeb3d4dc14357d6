-- The mtimes in a table are 64-bit numbers, and what stands in a lent buffer are bytes.
use mathlib.Core.List.{[], ◌∷◌}
use Prim.Native.Nat.{◌<◌}
use Rattle.model.specs.Bytes.{Bytes}
use Rattle.model.specs.Tree.{Entry, own, reference, directory, deleted, Table}
use Rattle.model.specs.Runs.{Word}

-- an entry's mtime bits, and those of all entries of a table
abbrev pub Worded : Entry → Type 0
Worded (own m c) = Word m
Worded (reference m z p) = Word m
Worded (directory m) = Word m
Worded deleted = Unit {0}

abbrev pub Words : Table → Type 0
Words [] = Unit {0}
Words (x ∷ xs) = Worded x.1 × Words xs

-- each element is a byte
abbrev pub IsBytes : Bytes → Type 0
IsBytes [] = Unit {0}
IsBytes (b ∷ s) = (b < 256) × IsBytes s
