-- What the listing has at a path, by its kind: the root is a directory, and has no record.
use mathlib.Core.Path.{◌≡◌, refl}
use mathlib.Core.List.{[], ◌∷◌}
use native.Mathlib.Omega.{arith}
use lib.ListN.{length}
use Rattle.model.specs.Path.{Path}
use Rattle.model.specs.Tree.{View, Kind, kind_of, kind}

pub root_kind : (f : View) (p : Path) → length p ≡ 0 → Kind.a_directory ≡ kind f p
root_kind f [] h = refl
root_kind f (b ∷ p) h = absurd (omega arith)

pub kind_named : (f : View) (p : Path) → (length p ≡ 0 → ⊥) → kind_of (f p) ≡ kind f p
kind_named f [] h = absurd (h refl)
kind_named f (b ∷ p) h = refl
