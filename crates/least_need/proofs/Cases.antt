-- Computed cases of #105: what a call needs of the limit, and the two numbers for a rename. Above each stands a wrong program that it rules out.
-- The entry size is 40, the listing document 01's L unless said. Charges are those of #107: a body of 1 to 16 bytes
-- counts as 16.
use mathlib.Core.List.{List, [], ◌∷◌, ◌++◌, map}
use mathlib.Core.Path.{◌≡◌, refl}
use mathlib.Core.Bool.{Bool, true, false, cond}
use mathlib.Core.Option.{Option, none, some}
use Prim.Native.Nat.{ℕ, max}
use lib.Dec.{leb}
use lib.ListN.{length, replicate}
use Rattle.model.specs.Path.{Path}
use Rattle.model.specs.Tree.{dir, own, reference, directory, deleted, Table, Tree}
use Rattle.model.specs.Table.{encode}
use Rattle.model.specs.Checks.{Check, pass, refuse}
use Rattle.model.specs.Calls.{Call, write, append, write_inside, mkdir, unlink, rmdir, rename, changed}
use Rattle.model.proofs.Case.{path, dir_at, file_at, link_at}
use Rattle.model.proofs.Cases.{two, L, there}
use Rattle.least_need.specs.Need.{need, other_rules}

-- `n` with one byte
abbrev n1 : Table
n1 = (path "n", own 7 (1 ∷ [])) ∷ []

-- `b` a reference to `a/f`
abbrev referred : Table
referred = (path "a/f", deleted) ∷ (path "b", reference two 5 (path "a/f")) ∷ []

-- `y` a reference to `z`
abbrev moved_z : Table
moved_z = (path "y", reference 0 0 (path "z")) ∷ (path "z", deleted) ∷ []

-- `b` with n bytes
abbrev own_b : ℕ → Table
own_b n = (path "b", own 7 (replicate n 1)) ∷ []

-- a file, and a link behind it
abbrev linked : Tree
linked = dir_at "a" 1 ∷ file_at "a/f" 2 5 ∷ link_at "a/l" ∷ []

pub needs : List ((Tree × Table × Call) × ℕ)
needs =
    -- the charge before the call, or that of the data alone
    ((L, [], write (path "n") 8 (1 ∷ [])), 313)
    ∷ ((L, n1, write (path "n") 8 []), 297)
    -- a refused call needs nothing: 8, 17, 5, 7, 9
    ∷ ((L, n1, write (path "a") 8 []), 0)
    ∷ ((L, [], append (path "a/f") 8 [] (1 ∷ [])), 0)
    ∷ ((L, [], write_inside (path "z") 8 0 (1 ∷ [])), 0)
    ∷ ((L, [], mkdir (path "z/b") true false 8), 0)
    ∷ ((L, [], rmdir (path "a")), 0)
    -- append's content beside the charge left out, or rounded up: 612 is the charge after
    ∷ ((L, referred, append (path "b") 8 (6 ∷ []) (1 ∷ 2 ∷ 3 ∷ 4 ∷ 5 ∷ [])), 618)
    ∷ ((L, moved_z, append (path "y") 8 (9 ∷ []) []), 611)
    -- it is asked of an own file too
    ∷ ((L, n1, append (path "n") 8 (2 ∷ []) []), 313)
    ∷ ((L, n1, write_inside (path "n") 8 3 (9 ∷ [])), 313)
    -- the growth as it is, or rounded up by itself: 1 byte becomes 18, and 16
    ∷ ((L, n1, append (path "n") 8 (replicate 17 2) []), 329)
    ∷ ((L, n1, write_inside (path "n") 8 17 (9 ∷ [])), 329)
    ∷ ((L, n1, append (path "n") 8 (replicate 15 2) []), 313)
    ∷ ((L, n1, write_inside (path "n") 8 16 []), 313)
    -- mkdir with parents charges the path alone; a directory that is there needs something
    ∷ ((L, [], mkdir (path "q/r") true false 8), 596)
    ∷ ((L, [], mkdir (path "a") false true 8), 0)
    ∷ ((L, [], unlink (path "z")), 297)
    ∷ ((L, n1, rmdir (path "n")), 0)
    -- onto itself something is needed
    ∷ ((L, there, rename (path "b") (path "b")), 0)
    -- the plan left out; the charge after, 1,208
    ∷ ((L, there, rename (path "b") (path "a")), 1473)
    -- a walk that stops needs nothing, or the charge after is asked behind it
    ∷ ((linked, [], rename (path "a") (path "c")), 521)
    -- plan or walk rounded up, or beside a charge that is not: 315 charged, 265 planned, 521 walked
    ∷ ((linked, (path "a/x", own 7 (1 ∷ [])) ∷ [], rename (path "a") (path "c")), 1101)
    ∷ []

abbrev pub needed : (Tree × Table × Call) × ℕ → ℕ
needed x = need 40 x.0.1 x.0.0 x.0.2

-- the two numbers, as proofs/Leasts.antt shows them
abbrev passes : Check → Bool
passes pass = true
passes (refuse n w k) = false

abbrev both : Tree → Table → Call → Option (ℕ × ℕ)
both l t c =
    let after = length (encode (changed t l c)) in
    cond (passes (other_rules t l c)) (cond (leb after 16777216) (some (need 40 t l c, max (length (encode t)) after)) none) none

-- a name of n bytes
abbrev long : ℕ → Path
long n = replicate n 120

-- a rename, and its least limit and least length
pub renames : List ((Tree × Table × Path × Path) × Option (ℕ × ℕ))
renames =
    ((L, [], path "a", path "b"), some (1208, 107))
    ∷ ((L, [], path "z", path "y"), some (610, 51))
    -- a listed path of 16 bytes charged 32, of 17 charged 17; the length rounded up
    ∷ ((file_at "0123456789abcdef" 2 5 ∷ [], [], path "0123456789abcdef", path "y"), some (625, 81))
    ∷ ((file_at "0123456789abcdefg" 2 5 ∷ [], [], path "0123456789abcdefg", path "y"), some (642, 83))
    -- onto itself as onto another path; none there
    ∷ ((L, [], path "a", path "a"), some (0, 0))
    ∷ ((L, there, path "b", path "b"), some (0, 107))
    ∷ ((L, [], path "l", path "l"), none)
    ∷ ((L, [], path "q", path "q"), none)
    -- the length after without the length before, which is 52
    ∷ ((L, own_b 27, path "z", path "b"), some (610, 52))
    -- never below the present charge, which is 1,305
    ∷ ((L, own_b 1000, path "z", path "b"), some (610, 1025))
    -- the plan left out
    ∷ ((L, there, path "b", path "a"), some (1473, 107))
    ∷ ((L, there, path "b", path "c"), some (1804, 159))
    -- the walk left out, or its nodes counted as directories
    ∷ (
      (
        dir_at "a" 1 ∷ file_at "a/f" 2 5 ∷ file_at "a/g" 2 5 ∷ file_at "a/h" 2 5 ∷ [],
        (path "b", directory 7) ∷ (path "b/f", deleted) ∷ (path "b/g", deleted) ∷ (path "b/h", deleted) ∷ [],
        path "a",
        path "b",
      ),
      some (2751, 221),
    )
    -- the walk's start counted alone: 496 + 401 are 897
    ∷ (((long 200, dir 1) ∷ [], (long 200, directory 7) ∷ [], long 200, path "b"), some (793, 249))
    -- a number where there is none: 4 to 10, a link in the walk, a moved key of 513 bytes
    ∷ ((L, [], [], path "b"), none)
    ∷ ((L, [], path "a", []), none)
    ∷ ((L, [], path "z", path "a"), none)
    ∷ ((L, [], path "a", path "z"), none)
    ∷ ((L, [], path "a", path "a/b"), none)
    ∷ ((L, [], path "q", path "n"), none)
    ∷ ((L, there, path "a", path "b"), none)
    ∷ ((linked, [], path "a", path "c"), none)
    ∷ ((dir_at "d" 1 ∷ dir_at "d/y" 1 ∷ (long 255, dir 1) ∷ [], [], path "d", long 255 ++ (47 ∷ long 255)), none)
    -- the same with 512: neither where there is a number
    ∷ ((dir_at "d" 1 ∷ dir_at "d/y" 1 ∷ (long 255, dir 1) ∷ [], [], path "d", long 255 ++ (47 ∷ long 254)), some (2210, 1122))
    ∷ []

abbrev pub moves : (Tree × Table × Path × Path) × Option (ℕ × ℕ) → Option (ℕ × ℕ)
moves x = both x.0.0 x.0.1 (rename x.0.2 x.0.3)

pub record LeastCases : Type 0 where
  pub of_needs : map needed needs ≡ map (λ (x : (Tree × Table × Call) × ℕ). x.1) needs
  pub of_renames : map moves renames ≡ map (λ (x : (Tree × Table × Path × Path) × Option (ℕ × ℕ)). x.1) renames

pub least_cases_hold : LeastCases
unfolding needs renames
least_cases_hold = record { of_needs = refl; of_renames = refl }
