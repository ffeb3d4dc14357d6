-- The cases of document 01, "Corners in overlay.rs and overlay_state.rs", that are marked (P): one table, one theorem, computed. Two have the
-- answer that #104 gives them. Charges and limits are those of #107: "A body's length is now charged rounded up to a
-- multiple of 16; 0 stays 0. `b/f` and the write of two bytes in 01 become 315, the first case's total 1,208 and the
-- way back needs a limit of 1,473."
-- Each compares the whole answer (number, path, length), the charge and all entries after the call.
use mathlib.Core.List.{List, [], ◌∷◌, map}
use mathlib.Core.Path.{◌≡◌, refl}
use Prim.Native.Nat.{ℕ}
use Rattle.model.specs.Tree.{own, reference, directory, deleted, Tree, Table}
use Rattle.model.specs.Calls.{exists}
use Rattle.model.specs.Answer.{accepted, refused}
use Rattle.model.proofs.Case.{path, dir_at, file_at, link_at, query, writing, making, making_all, unlinking, removing, renaming, Case, from, computed, stated}

-- the bits of 1.0 and 2.0
abbrev pub one : ℕ
one = 0x3FF0_0000_0000_0000

abbrev pub two : ℕ
two = 0x4000_0000_0000_0000

-- "listing L: `a` directory, mtime 1.0; `a/f` file, size 5, mtime 2.0; `l` link; `z` file, size 0, mtime 0.0"
abbrev pub L : Tree
L = dir_at "a" one ∷ file_at "a/f" two 5 ∷ link_at "l" ∷ file_at "z" 0 0 ∷ []

-- "Entries: `a` deleted 297, `a/f` deleted 299, `b` directory 297, `b/f` reference to `a/f` 302; charge 1,195."
-- With #107 `b/f` is 315 and the charge 1,208.
abbrev pub there : Table
there = (path "a", deleted) ∷ (path "a/f", deleted) ∷ (path "b", directory one) ∷ (path "b/f", reference two 5 (path "a/f")) ∷ []

-- after `b` to `a`
abbrev pub back : Table
back = (path "a", directory one) ∷ (path "a/f", reference two 5 (path "a/f")) ∷ (path "b", deleted) ∷ (path "b/f", deleted) ∷ []

-- a limit that no case reaches
abbrev pub ample : ℕ
ample = 99_999

pub cases : List Case
cases =
    -- rename
    from L (renaming 1208 "a" "b") [] (accepted 0) 1208 there
    ∷ from L (renaming 1207 "a" "b") [] (refused 11 0 0) 0 []
    ∷ from L (renaming 1208 "a" "b") (renaming 1473 "b" "a" ∷ []) (accepted 0) 1208 back
    ∷ from L (renaming 1208 "a" "b") (renaming 1472 "b" "a" ∷ []) (refused 11 0 0) 1208 there
    -- #104: "Cases `a` to `a` and `z` to `z` of 01 change"
    ∷ from L (renaming 0 "z" "z") [] (accepted 0) 0 []
    ∷ from L (renaming 0 "a" "a") [] (accepted 0) 0 []
    ∷ from L (renaming ample "a" "a/b") [] (refused 10 0 1) 0 []
    ∷ from L (renaming ample "a" "a/f") [] (refused 7 1 3) 0 []
    ∷ from L (renaming ample "q" "a") [] (refused 8 1 1) 0 []
    ∷ from L (renaming ample "q" "n") [] (refused 5 0 1) 0 []
    ∷ from L (renaming ample "z" "z/n") [] (refused 5 1 3) 0 []
    ∷ from L (renaming ample "" "b") [] (refused 4 0 0) 0 []
    ∷ from L (renaming ample "a" "") [] (refused 4 1 0) 0 []
    -- unlink, rmdir
    ∷ from L (unlinking 297 "z") [] (accepted 0) 297 ((path "z", deleted) ∷ [])
    ∷ from L (unlinking 296 "z") [] (refused 11 0 0) 0 []
    ∷ from L (unlinking ample "l") [] (refused 4 0 1) 0 []
    ∷ from L (unlinking ample "") [] (refused 8 0 0) 0 []
    ∷ from L (removing ample "a") [] (refused 9 0 1) 0 []
    ∷ from L (unlinking ample "a/f") (removing 596 "a" ∷ []) (accepted 0) 596 ((path "a", deleted) ∷ (path "a/f", deleted) ∷ [])
    ∷ from L (removing ample "") [] (refused 4 0 0) 0 []
    -- mkdir, write, queries
    ∷ from L (making ample "z/n") [] (refused 5 0 3) 0 []
    ∷ from L (making_all ample "z/n") [] (refused 7 0 1) 0 []
    ∷ from L (writing 315 "a/f" (1 ∷ 2 ∷ [])) [] (accepted 2) 315 ((path "a/f", own 7 (1 ∷ 2 ∷ [])) ∷ [])
    ∷ from L (query exists "l") [] (accepted 0) 0 []
    ∷ []

pub cases_hold : map computed cases ≡ map stated cases
unfolding cases
cases_hold = refl {a = map stated cases}
