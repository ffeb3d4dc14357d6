-- Cases that the corners of document 01 miss, computed like those of Cases.antt. Above each stands a wrong
-- implementation that it rules out.
-- Some begin with a table that no call builds: there too the checks are read to the letter.
use mathlib.Core.Bool.{true, false}
use mathlib.Core.List.{List, [], ◌∷◌, ◌++◌, map}
use mathlib.Core.Option.{none, some}
use mathlib.Core.Path.{◌≡◌, refl}
use Prim.Native.Nat.{ℕ}
use Prim.Native.String.{String}
use lib.ListN.{replicate}
use Rattle.model.specs.Path.{Path}
use Rattle.model.specs.Map.{lookup}
use Rattle.model.specs.Tree.{listed, file, Entry, own, reference, directory, deleted, Tree, Table, shown}
use Rattle.model.specs.Checks.{pass, unlimited}
use Rattle.model.specs.Calls.{mkdir, rename, changed, rules, exists, is_file, is_dir}
use Rattle.model.specs.Plain.{plain_effect, visible_tree}
use Rattle.model.specs.Answer.{Reply, accepted, refused}
use Rattle.model.proofs.Case.{path, dir_at, file_at, link_at, Step, call, query, writing, making, making_all}
use Rattle.model.proofs.Case.{unlinking, removing, renaming, Case, begun, from, computed, stated}
use Rattle.model.proofs.Cases.{one, two, L, there, ample}

-- keys with bytes below `/` next to a directory: 2D is `-`, 2F is `/`, 30 is `0`
abbrev near : Tree
near = dir_at "a" 1 ∷ file_at "a-b" 2 3 ∷ file_at "a/x" 4 5 ∷ file_at "a0" 6 7 ∷ []

abbrev beside : Tree
beside = dir_at "a" 1 ∷ file_at "a-b" 2 3 ∷ file_at "a0" 6 7 ∷ []

pub belows : List Case
belows =
    -- takes `a-b` or `a0` to be below `a` in the listing
    from near (renaming 1208 "a" "c") [] (accepted 0) 1208
    ((path "a", deleted) ∷ (path "a/x", deleted) ∷ (path "c", directory 1)
    ∷ (path "c/x", reference 4 5 (path "a/x")) ∷ [])
    -- takes them to be below `a` in the table; keeps the entries in the order of a tree's walk, `a/x` before `a-b`
    ∷ from near (writing ample "a/x" []) (writing ample "a0" [] ∷ writing ample "a-b" [] ∷ renaming ample "a" "c" ∷ [])
    (accepted 0) 1789
    ((path "a", deleted) ∷ (path "a-b", own 7 []) ∷ (path "a/x", deleted) ∷ (path "a0", own 7 [])
    ∷ (path "c", directory 1) ∷ (path "c/x", own 7 []) ∷ [])
    -- takes them to be children of `a`
    ∷ from beside (removing ample "a") [] (accepted 0) 297 ((path "a", deleted) ∷ [])
    -- takes `ab` to be a child of `a`: neither has a slash
    ∷ from (dir_at "a" 1 ∷ file_at "ab" 2 3 ∷ []) (removing ample "a") [] (accepted 0) 297 ((path "a", deleted) ∷ [])
    ∷ []

-- two directories, one listed with a file
abbrev pair : Tree
pair = dir_at "a" one ∷ file_at "a/f" two 5 ∷ dir_at "d" 3 ∷ file_at "d/g" 4 6 ∷ []

-- a directory in a directory, with a file
abbrev deep : Tree
deep = dir_at "a" 1 ∷ dir_at "a/b" 2 ∷ file_at "a/b/f" 3 4 ∷ []

pub deletions : List Case
deletions =
    -- drops deleted entries when a directory moves
    from L (unlinking ample "a/f") (renaming 1192 "a" "b" ∷ []) (accepted 0) 1192
    ((path "a", deleted) ∷ (path "a/f", deleted) ∷ (path "b", directory one) ∷ (path "b/f", deleted) ∷ [])
    -- the same, seen from outside: the listed file shows again when the directory comes back
    ∷ from L (unlinking ample "a/f") (renaming ample "a" "b" ∷ renaming ample "b" "a" ∷ query exists "a/f" ∷ [])
    (accepted 0) 1192
    ((path "a", directory one) ∷ (path "a/f", deleted) ∷ (path "b", deleted) ∷ (path "b/f", deleted) ∷ [])
    -- reads the listing through a deleted destination (9, or `d/g` seen again), or forgets what was deleted below it
    ∷ from pair (unlinking ample "d/g") (removing ample "d" ∷ renaming 1507 "a" "d" ∷ []) (accepted 0) 1507
    ((path "a", deleted) ∷ (path "a/f", deleted) ∷ (path "d", directory one)
    ∷ (path "d/f", reference two 5 (path "a/f")) ∷ (path "d/g", deleted) ∷ [])
    -- takes a deleted ancestor for a directory that is there, or refuses at it
    ∷ from L (unlinking ample "a/f") (removing ample "a" ∷ making_all 895 "a/n" ∷ []) (accepted 0) 895
    ((path "a", directory 7) ∷ (path "a/f", deleted) ∷ (path "a/n", directory 7) ∷ [])
    -- walks below a deleted path
    ∷ from deep (unlinking ample "a/b/f") (removing ample "a/b" ∷ renaming ample "a" "c" ∷ []) (accepted 0) 1794
    ((path "a", deleted) ∷ (path "a/b", deleted) ∷ (path "a/b/f", deleted) ∷ (path "c", directory 1)
    ∷ (path "c/b", deleted) ∷ (path "c/b/f", deleted) ∷ [])
    -- takes what is deleted below a file along with it
    ∷ from L (unlinking ample "a/f") (removing ample "a" ∷ writing ample "a" [] ∷ renaming 893 "a" "b" ∷ [])
    (accepted 0) 893
    ((path "a", deleted) ∷ (path "a/f", deleted) ∷ (path "b", own 7 []) ∷ [])
    -- refuses mkdir over a deleted file
    ∷ from L (unlinking ample "z") (making ample "z" ∷ []) (accepted 0) 297 ((path "z", directory 7) ∷ [])
    -- unlinking what is deleted
    ∷ from L (unlinking ample "z") (unlinking ample "z" ∷ []) (refused 5 0 1) 297 ((path "z", deleted) ∷ [])
    -- takes the entry away instead of marking it deleted
    ∷ from L (writing ample "b" []) (unlinking ample "b" ∷ []) (accepted 0) 297 ((path "b", deleted) ∷ [])
    -- removing a deleted directory
    ∷ from (dir_at "a" 1 ∷ []) (removing ample "a") (removing ample "a" ∷ [])
    (refused 5 0 1) 297 ((path "a", deleted) ∷ [])
    -- answers a deleted source by what the plain tree would say of the clash, 8
    ∷ from L (unlinking ample "a/f") (renaming ample "a/f" "a" ∷ []) (refused 5 0 3) 299 ((path "a/f", deleted) ∷ [])
    ∷ []

abbrev linked : Tree
linked = dir_at "a" 1 ∷ dir_at "a/b" 2 ∷ link_at "a/b/l" ∷ []

-- the link is in the first of two directories, a file in the second
abbrev two_dirs : Tree
two_dirs = dir_at "a" 1 ∷ dir_at "a/b" 2 ∷ link_at "a/b/l" ∷ dir_at "a/c" 3 ∷ file_at "a/c/f" 4 5 ∷ []

-- the same as `linked` with a longer source, and with a longer directory in it
abbrev long_source : Tree
long_source = dir_at "dd" 1 ∷ dir_at "dd/e" 2 ∷ link_at "dd/e/l" ∷ []

abbrev long_inside : Tree
long_inside = dir_at "a" 1 ∷ dir_at "a/bcd" 2 ∷ link_at "a/bcd/l" ∷ []

-- a link behind a file, and before it
abbrev link_last : Tree
link_last = dir_at "a" 1 ∷ file_at "a/f" 2 3 ∷ link_at "a/l" ∷ []

abbrev link_first : Tree
link_first = dir_at "a" 1 ∷ link_at "a/e" ∷ file_at "a/f" 2 3 ∷ []

-- `ccc` with a file was made and moved to `b`
abbrev shorter : Table
shorter = (path "b", directory 7) ∷ (path "b/x", own 7 []) ∷ (path "ccc", deleted) ∷ (path "ccc/x", deleted) ∷ []

pub walks : List Case
walks =
    -- walks one level only
    from deep (renaming 1810 "a" "c") [] (accepted 0) 1810
    ((path "a", deleted) ∷ (path "a/b", deleted) ∷ (path "a/b/f", deleted)
    ∷ (path "c", directory 1) ∷ (path "c/b", directory 2) ∷ (path "c/b/f", reference 3 4 (path "a/b/f")) ∷ [])
    -- leaves a link behind, or takes it along
    ∷ from linked (renaming ample "a" "c") [] (refused 4 0 1) 0 []
    -- starts at another sum than 2 × source length + 1, or adds another sum for a directory
    ∷ from linked (renaming 524 "a" "c") [] (refused 4 0 1) 0 []
    ∷ from linked (renaming 523 "a" "c") [] (refused 11 0 0) 0 []
    -- enters the first found directory first: it meets the link before the file
    ∷ from two_dirs (renaming 1567 "a" "c") [] (refused 4 0 1) 0 []
    ∷ from two_dirs (renaming 1566 "a" "c") [] (refused 11 0 0) 0 []
    -- compares the start with the budget where nothing is added
    ∷ from (dir_at "a" 1 ∷ []) (removing ample "a") (making ample "a" ∷ making ample "b" ∷ renaming 594 "a" "b" ∷ [])
    (accepted 0) 594
    ((path "a", deleted) ∷ (path "b", directory 7) ∷ [])
    -- leaves the walk's sum out: the plain tree's rules allow this move, and only the walk is above
    ∷ begun (dir_at "a" 1 ∷ dir_at "a/d" 2 ∷ []) 0 400 [] (making ample "b")
    (making ample "b/d" ∷ removing ample "b/d" ∷ removing ample "b" ∷ renaming 1039 "a" "b" ∷ [])
    (refused 11 0 0) 516 ((path "b", deleted) ∷ (path "b/d", deleted) ∷ [])
    ∷ begun (dir_at "a" 1 ∷ dir_at "a/d" 2 ∷ []) 0 400 [] (making ample "b")
    (making ample "b/d" ∷ removing ample "b/d" ∷ removing ample "b" ∷ renaming 1040 "a" "b" ∷ [])
    (accepted 0) 1032 ((path "a", deleted) ∷ (path "a/d", deleted) ∷ (path "b", directory 1)
    ∷ (path "b/d", directory 2) ∷ [])
    -- leaves deleted keys out of the plan
    ∷ from L (unlinking ample "a/f") (renaming ample "a" "b" ∷ renaming 1456 "b" "a" ∷ []) (refused 11 0 0) 1192
    ((path "a", deleted) ∷ (path "a/f", deleted) ∷ (path "b", directory one) ∷ (path "b/f", deleted) ∷ [])
    ∷ from L (unlinking ample "a/f") (renaming ample "a" "b" ∷ renaming 1457 "b" "a" ∷ []) (accepted 0) 1192
    ((path "a", directory one) ∷ (path "a/f", deleted) ∷ (path "b", deleted) ∷ (path "b/f", deleted) ∷ [])
    -- charges the limit only after the walk: the link would come first
    ∷ from linked (writing ample "a/x" []) (renaming 298 "a" "c" ∷ [])
    (refused 11 0 0) 299 ((path "a/x", own 7 []) ∷ [])
    -- goes below an entry that is no deleted one: the link there would be met
    ∷ begun linked 40 400 ((path "a/b", directory 9) ∷ []) (renaming ample "a" "c") [] (accepted 0) 1192
    ((path "a", deleted) ∷ (path "a/b", deleted) ∷ (path "c", directory 1) ∷ (path "c/b", directory 9) ∷ [])
    -- does not walk where the source has an entry, though it is a listed directory
    ∷ begun L 40 400 ((path "a", directory 9) ∷ []) (renaming ample "a" "b") [] (accepted 0) 1208
    ((path "a", deleted) ∷ (path "a/f", deleted) ∷ (path "b", directory 9)
    ∷ (path "b/f", reference two 5 (path "a/f")) ∷ [])
    ∷ begun linked 40 400 ((path "a", directory 9) ∷ []) (renaming ample "a" "c") [] (refused 4 0 1) 297
    ((path "a", directory 9) ∷ [])
    -- plans key length + 2 × new key length, or three times one of them: 2 × 3 + 5 + 256 above the charge of 1,196
    ∷ from [] (making ample "ccc") (writing ample "ccc/x" [] ∷ renaming ample "ccc" "b" ∷ renaming 1463 "b" "ccc" ∷ [])
    (accepted 0) 1196
    ((path "b", deleted) ∷ (path "b/x", deleted) ∷ (path "ccc", directory 7) ∷ (path "ccc/x", own 7 []) ∷ [])
    ∷ from [] (making ample "ccc") (writing ample "ccc/x" [] ∷ renaming ample "ccc" "b" ∷ renaming 1462 "b" "ccc" ∷ [])
    (refused 11 0 0) 1196 shorter
    -- starts at 3 whatever the source, at source length + 2, or by the destination's length: 5 + 3 × 4 + 512
    ∷ from long_source (renaming 529 "dd" "c") [] (refused 4 0 2) 0 []
    ∷ from long_source (renaming 528 "dd" "c") [] (refused 11 0 0) 0 []
    -- adds the same for every directory, or its length times itself: 3 + 3 × 5 + 512
    ∷ from long_inside (renaming 530 "a" "c") [] (refused 4 0 1) 0 []
    ∷ from long_inside (renaming 529 "a" "c") [] (refused 11 0 0) 0 []
    -- takes a directory's links first, or adds by the new path's length: 3 + 2 × 3 + 512
    ∷ from link_last (renaming 521 "a" "bb") [] (refused 4 0 1) 0 []
    ∷ from link_last (renaming 520 "a" "bb") [] (refused 11 0 0) 0 []
    -- takes a directory's links last, or its entries in descending order
    ∷ from link_first (renaming 0 "a" "bb") [] (refused 4 0 1) 0 []
    -- leaves the plan in the walk's budget: 299 charged, 265 planned, 524 walked
    ∷ from linked (writing ample "a/x" []) (renaming 1088 "a" "c" ∷ [])
    (refused 4 0 1) 299 ((path "a/x", own 7 []) ∷ [])
    ∷ from linked (writing ample "a/x" []) (renaming 1087 "a" "c" ∷ [])
    (refused 11 0 0) 299 ((path "a/x", own 7 []) ∷ [])
    -- compares with the limit only what is planned, here nothing, and not the charge
    ∷ from link_first (writing ample "q" []) (renaming 297 "a" "c" ∷ []) (refused 4 0 1) 297 ((path "q", own 7 []) ∷ [])
    ∷ from link_first (writing ample "q" []) (renaming 296 "a" "c" ∷ []) (refused 11 0 0) 297 ((path "q", own 7 []) ∷ [])
    ∷ []

pub links : List Case
links =
    -- does not count a link as a child
    from (dir_at "a" 1 ∷ link_at "a/l" ∷ []) (removing ample "a") [] (refused 9 0 1) 0 []
    -- writing over a link, or below it
    ∷ from L (writing ample "l" []) [] (refused 4 0 1) 0 []
    ∷ from L (writing ample "l/x" []) [] (refused 4 0 3) 0 []
    ∷ from L (making ample "l") [] (refused 4 0 1) 0 []
    -- names the link's length, not the whole path's
    ∷ from L (making_all ample "l/x") [] (refused 4 0 3) 0 []
    ∷ from L (removing ample "l") [] (refused 4 0 1) 0 []
    ∷ from L (renaming ample "l" "b") [] (refused 4 0 1) 0 []
    -- tests the source before a link at the destination
    ∷ from L (renaming ample "q" "l") [] (refused 4 1 1) 0 []
    -- takes an entry over a link for the link
    ∷ begun L 40 400 ((path "l", directory 9) ∷ []) (making ample "l/x") []
    (accepted 0) 596 ((path "l", directory 9) ∷ (path "l/x", directory 7) ∷ [])
    ∷ []

pub orders : List Case
orders =
    -- 10 before 9
    from deep (renaming ample "a" "a/b") [] (refused 9 1 3) 0 []
    -- the source's parents before the destination's, or not at all
    ∷ from L (renaming ample "z/n" "q/n") [] (refused 5 1 3) 0 []
    ∷ from L (renaming ample "z/n" "b") [] (refused 5 0 3) 0 []
    -- 9 for a destination that shows nothing
    ∷ begun L 40 400 ((path "b/x/y", own 7 []) ∷ []) (renaming ample "a" "b") [] (accepted 0) 1509
    ((path "a", deleted) ∷ (path "a/f", deleted) ∷ (path "b", directory one)
    ∷ (path "b/f", reference two 5 (path "a/f")) ∷ (path "b/x/y", own 7 []) ∷ [])
    -- "not empty" as anything below, where no child is visible
    ∷ begun (dir_at "a" 1 ∷ []) 40 400 ((path "a/b/c", own 7 []) ∷ []) (removing ample "a") [] (accepted 0) 598
    ((path "a", deleted) ∷ (path "a/b/c", own 7 []) ∷ [])
    -- "not empty" by entries alone, where the directory has one
    ∷ begun L 40 400 ((path "a", directory 9) ∷ []) (removing ample "a") []
    (refused 9 0 1) 297 ((path "a", directory 9) ∷ [])
    -- names the destination where both paths are empty
    ∷ from L (renaming ample "" "") [] (refused 4 0 0) 0 []
    -- moves a file onto a directory
    ∷ from L (renaming ample "z" "a") [] (refused 8 1 1) 0 []
    -- keeps the destination's mtime
    ∷ from L (writing ample "b" (1 ∷ [])) (renaming ample "z" "b" ∷ [])
    (accepted 0) 610 ((path "b", reference 0 0 (path "z")) ∷ (path "z", deleted) ∷ [])
    -- 7 or 8 for an absent source and a file
    ∷ from L (renaming ample "q" "z") [] (refused 5 0 1) 0 []
    -- the source's parents before a link at the destination, or before the destination's root
    ∷ from L (renaming ample "z/n" "l") [] (refused 4 1 1) 0 []
    ∷ from L (renaming ample "z/n" "") [] (refused 4 1 0) 0 []
    -- the destination's parents before the source's root
    ∷ from L (renaming ample "" "z/n") [] (refused 4 0 0) 0 []
    -- the types before the source's link
    ∷ from L (renaming ample "l" "a") [] (refused 4 0 1) 0 []
    -- a link at the destination before its parents; a deleted source before its parents
    ∷ begun link_first 40 400 ((path "a", deleted) ∷ (path "z", own 7 []) ∷ []) (renaming ample "z" "a/e") []
    (refused 5 1 3) 594 ((path "a", deleted) ∷ (path "z", own 7 []) ∷ [])
    ∷ begun L 40 400 ((path "l/x", deleted) ∷ []) (renaming ample "l/x" "b") [] (refused 4 0 3) 299
    ((path "l/x", deleted) ∷ [])
    ∷ []

-- from the table `start`, which the call leaves as it is
abbrev kept : Tree → Table → Step → Reply → ℕ → Case
kept l start c r k = begun l 40 400 start c [] r k start

-- a directory and a link in it; a directory and an empty one in it
abbrev hooked : Tree
hooked = dir_at "a" 1 ∷ link_at "a/l" ∷ []

abbrev nested : Tree
nested = dir_at "a" 1 ∷ dir_at "a/b" 2 ∷ []

-- one entry, at the end of a path whose parents nothing shows
abbrev loose : Entry → Table
loose e = (path "b/x", e) ∷ []

pub parents : List Case
parents =
    -- looks at the parents from the bottom: `l/x` is absent, `l` a link
    from L (writing ample "l/x/y" []) [] (refused 4 0 5) 0 []
    -- the same where a link lies below what is deleted, or below a file. A listing has nothing below a file or a link,
    -- and a directory with a link in it cannot be removed or moved, so no call builds these tables
    ∷ kept hooked ((path "a", deleted) ∷ []) (writing ample "a/l/x" []) (refused 5 0 5) 297
    ∷ kept hooked ((path "a", own 7 []) ∷ []) (making_all ample "a/l/x") (refused 7 0 1) 297
    -- unlink or rmdir asks for no parents: below a link; below what is deleted, where no call leaves a listed path
    -- without an entry
    ∷ from L (unlinking ample "l/x") [] (refused 4 0 3) 0 []
    ∷ from L (removing ample "l/x") [] (refused 4 0 3) 0 []
    ∷ kept L ((path "a", deleted) ∷ []) (unlinking ample "a/f") (refused 5 0 3) 297
    ∷ kept nested ((path "a", deleted) ∷ []) (removing ample "a/b") (refused 5 0 3) 297
    -- unlink, rmdir or mkdir asks for the parents of an own entry, which no call builds without them
    ∷ begun [] 40 400 (loose (own 7 [])) (unlinking 299 "b/x") [] (accepted 0) 299 (loose deleted)
    ∷ begun [] 40 400 (loose (reference 7 5 (path "z"))) (unlinking 299 "b/x") [] (accepted 0) 299 (loose deleted)
    ∷ kept [] (loose (directory 7)) (unlinking ample "b/x") (refused 8 0 3) 299
    ∷ kept L ((path "l/x", deleted) ∷ []) (unlinking ample "l/x") (refused 5 0 3) 299
    ∷ begun [] 40 400 (loose (directory 7)) (removing 299 "b/x") [] (accepted 0) 299 (loose deleted)
    ∷ kept [] (loose (own 7 [])) (removing ample "b/x") (refused 7 0 3) 299
    ∷ kept L ((path "l/x", deleted) ∷ []) (removing ample "l/x") (refused 5 0 3) 299
    ∷ kept [] (loose (directory 7)) (making ample "b/x") (refused 6 0 3) 299
    -- write goes by the own entry before the parents
    ∷ kept [] (loose (own 7 [])) (writing ample "b/x" []) (refused 5 0 3) 299
    ∷ kept [] (loose (directory 7)) (writing ample "b/x" []) (refused 5 0 3) 299
    ∷ []

-- over L, at limit 0 and with a charge above it
abbrev poor : Step → Reply → Case
poor c r = kept L ((path "q", own 7 []) ∷ []) c r 297

pub limits : List Case
limits =
    -- 11 before one of 4 to 10
    poor (writing 0 "n/x" []) (refused 5 0 3)
    ∷ poor (writing 0 "a" []) (refused 8 0 1)
    ∷ poor (writing 0 "l" []) (refused 4 0 1)
    ∷ poor (making 0 "a") (refused 6 0 1)
    ∷ poor (making 0 "z/n") (refused 5 0 3)
    ∷ poor (making_all 0 "z/n") (refused 7 0 1)
    ∷ poor (making_all 0 "l/n") (refused 4 0 3)
    ∷ poor (unlinking 0 "n") (refused 5 0 1)
    ∷ poor (unlinking 0 "a") (refused 8 0 1)
    ∷ poor (unlinking 0 "l") (refused 4 0 1)
    ∷ poor (removing 0 "") (refused 4 0 0)
    ∷ poor (removing 0 "z") (refused 7 0 1)
    ∷ poor (removing 0 "a") (refused 9 0 1)
    ∷ poor (renaming 0 "a" "a/b") (refused 10 0 1)
    ∷ poor (renaming 0 "n" "m") (refused 5 0 1)
    ∷ kept pair ((path "q", own 7 []) ∷ []) (renaming 0 "a" "d") (refused 9 1 1) 297
    ∷ []

-- #104
pub itselves : List Case
itselves =
    -- only within the limit, or within the plan's or the walk's budget: a directory, a file, what was made or written
    poor (renaming 0 "a" "a") (accepted 0)
    ∷ poor (renaming 0 "z" "z") (accepted 0)
    ∷ poor (renaming 0 "q" "q") (accepted 0)
    ∷ poor (renaming 0 "a/f" "a/f") (accepted 0)
    ∷ from L (making ample "d") (renaming 0 "d" "d" ∷ []) (accepted 0) 297 ((path "d", directory 7) ∷ [])
    -- moves what was moved once more: its deleted entries, its references, its charge
    ∷ from L (renaming ample "a" "b") (renaming 0 "b" "b" ∷ []) (accepted 0) 1208 there
    ∷ from L (renaming ample "a" "b") (renaming 0 "b/f" "b/f" ∷ []) (accepted 0) 1208 there
    -- 13, where the entries fill the buffer
    ∷ begun L 40 107 there (renaming 0 "b" "b") [] (accepted 0) 1208 there
    ∷ begun L 40 0 [] (renaming 0 "a" "a") [] (accepted 0) 0 []
    -- 4 at a link in the walk, or 9 by what is below
    ∷ from hooked (renaming 0 "a" "a") [] (accepted 0) 0 []
    ∷ from deep (renaming 0 "a/b" "a/b") [] (accepted 0) 0 []
    -- accepted before the roots, the links or the parents are looked at
    ∷ poor (renaming 0 "" "") (refused 4 0 0)
    ∷ poor (renaming 0 "l" "l") (refused 4 1 1)
    ∷ poor (renaming 0 "l/x" "l/x") (refused 4 1 3)
    ∷ poor (renaming 0 "z/n" "z/n") (refused 5 1 3)
    ∷ kept [] (loose (own 7 [])) (renaming ample "b/x" "b/x") (refused 5 1 3) 299
    ∷ kept [] (loose (directory 7)) (renaming ample "b/x" "b/x") (refused 5 1 3) 299
    ∷ kept L ((path "a", deleted) ∷ []) (renaming ample "a/f" "a/f") (refused 5 1 3) 297
    ∷ kept L ((path "l/x", own 7 []) ∷ []) (renaming ample "l/x" "l/x") (refused 4 1 3) 299
    -- accepted though nothing is there, or what was there is deleted
    ∷ poor (renaming 0 "n" "n") (refused 5 0 1)
    ∷ from L (unlinking ample "z") (renaming 0 "z" "z" ∷ []) (refused 5 0 1) 297 ((path "z", deleted) ∷ [])
    ∷ from L (renaming ample "a" "b") (renaming 0 "a" "a" ∷ []) (refused 5 0 1) 1208 there
    ∷ kept [] ((path "b", deleted) ∷ []) (renaming ample "b" "b") (refused 5 0 1) 297
    -- taken for a move onto itself by its beginning, its length or its parent
    ∷ from L (renaming 1209 "a" "aa") [] (refused 11 0 0) 0 []
    ∷ from L (renaming 610 "z" "y") [] (accepted 0) 610
    ((path "y", reference 0 0 (path "z")) ∷ (path "z", deleted) ∷ [])
    ∷ from L (renaming ample "a" "a/a") [] (refused 10 0 1) 0 []
    ∷ []

pub smalls : List Case
smalls =
    -- write: without parents, onto a directory or the root, keeping the old content's tail, not the data's length
    -- answered
    from L (writing ample "n/x" []) [] (refused 5 0 3) 0 []
    ∷ from L (writing ample "a" []) [] (refused 8 0 1) 0 []
    ∷ from L (writing ample "" []) [] (refused 8 0 0) 0 []
    ∷ from L (writing ample "z" (1 ∷ 2 ∷ 3 ∷ 4 ∷ 5 ∷ [])) (writing ample "z" (6 ∷ 7 ∷ []) ∷ [])
    (accepted 2) 313 ((path "z", own 7 (6 ∷ 7 ∷ [])) ∷ [])
    -- 11 only where the charge grows
    ∷ from L (writing ample "z" (1 ∷ 2 ∷ 3 ∷ 4 ∷ 5 ∷ [])) (writing 312 "z" (6 ∷ 7 ∷ []) ∷ [])
    (refused 11 0 0) 313 ((path "z", own 7 (1 ∷ 2 ∷ 3 ∷ 4 ∷ 5 ∷ [])) ∷ [])
    ∷ from L (writing ample "z" (replicate 17 1)) (writing 312 "z" (6 ∷ 7 ∷ []) ∷ [])
    (refused 11 0 0) 329 ((path "z", own 7 (replicate 17 1)) ∷ [])
    -- mkdir with parents: making listed parents again, leaves parents out, gives them mtime 0; charges only the last;
    -- implies exist_ok
    ∷ from L (making_all ample "a/n/m") []
    (accepted 0) 600 ((path "a/n", directory 7) ∷ (path "a/n/m", directory 7) ∷ [])
    ∷ from L (making_all 596 "b/f") [] (accepted 0) 596 ((path "b", directory 7) ∷ (path "b/f", directory 7) ∷ [])
    ∷ from L (making_all 595 "b/f") [] (refused 11 0 0) 0 []
    ∷ from L (making_all ample "a") [] (refused 6 0 1) 0 []
    -- mkdir: exist_ok takes a file; checks the limit though nothing is made; refuses the root that is there
    ∷ from L (making ample "a") [] (refused 6 0 1) 0 []
    ∷ from L (call ample (mkdir (path "z") false true 7)) [] (refused 6 0 1) 0 []
    ∷ from L (unlinking ample "z") (call 0 (mkdir (path "a") false true 7) ∷ [])
    (accepted 0) 297 ((path "z", deleted) ∷ [])
    ∷ from L (making ample "") [] (refused 6 0 0) 0 []
    ∷ from L (call 0 (mkdir (path "") false true 7)) [] (accepted 0) 0 []
    -- unlink of an absent path, of a directory, listed or not
    ∷ from L (unlinking ample "q") [] (refused 5 0 1) 0 []
    ∷ from L (unlinking ample "a") [] (refused 8 0 1) 0 []
    ∷ from L (making ample "b") (unlinking ample "b" ∷ []) (refused 8 0 1) 297 ((path "b", directory 7) ∷ [])
    -- rmdir of an own directory with a child, of a file, of an absent path
    ∷ from L (making ample "b") (writing ample "b/x" [] ∷ removing ample "b" ∷ [])
    (refused 9 0 1) 596 ((path "b", directory 7) ∷ (path "b/x", own 7 []) ∷ [])
    ∷ from L (removing ample "z") [] (refused 7 0 1) 0 []
    ∷ from L (removing ample "q") [] (refused 5 0 1) 0 []
    -- E is not charged
    ∷ begun L 0 400 [] (unlinking 257 "z") [] (accepted 0) 257 ((path "z", deleted) ∷ [])
    ∷ begun L 4096 400 [] (unlinking 4352 "z") [] (refused 11 0 0) 0 []
    ∷ []

-- a content of n bytes
abbrev ones : ℕ → Entry
ones n = own 7 (replicate n 1)

-- a listed file, moved to `y`
abbrev file_to_y : String → ℕ → Reply → ℕ → Table → Case
file_to_y p limit r k t = from (file_at p 2 3 ∷ []) (renaming limit p "y") [] r k t

-- #107: "A body's length is now charged rounded up to a multiple of 16; 0 stays 0."
pub bodies : List Case
bodies =
    -- no byte is charged 16
    from L (writing 297 "n" []) [] (accepted 0) 297 ((path "n", own 7 []) ∷ [])
    -- 1 byte is charged 1, or nothing
    ∷ from L (writing 313 "n" (1 ∷ [])) [] (accepted 1) 313 ((path "n", ones 1) ∷ [])
    ∷ from L (writing 312 "n" (1 ∷ [])) [] (refused 11 0 0) 0 []
    -- the other side of document 01's write of two bytes
    ∷ from L (writing 314 "a/f" (1 ∷ 2 ∷ [])) [] (refused 11 0 0) 0 []
    -- 16 bytes are charged 32
    ∷ from L (writing 313 "n" (replicate 16 1)) [] (accepted 16) 313 ((path "n", ones 16) ∷ [])
    ∷ from L (writing 312 "n" (replicate 16 1)) [] (refused 11 0 0) 0 []
    -- 17 bytes are charged 16, or 17
    ∷ from L (writing 329 "n" (replicate 17 1)) [] (accepted 17) 329 ((path "n", ones 17) ∷ [])
    ∷ from L (writing 328 "n" (replicate 17 1)) [] (refused 11 0 0) 0 []
    -- more than 16 bytes are charged 32, whatever their number
    ∷ from L (writing 345 "n" (replicate 33 1)) [] (accepted 33) 345 ((path "n", ones 33) ∷ [])
    ∷ from L (writing 344 "n" (replicate 33 1)) [] (refused 11 0 0) 0 []
    -- a content is rounded, but not a listed path; or the key is too: a path of 16 bytes, 312 + 313, and of 17, 313 + 329
    ∷ file_to_y "0123456789abcdef" 625 (accepted 0) 625
    ((path "0123456789abcdef", deleted) ∷ (path "y", reference 2 3 (path "0123456789abcdef")) ∷ [])
    ∷ file_to_y "0123456789abcdef" 624 (refused 11 0 0) 0 []
    ∷ file_to_y "0123456789abcdefg" 642 (accepted 0) 642
    ((path "0123456789abcdefg", deleted) ∷ (path "y", reference 2 3 (path "0123456789abcdefg")) ∷ [])
    ∷ file_to_y "0123456789abcdefg" 641 (refused 11 0 0) 0 []
    -- the bodies' sum is rounded, or E with the body
    ∷ from L (writing ample "m" (1 ∷ [])) (writing 626 "n" (1 ∷ []) ∷ []) (accepted 1) 626
    ((path "m", ones 1) ∷ (path "n", ones 1) ∷ [])
    ∷ from L (writing ample "m" (1 ∷ [])) (writing 625 "n" (1 ∷ []) ∷ []) (refused 11 0 0) 313 ((path "m", ones 1) ∷ [])
    ∷ begun L 1 400 [] (writing 274 "n" (1 ∷ [])) [] (accepted 1) 274 ((path "n", ones 1) ∷ [])
    ∷ begun L 1 400 [] (writing 273 "n" (1 ∷ [])) [] (refused 11 0 0) 0 []
    -- a shorter content keeps the charge of the longer one
    ∷ from L (writing ample "n" (replicate 17 1)) (writing 313 "n" (replicate 16 1) ∷ []) (accepted 16) 313
    ((path "n", ones 16) ∷ [])
    -- a rounded body takes as many bytes of the table buffer
    ∷ begun L 40 42 [] (writing 329 "n" (replicate 17 1)) [] (accepted 17) 329 ((path "n", ones 17) ∷ [])
    ∷ begun L 40 41 [] (writing 329 "n" (replicate 17 1)) [] (refused 13 0 0) 0 []
    -- plan or walk is rounded, or stands beside a charge that is not: 315 charged, 265 planned, 524 walked
    ∷ from linked (writing ample "a/x" (1 ∷ [])) (renaming 1104 "a" "c" ∷ []) (refused 4 0 1) 315
    ((path "a/x", ones 1) ∷ [])
    ∷ from linked (writing ample "a/x" (1 ∷ [])) (renaming 1103 "a" "c" ∷ []) (refused 11 0 0) 315
    ((path "a/x", ones 1) ∷ [])
    ∷ []

pub queries : List Case
queries =
    -- all answered no, all yes; a link followed; the deleted seen; the root not known
    from L (query exists "a") [] (accepted 1) 0 []
    ∷ from L (query exists "z") [] (accepted 1) 0 []
    ∷ from L (query exists "") [] (accepted 1) 0 []
    ∷ from L (query exists "z/n") [] (accepted 0) 0 []
    ∷ from L (query is_file "z") [] (accepted 1) 0 []
    ∷ from L (query is_file "a") [] (accepted 0) 0 []
    ∷ from L (query is_file "l") [] (accepted 0) 0 []
    ∷ from L (query is_dir "a") [] (accepted 1) 0 []
    ∷ from L (query is_dir "") [] (accepted 1) 0 []
    ∷ from L (query is_dir "z") [] (accepted 0) 0 []
    ∷ from L (query is_dir "l") [] (accepted 0) 0 []
    ∷ from L (unlinking ample "z") (query exists "z" ∷ []) (accepted 0) 297 ((path "z", deleted) ∷ [])
    ∷ from L (renaming ample "a" "b") (query is_file "b/f" ∷ []) (accepted 1) 1208 there
    ∷ []

-- two directories; a key of 511 bytes below one of them, and one of 32 components
abbrev plots : Tree
plots = dir_at "a" 1 ∷ dir_at "d" 2 ∷ []

abbrev long_rest : Path
long_rest = 47 ∷ replicate 255 120 ++ (47 ∷ replicate 253 121)

abbrev deep_rest : Path
deep_rest = path "/1/2/3/4/5/6/7/8/9/10/11/12/13/14/15/16/17/18/19/20/21/22/23/24/25/26/27/28/29/30/31"

abbrev holds : Path → Table
holds r = (path "a" ++ r, own 7 []) ∷ []

-- the table after `a`, with r below it, was moved to b
abbrev arrived : String → Path → Table
arrived b r = (path "a", deleted) ∷ (path "a" ++ r, deleted) ∷ (path b, directory 1) ∷ (path b ++ r, own 7 []) ∷ []

pub sizes : List Case
sizes =
    -- 12 by components only, or off by one: a moved key of 512 bytes, and of 513
    begun plots 40 1200 (holds long_rest) (renaming ample "a" "bb") [] (accepted 0) 2210 (arrived "bb" long_rest)
    ∷ begun plots 40 1200 (holds long_rest) (renaming ample "a" "bbb") [] (refused 12 0 0) 807 (holds long_rest)
    -- 12 by length only, or off by one: a moved key of 32 components, and of 33
    ∷ begun plots 40 400 (holds deep_rest) (renaming ample "a" "b") [] (accepted 0) 1356 (arrived "b" deep_rest)
    ∷ begun plots 40 400 (holds deep_rest) (renaming ample "a" "d/b") [] (refused 12 0 0) 381 (holds deep_rest)
    -- 12 of visible entries only
    ∷ begun plots 40 1200 ((path "a" ++ long_rest, deleted) ∷ []) (renaming ample "a" "bbb") []
    (refused 12 0 0) 807 ((path "a" ++ long_rest, deleted) ∷ [])
    -- 12 before 11; 13 before 12
    ∷ begun plots 4096 1200 (holds long_rest) (renaming 10_000 "a" "bbb") [] (refused 11 0 0) 4863 (holds long_rest)
    ∷ begun plots 40 535 (holds long_rest) (renaming ample "a" "bbb") [] (refused 12 0 0) 807 (holds long_rest)
    -- 13 off by one
    ∷ begun L 40 107 [] (renaming ample "a" "b") [] (accepted 0) 1208 there
    ∷ begun L 40 106 [] (renaming ample "a" "b") [] (refused 13 0 0) 0 []
    -- 13 before 11
    ∷ begun L 40 106 [] (renaming 1207 "a" "b") [] (refused 11 0 0) 0 []
    -- freed bytes not used again
    ∷ begun L 40 36 [] (writing ample "z" (1 ∷ 2 ∷ 3 ∷ 4 ∷ 5 ∷ 6 ∷ 7 ∷ 8 ∷ 9 ∷ 10 ∷ []))
    (writing ample "z" (1 ∷ 2 ∷ 3 ∷ 4 ∷ 5 ∷ 6 ∷ 7 ∷ 8 ∷ 9 ∷ 10 ∷ 11 ∷ []) ∷ []) (accepted 11) 313
    ((path "z", own 7 (1 ∷ 2 ∷ 3 ∷ 4 ∷ 5 ∷ 6 ∷ 7 ∷ 8 ∷ 9 ∷ 10 ∷ 11 ∷ [])) ∷ [])
    ∷ begun L 40 35 [] (writing ample "z" (1 ∷ 2 ∷ 3 ∷ 4 ∷ 5 ∷ 6 ∷ 7 ∷ 8 ∷ 9 ∷ 10 ∷ 11 ∷ [])) [] (refused 13 0 0) 0 []
    ∷ []

pub corners : List Case
corners =
    belows ++ deletions ++ walks ++ links ++ orders ++ parents ++ limits ++ itselves ++ smalls ++ bodies ++ queries
    ++ sizes

pub corners_hold : map computed corners ≡ map stated corners
unfolding corners belows deletions walks links orders parents limits itselves smalls bodies queries sizes
corners_hold = refl {a = map stated corners}

-- #112's fifth rule is needed. Over `deep`, a table whose one entry is a directory at `a/b` keeps the other four; the
-- rename of `a` to `c` passes its checks, and `a/b/f`, which the walk does not come to, still shows.
abbrev uncovered_child : Table
uncovered_child = (path "a/b", directory 2) ∷ []

pub left_behind : let a-to-c = rename (path "a") (path "c") in
    (rules unlimited uncovered_child deep a-to-c ≡ pass)
    × (shown (changed uncovered_child deep a-to-c) deep (path "a/b/f") ≡ some (file 3 4 (listed (path "a/b/f"))))
    × (lookup (plain_effect (visible_tree uncovered_child deep) a-to-c) (path "a/b/f") ≡ none)
left_behind = (refl, refl, refl)
