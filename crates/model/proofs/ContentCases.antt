-- #103, which gives no example: cases of append and of writing inside, computed like those of Cases.antt. Above each
-- stands a wrong implementation that it rules out. The listing is document 01's L unless said. Charges and limits are
-- those of #107.
use mathlib.Core.List.{List, [], ◌∷◌, ◌++◌, map}
use mathlib.Core.Path.{◌≡◌, refl}
use lib.ListN.{replicate}
use Rattle.model.specs.Bytes.{Bytes}
use Rattle.model.specs.Tree.{own, reference, directory, deleted}
use Rattle.model.specs.Answer.{accepted, refused}
use Rattle.model.proofs.Case.{path, writing, appending, writing_inside, making, unlinking, renaming, Case, begun, from, computed, stated}
use Rattle.model.proofs.Cases.{two, L, ample}

-- the five bytes of `a/f`
abbrev five : Bytes
five = 1 ∷ 2 ∷ 3 ∷ 4 ∷ 5 ∷ []

-- ten bytes, sixteen bytes
abbrev ten : Bytes
ten = replicate 10 1

abbrev sixteen : Bytes
sixteen = replicate 16 1

pub appends : List Case
appends =
    -- puts the data in the place of the content, or before it; keeps the old mtime; answers the content's length
    from L (writing ample "n" (1 ∷ 2 ∷ [])) (appending 313 "n" (3 ∷ []) [] ∷ []) (accepted 1) 313
    ((path "n", own 8 (1 ∷ 2 ∷ 3 ∷ [])) ∷ [])
    ∷ from L (writing ample "n" (1 ∷ 2 ∷ [])) (appending 312 "n" (3 ∷ []) [] ∷ []) (refused 11 0 0) 313
    ((path "n", own 7 (1 ∷ 2 ∷ [])) ∷ [])
    -- #107: "The growth in #103 is the rounded length after, less the rounded length before." Takes the growth as it is:
    -- 10 bytes and 10, 16 bytes and 1
    ∷ from L (writing ample "n" ten) (appending 329 "n" (replicate 10 2) [] ∷ []) (accepted 10) 329
    ((path "n", own 8 (ten ++ replicate 10 2)) ∷ [])
    ∷ from L (writing ample "n" ten) (appending 328 "n" (replicate 10 2) [] ∷ []) (refused 11 0 0) 313
    ((path "n", own 7 ten) ∷ [])
    ∷ from L (writing ample "n" sixteen) (appending 329 "n" (2 ∷ []) [] ∷ []) (accepted 1) 329
    ((path "n", own 8 (sixteen ++ (2 ∷ []))) ∷ [])
    ∷ from L (writing ample "n" sixteen) (appending 328 "n" (2 ∷ []) [] ∷ []) (refused 11 0 0) 313
    ((path "n", own 7 sixteen) ∷ [])
    -- rounds the growth by itself: 10 bytes and 4, and 6, have no growth, and 22 have 16
    ∷ from L (writing ample "n" ten) (appending 313 "n" (replicate 4 2) [] ∷ []) (accepted 4) 313
    ((path "n", own 8 (ten ++ replicate 4 2)) ∷ [])
    ∷ from L (writing ample "n" ten) (appending 313 "n" (replicate 6 2) [] ∷ []) (accepted 6) 313
    ((path "n", own 8 (ten ++ replicate 6 2)) ∷ [])
    ∷ from L (writing ample "n" ten) (appending 329 "n" (replicate 22 2) [] ∷ []) (accepted 22) 329
    ((path "n", own 8 (ten ++ replicate 22 2)) ∷ [])
    -- takes no data for nothing to do: keeps the mtime, or asks no limit
    ∷ from L (writing ample "n" (1 ∷ [])) (appending 313 "n" [] [] ∷ []) (accepted 0) 313 ((path "n", own 8 (1 ∷ [])) ∷ [])
    ∷ from L (writing ample "n" (1 ∷ [])) (appending 312 "n" [] [] ∷ []) (refused 11 0 0) 313 ((path "n", own 7 (1 ∷ [])) ∷ [])
    -- asks for a file that is there
    ∷ from L (appending 313 "n" (1 ∷ []) []) [] (accepted 1) 313 ((path "n", own 8 (1 ∷ [])) ∷ [])
    ∷ from L (appending 312 "n" (1 ∷ []) []) [] (refused 11 0 0) 0 []
    ∷ from L (appending 297 "n" [] []) [] (accepted 0) 297 ((path "n", own 8 []) ∷ [])
    ∷ from L (unlinking ample "z") (appending 313 "z" (9 ∷ []) [] ∷ []) (accepted 1) 313 ((path "z", own 8 (9 ∷ [])) ∷ [])
    -- brings nothing of a listed file into the table, or not its bytes
    ∷ from L (appending 315 "a/f" (6 ∷ []) five) [] (accepted 1) 315 ((path "a/f", own 8 (five ++ (6 ∷ []))) ∷ [])
    ∷ from L (appending 314 "a/f" (6 ∷ []) five) [] (refused 11 0 0) 0 []
    ∷ from L (appending 315 "a/f" [] five) [] (accepted 0) 315 ((path "a/f", own 8 five) ∷ [])
    -- rounds a listed file's bytes and the data each by itself, 5 bytes and 10; charges the data alone, 5 bytes and 12
    ∷ from L (appending 315 "a/f" (replicate 10 6) five) [] (accepted 10) 315
    ((path "a/f", own 8 (five ++ replicate 10 6)) ∷ [])
    ∷ from L (appending 331 "a/f" (replicate 12 6) five) [] (accepted 12) 331
    ((path "a/f", own 8 (five ++ replicate 12 6)) ∷ [])
    ∷ from L (appending 330 "a/f" (replicate 12 6) five) [] (refused 11 0 0) 0 []
    -- asks 17 behind 11, or only of listed files, or takes longer lent bytes
    ∷ from L (appending 0 "a/f" (6 ∷ []) (1 ∷ 2 ∷ 3 ∷ 4 ∷ [])) [] (refused 17 0 0) 0 []
    ∷ from L (appending 0 "a/f" (6 ∷ []) (five ++ (6 ∷ []))) [] (refused 17 0 0) 0 []
    ∷ from L (appending 0 "n" (6 ∷ []) (1 ∷ [])) [] (refused 17 0 0) 0 []
    ∷ from L (writing ample "n" []) (appending 0 "n" [] (1 ∷ []) ∷ []) (refused 17 0 0) 297 ((path "n", own 7 []) ∷ [])
    ∷ from L (unlinking ample "a/f") (appending 0 "a/f" [] five ∷ []) (refused 17 0 0) 299 ((path "a/f", deleted) ∷ [])
    -- does not ask for a reference's bytes
    ∷ from L (renaming ample "a/f" "b") (appending ample "b" (6 ∷ []) [] ∷ []) (refused 17 0 0) 612
    ((path "a/f", deleted) ∷ (path "b", reference two 5 (path "a/f")) ∷ [])
    -- has no budget for the content beside the charge: the charge after, 612, and 594, would do
    ∷ from L (renaming ample "a/f" "b") (appending 618 "b" (6 ∷ []) five ∷ []) (accepted 1) 612
    ((path "a/f", deleted) ∷ (path "b", own 8 (five ++ (6 ∷ []))) ∷ [])
    ∷ from L (renaming ample "a/f" "b") (appending 617 "b" (6 ∷ []) five ∷ []) (refused 11 0 0) 612
    ((path "a/f", deleted) ∷ (path "b", reference two 5 (path "a/f")) ∷ [])
    ∷ from L (renaming ample "z" "y") (appending 610 "y" [] [] ∷ []) (accepted 0) 594
    ((path "y", own 8 []) ∷ (path "z", deleted) ∷ [])
    ∷ from L (renaming ample "z" "y") (appending 609 "y" [] [] ∷ []) (refused 11 0 0) 610
    ((path "y", reference 0 0 (path "z")) ∷ (path "z", deleted) ∷ [])
    -- rounds that content, 610 + 16; leaves it out: the charge after is 610
    ∷ from L (renaming ample "z" "y") (appending 611 "y" (9 ∷ []) [] ∷ []) (accepted 1) 610
    ((path "y", own 8 (9 ∷ [])) ∷ (path "z", deleted) ∷ [])
    ∷ from L (renaming ample "z" "y") (appending 610 "y" (9 ∷ []) [] ∷ []) (refused 11 0 0) 610
    ((path "y", reference 0 0 (path "z")) ∷ (path "z", deleted) ∷ [])
    -- asks 17 before the path's own checks, or these in another order than write
    ∷ from L (appending 0 "a" (6 ∷ []) (1 ∷ [])) [] (refused 8 0 1) 0 []
    ∷ from L (appending 0 "" (6 ∷ []) (1 ∷ [])) [] (refused 8 0 0) 0 []
    ∷ from L (appending 0 "l" (6 ∷ []) (1 ∷ [])) [] (refused 4 0 1) 0 []
    ∷ from L (appending 0 "l/x" (6 ∷ []) (1 ∷ [])) [] (refused 4 0 3) 0 []
    ∷ from L (appending 0 "z/n" (6 ∷ []) (1 ∷ [])) [] (refused 5 0 3) 0 []
    ∷ from L (appending 0 "q/n" (6 ∷ []) (1 ∷ [])) [] (refused 5 0 3) 0 []
    ∷ from L (appending 0 "n//" (6 ∷ []) (1 ∷ [])) [] (refused 3 0 0) 0 []
    -- asks for room before the limit, or for none
    ∷ begun L 40 27 [] (appending 312 "n" (1 ∷ 2 ∷ 3 ∷ []) []) [] (refused 11 0 0) 0 []
    ∷ begun L 40 27 [] (appending 313 "n" (1 ∷ 2 ∷ 3 ∷ []) []) [] (refused 13 0 0) 0 []
    ∷ begun L 40 28 [] (appending 313 "n" (1 ∷ 2 ∷ 3 ∷ []) []) [] (accepted 3) 313 ((path "n", own 8 (1 ∷ 2 ∷ 3 ∷ [])) ∷ [])
    -- on a table that no call builds: does not ask for the parents of an own file
    ∷ begun L 40 60 ((path "z/n", own 7 []) ∷ []) (appending ample "z/n" [] []) [] (refused 5 0 3) 299 ((path "z/n", own 7 []) ∷ [])
    ∷ []

pub insides : List Case
insides =
    -- loses what stands behind the data; keeps the old mtime; answers the content's length
    from L (writing ample "n" (1 ∷ 2 ∷ 3 ∷ 4 ∷ [])) (writing_inside 313 "n" 1 (9 ∷ []) ∷ []) (accepted 1) 313
    ((path "n", own 8 (1 ∷ 9 ∷ 3 ∷ 4 ∷ [])) ∷ [])
    -- asks no limit where the content does not grow
    ∷ from L (writing ample "n" (1 ∷ 2 ∷ 3 ∷ 4 ∷ [])) (writing_inside 312 "n" 1 (9 ∷ []) ∷ []) (refused 11 0 0) 313
    ((path "n", own 7 (1 ∷ 2 ∷ 3 ∷ 4 ∷ [])) ∷ [])
    -- refuses an offset past the end, or leaves no zeros
    ∷ from L (writing ample "n" (1 ∷ [])) (writing_inside 313 "n" 3 (9 ∷ []) ∷ []) (accepted 1) 313
    ((path "n", own 8 (1 ∷ 0 ∷ 0 ∷ 9 ∷ [])) ∷ [])
    ∷ from L (writing ample "n" (1 ∷ [])) (writing_inside 312 "n" 3 (9 ∷ []) ∷ []) (refused 11 0 0) 313
    ((path "n", own 7 (1 ∷ [])) ∷ [])
    -- charges the data alone, without the zeros before it: 17 bytes
    ∷ from L (writing ample "n" (1 ∷ [])) (writing_inside 329 "n" 16 (9 ∷ []) ∷ []) (accepted 1) 329
    ((path "n", own 8 (1 ∷ replicate 15 0 ++ (9 ∷ []))) ∷ [])
    ∷ from L (writing ample "n" (1 ∷ [])) (writing_inside 328 "n" 16 (9 ∷ []) ∷ []) (refused 11 0 0) 313
    ((path "n", own 7 (1 ∷ [])) ∷ [])
    -- #107: takes the growth as it is, or rounds it by itself: 10 bytes become 14, 16, 32, and 17
    ∷ from L (writing ample "n" ten) (writing_inside 313 "n" 12 (8 ∷ 9 ∷ []) ∷ []) (accepted 2) 313
    ((path "n", own 8 (ten ++ (0 ∷ 0 ∷ 8 ∷ 9 ∷ []))) ∷ [])
    ∷ from L (writing ample "n" ten) (writing_inside 313 "n" 16 [] ∷ []) (accepted 0) 313
    ((path "n", own 8 (ten ++ replicate 6 0)) ∷ [])
    ∷ from L (writing ample "n" ten) (writing_inside 329 "n" 10 (replicate 22 2) ∷ []) (accepted 22) 329
    ((path "n", own 8 (ten ++ replicate 22 2)) ∷ [])
    ∷ from L (writing ample "n" ten) (writing_inside 329 "n" 17 [] ∷ []) (accepted 0) 329
    ((path "n", own 8 (ten ++ replicate 7 0)) ∷ [])
    ∷ from L (writing ample "n" ten) (writing_inside 328 "n" 17 [] ∷ []) (refused 11 0 0) 313
    ((path "n", own 7 ten) ∷ [])
    -- takes no data for nothing to do
    ∷ from L (writing ample "n" []) (writing_inside 313 "n" 3 [] ∷ []) (accepted 0) 313 ((path "n", own 8 (0 ∷ 0 ∷ 0 ∷ [])) ∷ [])
    ∷ from L (writing ample "n" (1 ∷ 2 ∷ [])) (writing_inside ample "n" 1 [] ∷ []) (accepted 0) 313
    ((path "n", own 8 (1 ∷ 2 ∷ [])) ∷ [])
    -- goes wrong where the data begin at the end, or pass it
    ∷ from L (writing ample "n" (1 ∷ [])) (writing_inside ample "n" 1 (2 ∷ []) ∷ []) (accepted 1) 313
    ((path "n", own 8 (1 ∷ 2 ∷ [])) ∷ [])
    ∷ from L (writing ample "n" (1 ∷ 2 ∷ [])) (writing_inside ample "n" 1 (8 ∷ 9 ∷ []) ∷ []) (accepted 2) 313
    ((path "n", own 8 (1 ∷ 8 ∷ 9 ∷ [])) ∷ [])
    ∷ from L (writing ample "n" (1 ∷ 2 ∷ [])) (writing_inside ample "n" 0 (8 ∷ 9 ∷ []) ∷ []) (accepted 2) 313
    ((path "n", own 8 (8 ∷ 9 ∷ [])) ∷ [])
    -- brings a listed file or a reference into the table, makes an absent one, or gives a directory 8, the root and a link 4
    ∷ from L (writing_inside ample "z" 0 (9 ∷ [])) [] (refused 5 0 1) 0 []
    ∷ from L (writing_inside ample "n" 0 (9 ∷ [])) [] (refused 5 0 1) 0 []
    ∷ from L (writing_inside ample "a" 0 (9 ∷ [])) [] (refused 5 0 1) 0 []
    ∷ from L (writing_inside ample "" 0 (9 ∷ [])) [] (refused 5 0 0) 0 []
    ∷ from L (writing_inside ample "l" 0 (9 ∷ [])) [] (refused 5 0 1) 0 []
    ∷ from L (writing_inside ample "l/x" 0 (9 ∷ [])) [] (refused 5 0 3) 0 []
    ∷ from L (writing_inside ample "z/n" 0 (9 ∷ [])) [] (refused 5 0 3) 0 []
    ∷ from L (writing_inside ample "n//" 0 (9 ∷ [])) [] (refused 3 0 0) 0 []
    ∷ from L (making ample "d") (writing_inside ample "d" 0 (9 ∷ []) ∷ []) (refused 5 0 1) 297 ((path "d", directory 7) ∷ [])
    ∷ from L (unlinking ample "z") (writing_inside ample "z" 0 (9 ∷ []) ∷ []) (refused 5 0 1) 297 ((path "z", deleted) ∷ [])
    ∷ from L (renaming ample "z" "y") (writing_inside ample "y" 0 (9 ∷ []) ∷ []) (refused 5 0 1) 610
    ((path "y", reference 0 0 (path "z")) ∷ (path "z", deleted) ∷ [])
    -- lets the sum wrap, asks 18 behind 11, or before 5
    ∷ from L (writing ample "n" []) (writing_inside 0 "n" 0xFFFF_FFFF_FFFF_FFFF (9 ∷ []) ∷ []) (refused 18 0 0) 297 ((path "n", own 7 []) ∷ [])
    ∷ from L (writing_inside 0 "n" 0xFFFF_FFFF_FFFF_FFFF (9 ∷ [])) [] (refused 5 0 1) 0 []
    -- asks for room before the limit, or for none
    ∷ begun L 40 27 ((path "n", own 7 []) ∷ []) (writing_inside 312 "n" 3 []) [] (refused 11 0 0) 297 ((path "n", own 7 []) ∷ [])
    ∷ begun L 40 27 ((path "n", own 7 []) ∷ []) (writing_inside 313 "n" 3 []) [] (refused 13 0 0) 297 ((path "n", own 7 []) ∷ [])
    ∷ begun L 40 28 ((path "n", own 7 []) ∷ []) (writing_inside 313 "n" 3 []) [] (accepted 0) 313 ((path "n", own 8 (0 ∷ 0 ∷ 0 ∷ [])) ∷ [])
    -- on a table that no call builds: asks for parents
    ∷ begun L 40 60 ((path "z/n", own 7 []) ∷ []) (writing_inside ample "z/n" 0 (9 ∷ [])) [] (accepted 1) 315 ((path "z/n", own 8 (9 ∷ [])) ∷ [])
    ∷ []

pub content_cases_hold : map computed (appends ++ insides) ≡ map stated (appends ++ insides)
unfolding appends insides
content_cases_hold = refl {a = map stated (appends ++ insides)}
