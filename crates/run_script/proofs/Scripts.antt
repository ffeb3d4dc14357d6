-- Each list of calls whose numbers fit their fields stands in a script of TSC2, one of document 01's calls also in one of TSC1, and in only one
-- of each mark. Before that, two lists by computation.
use mathlib.Core.Path.{◌≡◌, refl, ap, sym, ◌∙◌}
use mathlib.Core.Bool.{Bool, true, false, ◌||◌, or-false}
use mathlib.Core.List.{List, [], ◌∷◌, ◌++◌}
use Prim.Native.Nat.{ℕ, ◌<◌}
use native.Mathlib.Omega.{arith}
use lib.Dec.{leb}
use lib.ListN.{length, take, drop}
use borrow.Author.Tests.{le-leb}
use Rattle.model.specs.Bytes.{Bytes, every, bytes, same}
use Rattle.model.specs.Calls.{write, append, write_inside, mkdir, unlink, rmdir, rename}
use Rattle.model.proofs.Words.{IsBytes}
use Rattle.model.proofs.Orders.{yea, nay, test, and_true}
use Rattle.model.proofs.Codec.{same_is, number_bytes}
use Rattle.base_fields.proofs.Pieces.{cut, piece}
use Rattle.run_script.specs.Script.{Step, mark_of, is_two, step_count, steps_in, ruled, fits, headed, filled, marked, is_script}
use Rattle.run_script.specs.Encoded.{laid, script_of, fitting_in, fitting}
use Rattle.run_script.proofs.Steps.{marked_long}
use Rattle.run_script.proofs.Forth.{Read, read_steps}
use Rattle.run_script.proofs.Back.{steps_back, steps_length}

-- the script over L of docs/FORMATS.md, with an rmdir behind it: one call of each kind of TSC1
five : List Step
five =
    record { call = mkdir (100 ∷ 47 ∷ 101 ∷ []) true false 0x3ff0_0000_0000_0000; limit = 1000 }
    ∷ record { call = write (100 ∷ 47 ∷ 110 ∷ []) 0 (104 ∷ 105 ∷ []); limit = 1000 }
    ∷ record { call = unlink (122 ∷ []); limit = 1000 }
    ∷ record { call = rename (100 ∷ 47 ∷ 110 ∷ []) (122 ∷ []); limit = 2000 }
    ∷ record { call = rmdir []; limit = 0xffff_ffff_ffff_ffff }
    ∷ []

written : Bytes
written =
    0x54 ∷ 0x53 ∷ 0x43 ∷ 0x31 ∷ 5 ∷ 0 ∷ 0 ∷ 0
    ∷ 2 ∷ 1 ∷ 3 ∷ 0 ∷ 0 ∷ 0 ∷ 0 ∷ 0 ∷ 0 ∷ 0 ∷ 0 ∷ 0 ∷ 0 ∷ 0 ∷ 0xf0 ∷ 0x3f ∷ 0xe8 ∷ 3 ∷ 0 ∷ 0 ∷ 0 ∷ 0 ∷ 0 ∷ 0 ∷ 0x64 ∷ 0x2f ∷ 0x65
    ∷ 1 ∷ 0 ∷ 3 ∷ 0 ∷ 2 ∷ 0 ∷ 0 ∷ 0 ∷ 0 ∷ 0 ∷ 0 ∷ 0 ∷ 0 ∷ 0 ∷ 0 ∷ 0 ∷ 0xe8 ∷ 3 ∷ 0 ∷ 0 ∷ 0 ∷ 0 ∷ 0 ∷ 0 ∷ 0x64 ∷ 0x2f ∷ 0x6e ∷ 0x68 ∷ 0x69
    ∷ 3 ∷ 0 ∷ 1 ∷ 0 ∷ 0 ∷ 0 ∷ 0 ∷ 0 ∷ 0 ∷ 0 ∷ 0 ∷ 0 ∷ 0 ∷ 0 ∷ 0 ∷ 0 ∷ 0xe8 ∷ 3 ∷ 0 ∷ 0 ∷ 0 ∷ 0 ∷ 0 ∷ 0 ∷ 0x7a
    ∷ 5 ∷ 0 ∷ 3 ∷ 0 ∷ 1 ∷ 0 ∷ 0 ∷ 0 ∷ 0 ∷ 0 ∷ 0 ∷ 0 ∷ 0 ∷ 0 ∷ 0 ∷ 0 ∷ 0xd0 ∷ 7 ∷ 0 ∷ 0 ∷ 0 ∷ 0 ∷ 0 ∷ 0 ∷ 0x64 ∷ 0x2f ∷ 0x6e ∷ 0x7a
    ∷ 4 ∷ 0 ∷ 0 ∷ 0 ∷ 0 ∷ 0 ∷ 0 ∷ 0 ∷ 0 ∷ 0 ∷ 0 ∷ 0 ∷ 0 ∷ 0 ∷ 0 ∷ 0 ∷ 0xff ∷ 0xff ∷ 0xff ∷ 0xff ∷ 0xff ∷ 0xff ∷ 0xff ∷ 0xff
    ∷ []

five_written : script_of false five ≡ written
unfolding five written laid
five_written = refl

five_fit : every (fitting false) five ≡ true
unfolding five fitting_in
five_fit = refl

five_script : is_script written ≡ true
unfolding written fits headed ruled is_two marked
five_script = refl

five_read : steps_in written ≡ five
unfolding five written is_two
five_read = refl

-- the script of TSC2 over L there: append and writing inside
added : List Step
added =
    record { call = append (97 ∷ 47 ∷ 102 ∷ []) 0 (33 ∷ []) (104 ∷ 101 ∷ 108 ∷ 108 ∷ 111 ∷ []); limit = 1000 }
    ∷ record { call = write_inside (97 ∷ 47 ∷ 102 ∷ []) 0x3ff0_0000_0000_0000 8 (104 ∷ 105 ∷ []); limit = 1000 }
    ∷ record { call = write_inside (122 ∷ []) 0 0 (104 ∷ 105 ∷ []); limit = 1000 }
    ∷ []

added_bytes : Bytes
added_bytes =
    0x54 ∷ 0x53 ∷ 0x43 ∷ 0x32 ∷ 3 ∷ 0 ∷ 0 ∷ 0
    ∷ 6 ∷ 0 ∷ 3 ∷ 0 ∷ 1 ∷ 0 ∷ 0 ∷ 0 ∷ 0 ∷ 0 ∷ 0 ∷ 0 ∷ 0 ∷ 0 ∷ 0 ∷ 0 ∷ 0xe8 ∷ 3 ∷ 0 ∷ 0 ∷ 0 ∷ 0 ∷ 0 ∷ 0
    ∷ 0 ∷ 0 ∷ 0 ∷ 0 ∷ 0 ∷ 0 ∷ 0 ∷ 0 ∷ 5 ∷ 0 ∷ 0 ∷ 0 ∷ 0x61 ∷ 0x2f ∷ 0x66 ∷ 0x21 ∷ 0x68 ∷ 0x65 ∷ 0x6c ∷ 0x6c ∷ 0x6f
    ∷ 7 ∷ 0 ∷ 3 ∷ 0 ∷ 2 ∷ 0 ∷ 0 ∷ 0 ∷ 0 ∷ 0 ∷ 0 ∷ 0 ∷ 0 ∷ 0 ∷ 0xf0 ∷ 0x3f ∷ 0xe8 ∷ 3 ∷ 0 ∷ 0 ∷ 0 ∷ 0 ∷ 0 ∷ 0
    ∷ 8 ∷ 0 ∷ 0 ∷ 0 ∷ 0 ∷ 0 ∷ 0 ∷ 0 ∷ 0 ∷ 0 ∷ 0 ∷ 0 ∷ 0x61 ∷ 0x2f ∷ 0x66 ∷ 0x68 ∷ 0x69
    ∷ 7 ∷ 0 ∷ 1 ∷ 0 ∷ 2 ∷ 0 ∷ 0 ∷ 0 ∷ 0 ∷ 0 ∷ 0 ∷ 0 ∷ 0 ∷ 0 ∷ 0 ∷ 0 ∷ 0xe8 ∷ 3 ∷ 0 ∷ 0 ∷ 0 ∷ 0 ∷ 0 ∷ 0
    ∷ 0 ∷ 0 ∷ 0 ∷ 0 ∷ 0 ∷ 0 ∷ 0 ∷ 0 ∷ 0 ∷ 0 ∷ 0 ∷ 0 ∷ 0x7a ∷ 0x68 ∷ 0x69
    ∷ []

added_written : script_of true added ≡ added_bytes
unfolding added added_bytes laid
added_written = refl

added_fit : (every (fitting true) added ≡ true) × (every (fitting false) added ≡ false)
unfolding added fitting_in
added_fit = (refl, refl)

added_script : is_script added_bytes ≡ true
unfolding added_bytes fits headed ruled is_two marked
added_script = refl

added_read : steps_in added_bytes ≡ added
unfolding added added_bytes is_two
added_read = refl

mark_read : (two : Bool) (xs : List Step) → is_two (script_of two xs) ≡ two
unfolding is_two
mark_read false xs = refl
mark_read true xs = refl

count_read : (two : Bool) (xs : List Step) → length xs < 0x1_0000_0000 → step_count (script_of two xs) ≡ length xs
count_read false xs n = number_bytes 4 (length xs) n
count_read true xs n = number_bytes 4 (length xs) n

mark_stands : (two : Bool) (xs : List Step) → marked (script_of two xs) ≡ true
unfolding is_two marked
mark_stands false xs = rw (le-leb 8 (length (script_of false xs)) (omega arith))
mark_stands true xs = rw (le-leb 8 (length (script_of true xs)) (omega arith))

-- a list of calls whose numbers fit their fields stands in a script, and of either mark if they are document 01's
pub scripted : (two : Bool) (xs : List Step) → every (fitting two) xs ≡ true → length xs < 0x1_0000_0000
    → (is_script (script_of two xs) ≡ true) × (is_two (script_of two xs) ≡ two) × (steps_in (script_of two xs) ≡ xs)
scripted two xs f n =
    let m = mark_read two xs in
    let c = count_read two xs n in
    let r = read two xs f in
    (rw (mark_stands two xs, m, c) r.stand, m, rw (m, c) r.steps)
  where
    read : (two : Bool) (xs : List Step) → every (fitting two) xs ≡ true → Read two (script_of two xs) 8 xs
    read false xs f = read_steps false xs (84 ∷ 83 ∷ 67 ∷ 49 ∷ bytes 4 (length xs)) f
    read true xs f = read_steps true xs (84 ∷ 83 ∷ 67 ∷ 50 ∷ bytes 4 (length xs)) f

mark_is : (s : Bytes) → marked s ≡ true → take 4 s ≡ mark_of (is_two s)
unfolding is_two marked
mark_is s h =
    let one : Bool = same (take 4 s) (mark_of false) in
    let two : Bool = same (take 4 s) (mark_of true) in
    let m = (and_true (leb 8 (length s)) (one || two) h).1 in
    elim (test two) [
      | yea e ↦ rw e (same_is (take 4 s) (mark_of true) e)
      | nay e ↦ rw e (same_is (take 4 s) (mark_of false) (sym (or-false one) ∙ rw e at m))
    ]

-- a script is the one that the calls in it are written as, with its mark
pub one_script : (s : Bytes) → IsBytes s → is_script s ≡ true → script_of (is_two s) (steps_in s) ≡ s
one_script s bs h =
    let two : Bool = is_two s in
    let n : ℕ = step_count s in
    let e = and_true (marked s) (filled two s n 8) h in
    let l = marked_long s e.0 in
    let c = steps_length two s n 8 in
    let m = mark_is s e.0 in
    let b = steps_back two s bs n 8 e.1 in
    (λ i. mark_of two ++ (bytes 4 (c i) ++ sym b i))
    ∙ ap (λ (t : Bytes). mark_of two ++ t) (sym (piece s bs 4 4 8 refl l))
    ∙ ap (λ (t : Bytes). t ++ drop 4 s) (sym m)
    ∙ sym (cut s 0 4 4 refl)

-- so no two scripts of one mark have the same calls
pub same_script : (s t : Bytes) → IsBytes s → IsBytes t → is_script s ≡ true → is_script t ≡ true → is_two s ≡ is_two t → steps_in s ≡ steps_in t → s ≡ t
same_script s t bs bt h g m e = sym (one_script s bs h) ∙ (λ i. script_of (m i) (e i)) ∙ one_script t bt g
