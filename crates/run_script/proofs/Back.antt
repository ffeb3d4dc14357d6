-- Steps that are read and written again are the bytes that stood there. A number that was read is written as the same bytes only where they are
-- bytes, so this asks `IsBytes`.
-- Assumes nothing else.
use mathlib.Core.Path.{◌≡◌, refl, ap, sym, ◌∙◌}
use mathlib.Core.Bool.{Bool, true, false, cond, ◌&&◌, ◌||◌}
use mathlib.Core.List.{[], ◌∷◌, ◌++◌, append_assoc}
use Prim.Native.Nat.{ℕ, zero, suc, ◌+◌, ◌/◌, ◌%◌, ◌<◌, ◌≤◌}
use native.Mathlib.Omega.{arith}
use lib.Dec.{ltb, eqb}
use lib.ListN.{length, drop, drop_of_length-le}
use lib.Seq.{drop-cons, drop-length}
use borrow.Author.Tests.{ltb-true}
use Rattle.model.specs.Bytes.{Bytes, bytes}
use Rattle.model.proofs.Words.{IsBytes}
use Rattle.model.proofs.Orders.{bot, yea, nay, test, and_true, eqb_eq}
use Rattle.base_fields.proofs.Pieces.{cut, part_length, piece, grouped}
use Rattle.call_values.specs.Values.{call_of}
use Rattle.run_script.specs.Script.{kind_at, flags_at, first_length, second_length, mtime_at, limit_at, offset_at, third_length, step_head, second_from}
use Rattle.run_script.specs.Script.{third_from, step_end, first_part, second_part, third_part, step_at, steps_from, has_data, ruled, fits, headed, filled}
use Rattle.run_script.specs.Encoded.{StepFields, fields_of, laid_more, laid, step_bytes, steps_bytes}
use Rattle.run_script.proofs.Steps.{head_least, fits_is}
use Rattle.run_script.proofs.Forth.{order_of}

-- the rules of a step's numbers, apart
record Rules (k f m t o n : ℕ) : Type 0 where
  some : 0 < k
  known : k < 8
  flags : (eqb f 0 || (eqb k 2 && ltb f 4)) ≡ true
  second : (eqb m 0 || (has_data k || eqb k 5)) ≡ true
  mtime : (eqb t 0 || (has_data k || eqb k 2)) ≡ true
  offset : (eqb o 0 || eqb k 7) ≡ true
  third : (eqb n 0 || eqb k 6) ≡ true

below_eight : (two : Bool) (k : ℕ) → (ltb k 6 || (two && ltb k 8)) ≡ true → k < 8
below_eight two k h =
    elim (test (ltb k 6)) [ yea e ↦ let z = ltb-true k 6 e in omega arith | nay e ↦ ltb-true k 8 (and_true two (ltb k 8) (cc)).1 ]

rules : (two : Bool) (k f m t o n : ℕ) → ruled two k f m t o n ≡ true → Rules k f m t o n
unfolding ruled
rules two k f m t o n h =
    let known = ltb k 6 || (two && ltb k 8) in
    let a = eqb f 0 || (eqb k 2 && ltb f 4) in
    let b = eqb m 0 || (has_data k || eqb k 5) in
    let c = eqb t 0 || (has_data k || eqb k 2) in
    let d = eqb o 0 || eqb k 7 in
    let e = eqb n 0 || eqb k 6 in
    let v = and_true (ltb 0 k && known) (a && (b && (c && (d && e)))) h in
    let w = and_true (ltb 0 k) known v.0 in
    let x = and_true a (b && (c && (d && e))) v.1 in
    let y = and_true b (c && (d && e)) x.1 in
    let z = and_true c (d && e) y.1 in
    let l = and_true d e z.1 in
    record {
      some = ltb-true 0 k w.0;
      known = below_eight two k w.1;
      flags = x.0;
      second = y.0;
      mtime = z.0;
      offset = l.0;
      third = l.1;
    }

-- what they leave once the kind is known
nought : (n : ℕ) → (eqb n 0 || false) ≡ true → n ≡ 0
nought n h = elim (test (eqb n 0)) [ yea e ↦ eqb_eq n 0 e | nay e ↦ absurd (bot (cc)) ]

none : (b : Bytes) → (eqb (length b) 0 || false) ≡ true → b ≡ []
none b h = let e = nought (length b) h in let l : length b ≤ 0 = omega arith in drop_of_length-le b l

few : (f : ℕ) → (eqb f 0 || ltb f 4) ≡ true → f < 4
few f h = elim (test (eqb f 0)) [ yea e ↦ let z = eqb_eq f 0 e in omega arith | nay e ↦ ltb-true f 4 (cc) ]

-- two flags, in one number and apart
flags_back : (f : ℕ) → f < 4 → cond (eqb (f % 2) 1) 1 0 + cond (eqb (f / 2) 1) 2 0 ≡ f
flags_back zero h = refl
flags_back (suc zero) h = refl
flags_back (suc (suc zero)) h = refl
flags_back (suc (suc (suc zero))) h = refl
flags_back (suc (suc (suc (suc f)))) h = absurd (omega arith)

-- where the numbers in some fields go together, the call that is read from them has these fields
fields_back : (k f t o limit : ℕ) (a b c : Bytes) → Rules k f (length b) t o (length c)
    → let x : StepFields = record { kind = k; flags = f; mtime = t; offset = o; first = a; second = b; third = c } in
    fields_of (call_of (order_of x limit) a b c) ≡ x
fields_back zero f t o limit a b c r = let z = r.some in absurd (omega arith)
fields_back (suc zero) f t o limit a b c r =
    let e = nought f r.flags in
    let p = nought o r.offset in
    let n = none c r.third in
    λ i. record { kind = 1; flags = sym e i; mtime = t; offset = sym p i; first = a; second = b; third = sym n i }
fields_back (suc (suc zero)) f t o limit a b c r =
    let e = flags_back f (few f r.flags) in
    let p = nought o r.offset in
    let m = none b r.second in
    let n = none c r.third in
    λ i. record { kind = 2; flags = e i; mtime = t; offset = sym p i; first = a; second = sym m i; third = sym n i }
fields_back (suc (suc (suc zero))) f t o limit a b c r =
    let e = nought f r.flags in
    let p = nought o r.offset in
    let m = none b r.second in
    let n = none c r.third in
    let u = nought t r.mtime in
    λ i. record { kind = 3; flags = sym e i; mtime = sym u i; offset = sym p i; first = a; second = sym m i; third = sym n i }
fields_back (suc (suc (suc (suc zero)))) f t o limit a b c r =
    let e = nought f r.flags in
    let p = nought o r.offset in
    let m = none b r.second in
    let n = none c r.third in
    let u = nought t r.mtime in
    λ i. record { kind = 4; flags = sym e i; mtime = sym u i; offset = sym p i; first = a; second = sym m i; third = sym n i }
fields_back (suc (suc (suc (suc (suc zero))))) f t o limit a b c r =
    let e = nought f r.flags in
    let p = nought o r.offset in
    let n = none c r.third in
    let u = nought t r.mtime in
    λ i. record { kind = 5; flags = sym e i; mtime = sym u i; offset = sym p i; first = a; second = b; third = sym n i }
fields_back (suc (suc (suc (suc (suc (suc zero)))))) f t o limit a b c r =
    let e = nought f r.flags in
    let p = nought o r.offset in
    λ i. record { kind = 6; flags = sym e i; mtime = t; offset = sym p i; first = a; second = b; third = c }
fields_back (suc (suc (suc (suc (suc (suc (suc zero))))))) f t o limit a b c r =
    let e = nought f r.flags in
    let n = none c r.third in
    λ i. record { kind = 7; flags = sym e i; mtime = t; offset = o; first = a; second = b; third = sym n i }
fields_back (suc (suc (suc (suc (suc (suc (suc (suc k)))))))) f t o limit a b c r = let z = r.known in absurd (omega arith)

-- what only TSC2 has in the head stands there
more_stands : (two : Bool) (s : Bytes) → IsBytes s → (at : ℕ) → at + step_head two ≤ length s
    → drop (at + 24) s ≡ laid_more two (offset_at two s at) (third_length two s at) ++ drop (at + step_head two) s
more_stands false s bs at h = refl
more_stands true s bs at h =
    piece s bs (at + 24) 8 (at + 32) (omega arith) (omega arith)
    ∙ ap (λ (l : Bytes). bytes 8 (offset_at true s at) ++ l) (piece s bs (at + 32) 4 (at + 36) (omega arith) (omega arith))
    ∙ sym (append_assoc (bytes 8 (offset_at true s at)) (bytes 4 (third_length true s at)) (drop (at + 36) s))

module _ (two : Bool) (s : Bytes) (bs : IsBytes s) (at : ℕ) (h : fits two s at ≡ true) where
  -- what stands in the step's fields
  abbrev fields_at : StepFields
  fields_at = record {
    kind = kind_at s at;
    flags = flags_at s at;
    mtime = mtime_at s at;
    offset = offset_at two s at;
    first = first_part two s at;
    second = second_part two s at;
    third = third_part two s at;
  }

  abbrev more : Bytes
  more = laid_more two (offset_at two s at) (third_length two s at)

  abbrev parts : Bytes
  parts = first_part two s at ++ (second_part two s at ++ third_part two s at)

  abbrev rest : Bytes
  rest = drop (step_end two s at) s

  parts_stand : drop (at + step_head two) s ≡ parts ++ rest
  parts_stand =
      cut s (at + step_head two) (first_length s at) (second_from two s at) refl
      ∙ ap (λ (l : Bytes). first_part two s at ++ l) (cut s (second_from two s at) (second_length s at) (third_from two s at) refl
      ∙ ap (λ (l : Bytes). second_part two s at ++ l) (cut s (third_from two s at) (third_length two s at) (step_end two s at) refl)
      ∙ sym (append_assoc (second_part two s at) (third_part two s at) rest))
      ∙ sym (append_assoc (first_part two s at) (second_part two s at ++ third_part two s at) rest)

  numbers_stand : drop at s
      ≡ kind_at s at ∷ flags_at s at ∷ (bytes 2 (first_length s at) ++ (bytes 4 (second_length s at) ++ (bytes 8 (mtime_at s at) ++ (bytes 8 (limit_at s at)
      ++ (more ++ (parts ++ rest))))))
  numbers_stand =
      let g = (fits_is two s at h).0 in
      let z = head_least two in
      let e : suc at ≡ at + 1 = omega arith in
      let d : suc (at + 1) ≡ at + 2 = omega arith in
      drop-cons s at 0 (omega arith)
      ∙ ap (λ (l : Bytes). kind_at s at ∷ l) (ap (λ (n : ℕ). drop n s) e ∙ drop-cons s (at + 1) 0 (omega arith)
      ∙ ap (λ (l : Bytes). flags_at s at ∷ l) (ap (λ (n : ℕ). drop n s) d ∙ piece s bs (at + 2) 2 (at + 4) (omega arith) (omega arith)
      ∙ ap (λ (l : Bytes). bytes 2 (first_length s at) ++ l) (piece s bs (at + 4) 4 (at + 8) (omega arith) (omega arith)
      ∙ ap (λ (l : Bytes). bytes 4 (second_length s at) ++ l) (piece s bs (at + 8) 8 (at + 16) (omega arith) (omega arith)
      ∙ ap (λ (l : Bytes). bytes 8 (mtime_at s at) ++ l) (piece s bs (at + 16) 8 (at + 24) (omega arith) (omega arith)
      ∙ ap (λ (l : Bytes). bytes 8 (limit_at s at) ++ l) (more_stands two s bs at g
      ∙ ap (λ (l : Bytes). more ++ l) parts_stand))))))

  first_length_lem : first_length s at ≡ length (first_part two s at)
  first_length_lem = let e = (fits_is two s at h).1 in sym (part_length s (at + step_head two) (first_length s at) (omega arith))

  second_length_lem : second_length s at ≡ length (second_part two s at)
  second_length_lem = let e = (fits_is two s at h).1 in sym (part_length s (second_from two s at) (second_length s at) (omega arith))

  third_length_lem : third_length two s at ≡ length (third_part two s at)
  third_length_lem = sym (part_length s (third_from two s at) (third_length two s at) (fits_is two s at h).1)

  laid_here : drop at s ≡ laid two fields_at (limit_at s at) ++ rest
  unfolding laid
  laid_here =
      numbers_stand
      ∙ grouped (kind_at s at ∷ flags_at s at ∷ []) (bytes 2 (first_length s at)) (bytes 4 (second_length s at)) (bytes 8 (mtime_at s at))
      (bytes 8 (limit_at s at)) more parts rest
      ∙ (let n = first_length_lem in let m = second_length_lem in let k = third_length_lem in
      λ i. (kind_at s at ∷ flags_at s at ∷ (bytes 2 (n i) ++ (bytes 4 (m i) ++ (bytes 8 (mtime_at s at) ++ (bytes 8 (limit_at s at)
      ++ (laid_more two (offset_at two s at) (k i) ++ parts)))))) ++ rest)

  step_back : headed two s at ≡ true → drop at s ≡ step_bytes two (step_at two s at) ++ rest
  unfolding headed
  step_back g =
      let m : ℕ = length (second_part two s at) in
      let n : ℕ = length (third_part two s at) in
      let r : Rules (kind_at s at) (flags_at s at) m (mtime_at s at) (offset_at two s at) n
      = rules two (kind_at s at) (flags_at s at) m (mtime_at s at) (offset_at two s at) n (rw (← second_length_lem, ← third_length_lem) g) in
      let e = fields_back (kind_at s at) (flags_at s at) (mtime_at s at) (offset_at two s at) (limit_at s at) (first_part two s at) (second_part two s at)
      (third_part two s at) r in
      laid_here ∙ (λ i. laid two (sym e i) (limit_at s at) ++ rest)

-- n steps from `at` on, up to the end
pub steps_back : (two : Bool) (s : Bytes) → IsBytes s → (n at : ℕ) → filled two s n at ≡ true → drop at s ≡ steps_bytes two (steps_from two s n at)
steps_back two s bs zero at h = let e = eqb_eq at (length s) h in ap (λ (n : ℕ). drop n s) e ∙ drop-length s
steps_back two s bs (suc n) at h =
    let x = and_true (fits two s at && headed two s at) (filled two s n (step_end two s at)) h in
    let y = and_true (fits two s at) (headed two s at) x.0 in
    step_back two s bs at y.0 y.1
    ∙ ap (λ (l : Bytes). step_bytes two (step_at two s at) ++ l) (steps_back two s bs n (step_end two s at) x.1)

pub steps_length : (two : Bool) (s : Bytes) (n at : ℕ) → length (steps_from two s n at) ≡ n
steps_length two s zero at = refl
steps_length two s (suc n) at = ap suc (steps_length two s n (step_end two s at))
