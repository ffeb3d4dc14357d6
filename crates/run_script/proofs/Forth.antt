-- Steps that are written and read again: they are the same, and they stand as a script's steps do.
use mathlib.Core.Path.{◌≡◌, refl, ap, ap₂, sym, ◌∙◌}
use mathlib.Core.Bool.{Bool, true, false, ◌&&◌, ◌||◌, or-true}
use mathlib.Core.List.{List, [], ◌∷◌, ◌++◌, append_assoc, append-nil}
use Prim.Native.Nat.{ℕ, ◌+◌, ◌/◌, ◌%◌, ◌<◌}
use native.Mathlib.Omega.{arith}
use lib.Dec.{ltb, eqb}
use lib.ListN.{length, take, drop, length-append}
use lib.Seq.{drop-drop, drop-append-add, drop-append_seam, take-append_seam, get_or-append-add, get_or-append_seam}
use borrow.Author.Tests.{ltb-true, le-leb}
use Rattle.model.specs.Bytes.{Bytes, every, number}
use Rattle.model.specs.Calls.{Call, write, append, write_inside, mkdir, unlink, rmdir, rename}
use Rattle.model.proofs.Orders.{bot, and_true, eqb_true}
use Rattle.model.proofs.Codec.{number_bytes}
use Rattle.call_values.specs.declared.Order.{Order}
use Rattle.call_values.specs.Values.{call_of}
use Rattle.run_script.specs.Script.{Step, kind_at, flags_at, first_length, second_length, mtime_at, limit_at, offset_at, third_length, step_head}
use Rattle.run_script.specs.Script.{second_from, third_from, step_end, first_part, second_part, third_part, step_kind, step_at, steps_from}
use Rattle.run_script.specs.Script.{ruled, fits, headed, filled}
use Rattle.run_script.specs.Encoded.{StepFields, fields_of, laid_more, laid, steps_bytes, fitting_in, fitting}

-- the order that is read from fields
abbrev pub order_of : StepFields → ℕ → Order
order_of f limit = record {
  kind = step_kind f.kind;
  parents = eqb (f.flags % 2) 1;
  exist_ok = eqb (f.flags / 2) 1;
  mtime = f.mtime;
  limit = limit;
  offset = f.offset;
}

-- read from its fields, a call is the same, and its numbers go together
same_call : (c : Call) (limit : ℕ) → call_of (order_of (fields_of c) limit) (fields_of c).first (fields_of c).second (fields_of c).third ≡ c
same_call (write p m d) limit = refl
same_call (append p m d b) limit = refl
same_call (write_inside p m o d) limit = refl
same_call (mkdir p true true m) limit = refl
same_call (mkdir p true false m) limit = refl
same_call (mkdir p false true m) limit = refl
same_call (mkdir p false false m) limit = refl
same_call (unlink p) limit = refl
same_call (rmdir p) limit = refl
same_call (rename a b) limit = refl

rules_kept : (two : Bool) (c : Call) → (two || ltb (fields_of c).kind 6) ≡ true
    → let f = fields_of c in ruled two f.kind f.flags (length f.second) f.mtime f.offset (length f.third) ≡ true
unfolding ruled
rules_kept two (write p m d) h = rw (or-true (eqb (length d) 0), or-true (eqb m 0))
rules_kept true (append p m d b) h = rw (or-true (eqb (length d) 0), or-true (eqb m 0), or-true (eqb (length b) 0))
rules_kept false (append p m d b) h = absurd (bot (cc))
rules_kept true (write_inside p m o d) h = rw (or-true (eqb (length d) 0), or-true (eqb m 0), or-true (eqb o 0))
rules_kept false (write_inside p m o d) h = absurd (bot (cc))
rules_kept two (mkdir p true true m) h = rw (or-true (eqb m 0))
rules_kept two (mkdir p true false m) h = rw (or-true (eqb m 0))
rules_kept two (mkdir p false true m) h = rw (or-true (eqb m 0))
rules_kept two (mkdir p false false m) h = rw (or-true (eqb m 0))
rules_kept two (unlink p) h = refl
rules_kept two (rmdir p) h = refl
rules_kept two (rename a b) h = rw (or-true (eqb (length b) 0))

-- a step has nothing that its mark has no field for
abbrev Held : Bool → StepFields → Type 0
Held false f = (f.offset ≡ 0) × (f.third ≡ [])
Held true f = Unit {0}

held : (two : Bool) (c : Call) → (two || ltb (fields_of c).kind 6) ≡ true → Held two (fields_of c)
held true c h = tt
held false (write p m d) h = (refl, refl)
held false (append p m d b) h = absurd (bot (cc))
held false (write_inside p m o d) h = absurd (bot (cc))
held false (mkdir p up ok m) h = (refl, refl)
held false (unlink p) h = (refl, refl)
held false (rmdir p) h = (refl, refl)
held false (rename a b) h = (refl, refl)

more_length : (two : Bool) (o n : ℕ) → 24 + length (laid_more two o n) ≡ step_head two
more_length false o n = refl
more_length true o n = refl

laid_length : (two : Bool) (f : StepFields) (limit : ℕ)
    → length (laid two f limit) ≡ step_head two + length f.first + length f.second + length f.third
unfolding laid
laid_length two f limit =
    let more : Bytes = laid_more two f.offset (length f.third) in
    let h = more_length two f.offset (length f.third) in
    let l = length-append more (f.first ++ (f.second ++ f.third)) in
    let m = length-append f.first (f.second ++ f.third) in
    let n = length-append f.second f.third in
    omega arith

-- a step's numbers fit their fields
record Fit (two : Bool) (f : StepFields) (limit : ℕ) : Type 0 where
  first : length f.first < 0x1_0000
  second : length f.second < 0x1_0000_0000
  third : length f.third < 0x1_0000_0000
  mtime : f.mtime < 0x1_0000_0000_0000_0000
  offset : f.offset < 0x1_0000_0000_0000_0000
  bound : limit < 0x1_0000_0000_0000_0000
  only : Held two f

fit : (two : Bool) (f : StepFields) (limit : ℕ) → Held two f → fitting_in f limit ≡ true → Fit two f limit
unfolding fitting_in
fit two f limit o h =
    let a = ltb (length f.first) 0x1_0000 in
    let b = ltb (length f.second) 0x1_0000_0000 in
    let c = ltb (length f.third) 0x1_0000_0000 in
    let d = ltb f.mtime 0x1_0000_0000_0000_0000 in
    let e = ltb f.offset 0x1_0000_0000_0000_0000 in
    let g = ltb limit 0x1_0000_0000_0000_0000 in
    let x = and_true (a && (b && c)) (d && (e && g)) h in
    let y = and_true a (b && c) x.0 in
    let z = and_true b c y.1 in
    let v = and_true d (e && g) x.1 in
    let w = and_true e g v.1 in
    record {
      first = ltb-true (length f.first) 0x1_0000 y.0;
      second = ltb-true (length f.second) 0x1_0000_0000 z.0;
      third = ltb-true (length f.third) 0x1_0000_0000 z.1;
      mtime = ltb-true f.mtime 0x1_0000_0000_0000_0000 v.0;
      offset = ltb-true f.offset 0x1_0000_0000_0000_0000 w.0;
      bound = ltb-true limit 0x1_0000_0000_0000_0000 w.1;
      only = o;
    }

-- where a step stands behind p, with q behind it, what is j bytes in is the step's own
reach : (two : Bool) (p : Bytes) (f : StepFields) (limit : ℕ) (q : Bytes) (j : ℕ)
    → drop (length p + j) (p ++ (laid two f limit ++ q)) ≡ drop j (laid two f limit ++ q)
reach two p f limit q j = drop-append-add p (laid two f limit ++ q) j

-- what only TSC2 has is read as it is, and so is what stands behind the head
read_offset : (two : Bool) (p : Bytes) (f : StepFields) (limit : ℕ) (q : Bytes) → Fit two f limit
    → offset_at two (p ++ (laid two f limit ++ q)) (length p) ≡ f.offset
unfolding laid
read_offset false p f limit q h = sym h.only.0
read_offset true p f limit q h = ap (λ (l : Bytes). number (take 8 l)) (reach true p f limit q 24) ∙ number_bytes 8 f.offset h.offset

read_third_length : (two : Bool) (p : Bytes) (f : StepFields) (limit : ℕ) (q : Bytes) → Fit two f limit
    → third_length two (p ++ (laid two f limit ++ q)) (length p) ≡ length f.third
unfolding laid
read_third_length false p f limit q h = ap length (sym h.only.1)
read_third_length true p f limit q h =
    ap (λ (l : Bytes). number (take 4 l)) (reach true p f limit q 32) ∙ number_bytes 4 (length f.third) h.third

behind_head : (two : Bool) (p : Bytes) (f : StepFields) (limit : ℕ) (q : Bytes)
    → drop (length p + step_head two) (p ++ (laid two f limit ++ q)) ≡ (f.first ++ (f.second ++ f.third)) ++ q
unfolding laid
behind_head false p f limit q = reach false p f limit q 24
behind_head true p f limit q = reach true p f limit q 36

-- a step that stands behind p, with q behind it, is read as it is
module _ (two : Bool) (p : Bytes) (f : StepFields) (limit : ℕ) (q : Bytes) (h : Fit two f limit) where
  abbrev whole : Bytes
  whole = p ++ (laid two f limit ++ q)

  from : (j : ℕ) → drop (length p + j) whole ≡ drop j (laid two f limit ++ q)
  from j = reach two p f limit q j

  read_kind : kind_at whole (length p) ≡ f.kind
  unfolding laid
  read_kind = get_or-append_seam p f.kind (drop 1 (laid two f limit ++ q)) 0

  read_flags : flags_at whole (length p) ≡ f.flags
  unfolding laid
  read_flags = get_or-append-add p (laid two f limit ++ q) 1 0

  read_first_length : first_length whole (length p) ≡ length f.first
  unfolding laid
  read_first_length = ap (λ (l : Bytes). number (take 2 l)) (from 2) ∙ number_bytes 2 (length f.first) h.first

  read_second_length : second_length whole (length p) ≡ length f.second
  unfolding laid
  read_second_length = ap (λ (l : Bytes). number (take 4 l)) (from 4) ∙ number_bytes 4 (length f.second) h.second

  read_mtime : mtime_at whole (length p) ≡ f.mtime
  unfolding laid
  read_mtime = ap (λ (l : Bytes). number (take 8 l)) (from 8) ∙ number_bytes 8 f.mtime h.mtime

  read_limit : limit_at whole (length p) ≡ limit
  unfolding laid
  read_limit = ap (λ (l : Bytes). number (take 8 l)) (from 16) ∙ number_bytes 8 limit h.bound

  -- what stands behind the head, behind the first part and behind the second
  behind : drop (length p + step_head two) whole ≡ f.first ++ (f.second ++ (f.third ++ q))
  behind =
      behind_head two p f limit q
      ∙ append_assoc f.first (f.second ++ f.third) q
      ∙ ap (λ (l : Bytes). f.first ++ l) (append_assoc f.second f.third q)

  read_second_from : second_from two whole (length p) ≡ length p + step_head two + length f.first
  read_second_from = ap (λ (n : ℕ). length p + step_head two + n) read_first_length

  behind_first : drop (second_from two whole (length p)) whole ≡ f.second ++ (f.third ++ q)
  behind_first =
      ap (λ (n : ℕ). drop n whole) read_second_from
      ∙ sym (drop-drop (length f.first) (length p + step_head two) whole)
      ∙ ap (drop (length f.first)) behind
      ∙ drop-append_seam f.first (f.second ++ (f.third ++ q))

  behind_second : drop (third_from two whole (length p)) whole ≡ f.third ++ q
  behind_second =
      ap (λ (n : ℕ). drop (second_from two whole (length p) + n) whole) read_second_length
      ∙ sym (drop-drop (length f.second) (second_from two whole (length p)) whole)
      ∙ ap (drop (length f.second)) behind_first
      ∙ drop-append_seam f.second (f.third ++ q)

  read_first : first_part two whole (length p) ≡ f.first
  read_first = ap₂ take read_first_length behind ∙ take-append_seam f.first (f.second ++ (f.third ++ q))

  read_second : second_part two whole (length p) ≡ f.second
  read_second = ap₂ take read_second_length behind_first ∙ take-append_seam f.second (f.third ++ q)

  read_third : third_part two whole (length p) ≡ f.third
  read_third = ap₂ take (read_third_length two p f limit q h) behind_second ∙ take-append_seam f.third q

  read_end : step_end two whole (length p) ≡ length (p ++ laid two f limit)
  read_end =
      let l = length-append p (laid two f limit) in
      let n = laid_length two f limit in
      let a = read_first_length in
      let b = read_second_length in
      let c = read_third_length two p f limit q h in
      omega arith

  step_fits : fits two whole (length p) ≡ true
  unfolding fits
  step_fits =
      let l : length whole ≡ length p + (length (laid two f limit) + length q)
      = length-append p (laid two f limit ++ q) ∙ ap (λ (n : ℕ). length p + n) (length-append (laid two f limit) q) in
      let m = length-append p (laid two f limit) in
      let n = laid_length two f limit in
      let e = read_end in
      rw (le-leb (length p + step_head two) (length whole) (omega arith), le-leb (step_end two whole (length p)) (length whole) (omega arith))

  step_headed : ruled two f.kind f.flags (length f.second) f.mtime f.offset (length f.third) ≡ true
      → headed two whole (length p) ≡ true
  unfolding headed
  step_headed r =
      rw (read_kind, read_flags, read_second_length, read_mtime, read_offset two p f limit q h, read_third_length two p f limit q h) r

  read_step : step_at two whole (length p) ≡ record { call = call_of (order_of f limit) f.first f.second f.third; limit = limit }
  read_step =
      let k = read_kind in
      let g = read_flags in
      let m = read_mtime in
      let o = read_offset two p f limit q h in
      let l = read_limit in
      let a = read_first in
      let b = read_second in
      let c = read_third in
      λ i. record {
        call =
            call_of
            (order_of (record { kind = k i; flags = g i; mtime = m i; offset = o i; first = a i; second = b i; third = c i }) (l i))
            (a i)
            (b i)
            (c i);
        limit = l i;
      }

-- steps behind p, up to the end
pub record Read (two : Bool) (s : Bytes) (at : ℕ) (xs : List Step) : Type 0 where
  pub stand : filled two s (length xs) at ≡ true
  pub steps : steps_from two s (length xs) at ≡ xs

pub read_steps : (two : Bool) (xs : List Step) (p : Bytes) → every (fitting two) xs ≡ true → Read two (p ++ steps_bytes two xs) (length p) xs
read_steps two [] p h = record { stand = rw append-nil (eqb_true (length p)); steps = refl }
read_steps two (x ∷ xs) p h =
    let g = and_true (fitting two x) (every (fitting two) xs) h in
    let f : StepFields = fields_of x.call in
    let l : ℕ = x.limit in
    let q : Bytes = steps_bytes two xs in
    let e = and_true (two || ltb f.kind 6) (fitting_in f l) g.0 in
    let b = fit two f l (held two x.call e.0) e.1 in
    let end = read_end two p f l q b in
    let r : Read two ((p ++ laid two f l) ++ q) (length (p ++ laid two f l)) xs = read_steps two xs (p ++ laid two f l) g.1 in
    let ih : Read two (p ++ (laid two f l ++ q)) (length (p ++ laid two f l)) xs = rw (append_assoc p (laid two f l) q) at r in
    let c = same_call x.call l in
    let this : step_at two (p ++ (laid two f l ++ q)) (length p) ≡ x = read_step two p f l q b ∙ (λ i. record { call = c i; limit = l }) in
    record {
      stand = rw (step_fits two p f l q b, step_headed two p f l q b (rules_kept two x.call e.0), end) ih.stand;
      steps =
          (λ i. this i ∷ steps_from two (p ++ (laid two f l ++ q)) (length xs) (end i)) ∙ ap (λ (ys : List Step). x ∷ ys) ih.steps;
    }
