-- The rules of a script's head and of one step, by the tests that the code makes: one law for each exit.
use mathlib.Core.Path.{◌≡◌, ap, ◌∙◌}
use mathlib.Core.Bool.{Bool, true, false, ◌||◌}
use Prim.Native.Nat.{ℕ, ◌+◌, ◌<◌, ◌≤◌}
use native.Mathlib.Omega.{arith}
use lib.Dec.{leb}
use lib.ListN.{length, take, get_or}
use borrow.Author.Tests.{le-leb, lt-leb, leb-true}
use Rattle.model.specs.Bytes.{Bytes, number_at, same}
use Rattle.model.proofs.Orders.{and_true}
use Rattle.run_script.specs.Script.{mark_of, is_two, offset_at, third_length, step_head, step_end, ruled, fits, headed, marked}

-- a head has the fields that both marks have
pub head_least : (two : Bool) → 24 ≤ step_head two
head_least false = omega arith
head_least true = omega arith

module _ (s : Bytes) where
  pub is_two_is : (r : Bool) → r ≡ same (take 4 s) (mark_of true) → r ≡ is_two s
  unfolding is_two
  is_two_is r e = e

  pub too_short : length s < 8 → false ≡ marked s
  unfolding marked
  too_short h = rw (lt-leb 8 (length s) h)

  pub by_mark : 8 ≤ length s → (r t : Bool) → r ≡ same (take 4 s) (mark_of false) → t ≡ is_two s → (r || t) ≡ marked s
  unfolding marked
  by_mark h r t e f = rw (e, f, le-leb 8 (length s) h)

  pub marked_long : marked s ≡ true → 8 ≤ length s
  unfolding marked
  marked_long h = leb-true 8 (length s) (and_true (leb 8 (length s)) (same (take 4 s) (mark_of false) || is_two s) h).0

-- in TSC2
pub long_head : (two : Bool) → two ≡ true → step_head two ≡ 36
long_head two h = ap step_head h

module _ (two : Bool) (s : Bytes) (at : ℕ) where
  pub no_head : (n : ℕ) → n ≡ step_head two → length s < at + n → leb (at + n) (length s) ≡ fits two s at
  unfolding fits
  no_head n e h = rw (← e, lt-leb (at + n) (length s) h)

  pub by_end : (n : ℕ) → n ≡ step_head two → at + n ≤ length s → (e : ℕ) → e ≡ step_end two s at → leb e (length s) ≡ fits two s at
  unfolding fits
  by_end n q h e f = rw (f, le-leb (at + step_head two) (length s) (rw q at h))

  -- where a step fits, its head and its parts are inside
  pub fits_is : fits two s at ≡ true → (at + step_head two ≤ length s) × (step_end two s at ≤ length s)
  unfolding fits
  fits_is h =
      let e = and_true (leb (at + step_head two) (length s)) (leb (step_end two s at) (length s)) h in
      (leb-true (at + step_head two) (length s) e.0, leb-true (step_end two s at) (length s) e.1)

  pub by_numbers : (k f m t o n : ℕ) (r : Bool) → k ≡ get_or s at 0 → f ≡ get_or s (at + 1) 0 → m ≡ number_at s (at + 4) 4 → t ≡ number_at s (at + 8) 8
      → o ≡ offset_at two s at → n ≡ third_length two s at → r ≡ ruled two k f m t o n → r ≡ headed two s at
  unfolding headed
  by_numbers k f m t o n r a b c d x y e = e ∙ rw (a, b, c, d, x, y)
