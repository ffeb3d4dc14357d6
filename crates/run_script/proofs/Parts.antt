-- The parts of a step, cut out of the script.
use mathlib.Core.Path.{◌≡◌}
use mathlib.Core.Bool.{Bool}
use Prim.Native.Nat.{ℕ, ◌+◌, ◌-◌}
use native.Mathlib.Nat.{add-sub_cancel_left}
use lib.ListN.{take, drop}
use Rattle.model.specs.Bytes.{Bytes, number_at}
use Rattle.run_script.specs.Script.{step_head, second_from, third_from, step_end, first_part, second_part, third_part, second_length, third_length}

module _ (two : Bool) (s : Bytes) (at : ℕ) where
  module _ (h n : ℕ) (q : h ≡ step_head two) (f : n ≡ number_at s (at + 2) 2) where
    pub first_is : take (at + h + n - (at + h)) (drop (at + h) s) ≡ first_part two s at
    first_is = rw (add-sub_cancel_left (at + h) n, q, f)

    pub second_is : (e : ℕ) → e ≡ third_from two s at → take (e - (at + h + n)) (drop (at + h + n) s) ≡ second_part two s at
    second_is e g = rw (g, q, f, add-sub_cancel_left (second_from two s at) (second_length s at))

  pub third_is : (n e : ℕ) → n ≡ third_from two s at → e ≡ step_end two s at → take (e - n) (drop n s) ≡ third_part two s at
  third_is n e f g = rw (g, f, add-sub_cancel_left (third_from two s at) (third_length two s at))
