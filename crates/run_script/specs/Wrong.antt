-- Where bytes that are no script go wrong: the head, a step, or what stands behind the last step.
use Rattle.std.specs.Prelude.{Bool, cond, ◌&&◌, ℕ, zero, suc}
use Rattle.model.specs.Bytes.{Bytes}
use Rattle.run_script.specs.Script.{is_two, step_end, step_count, fits, headed, marked}

-- where the first of n steps from `at` on stands that is wrong; if none is, where the last ends
abbrev pub steps_to : Bool → Bytes → ℕ → ℕ → ℕ
steps_to two s zero at = at
steps_to two s (suc n) at = cond (fits two s at && headed two s at) (steps_to two s n (step_end two s at)) at

-- 0 for the head
abbrev pub wrong_from : Bytes → ℕ
wrong_from s = cond (marked s) (steps_to (is_two s) s (step_count s) 8) 0
