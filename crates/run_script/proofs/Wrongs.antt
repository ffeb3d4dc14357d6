-- Where bytes go wrong, by the turns of the check: one law for each exit, and that a script goes wrong nowhere.
use mathlib.Core.Path.{◌≡◌, sym, ◌∙◌}
use mathlib.Core.Bool.{Bool, true, false, not, cond, ◌&&◌}
use Prim.Native.Nat.{ℕ, zero, suc, ◌-◌, ◌<◌, ◌≤◌}
use native.Mathlib.Omega.{arith}
use lib.ListN.{length}
use borrow.Author.Tests.{not-true, not-false, eqb-true}
use Rattle.model.specs.Bytes.{Bytes}
use Rattle.model.proofs.Orders.{bot}
use Rattle.run_script.specs.Script.{is_two, step_end, step_count, fits, headed, marked, is_script}
use Rattle.run_script.specs.Wrong.{steps_to, wrong_from}
use Rattle.run_script.proofs.Turns.{Kept, not_marked, started, no_step, kept_on, finished}

-- before a step is read
pub record Told (two : Bool) (s : Bytes) (left at : ℕ) : Type 0 where
  pub kept : Kept two s left at
  pub where_to : steps_to two s left at ≡ wrong_from s

-- what is told of an exit at r
abbrev pub Exit : Bytes → ℕ → Type 0
Exit s r = (r ≡ wrong_from s) × ((r ≤ length s) × (is_script s ≡ true → r ≡ length s))

refused : (s : Bytes) (r : ℕ) → r ≡ wrong_from s → r ≤ length s → false ≡ is_script s → Exit s r
refused s r w i n = (w, (i, λ y. absurd (bot (cc))))

module _ (s : Bytes) {b : Bool} (e : b ≡ marked s) where
  pub at_head : not b ≡ true → Exit s 0
  at_head h = refused s 0 (rw (sym e ∙ not-true b h)) (omega arith) (not_marked s e h)

  pub told : not b ≡ false → {two : Bool} → two ≡ is_two s → (n : ℕ) → n ≡ step_count s → Told two s n 8
  told h t n f = record { kept = started s e h t n f; where_to = rw (t, f, sym e ∙ not-false b h) }

turned : (two : Bool) (s : Bytes) (left at : ℕ) → 0 < left
    → steps_to two s left at ≡ cond (fits two s at && headed two s at) (steps_to two s (left - 1) (step_end two s at)) at
turned two s zero at h = absurd (omega arith)
turned two s (suc n) at h = let d : suc n - 1 ≡ n = omega arith in rw d

module _ {two : Bool} {s : Bytes} {left at : ℕ} (t : Told two s left at) where
  pub behind : left ≤ 0 → Exit s at
  behind h = (go left h t.where_to, (t.kept.inside, λ y. eqb-true at (length s) (finished t.kept h ∙ y)))
    where
      go : (left : ℕ) → left ≤ 0 → steps_to two s left at ≡ wrong_from s → at ≡ wrong_from s
      go zero h q = q
      go (suc n) h q = absurd (omega arith)

  module _ (h : 0 < left) {b : Bool} (e : b ≡ (fits two s at && headed two s at)) where
    pub at_step : not b ≡ true → Exit s at
    at_step z =
        refused
        s
        at
        (rw (sym e ∙ not-true b z) at (sym (turned two s left at h) ∙ t.where_to))
        t.kept.inside
        (no_step t.kept h e z)

    pub told_on : not b ≡ false → (to : ℕ) → to ≡ step_end two s at → Told two s (left - 1) to
    told_on z to f = record {
      kept = kept_on t.kept h e z to f;
      where_to = rw f (rw (sym e ∙ not-false b z) at (sym (turned two s left at h) ∙ t.where_to));
    }
