-- One turn of the check: what holds before a step is read, what each refusal gives, and what holds after it.
use mathlib.Core.Path.{◌≡◌, sym, ◌∙◌}
use mathlib.Core.Bool.{Bool, true, false, not, ◌&&◌}
use Prim.Native.Nat.{ℕ, zero, suc, ◌+◌, ◌-◌, ◌<◌, ◌≤◌}
use native.Mathlib.Omega.{arith}
use lib.Dec.{eqb}
use lib.ListN.{length}
use borrow.Author.Tests.{not-true, not-false}
use Rattle.model.specs.Bytes.{Bytes}
use Rattle.model.proofs.Orders.{and_true}
use Rattle.run_script.specs.Script.{is_two, step_head, step_end, step_count, fits, headed, filled, marked, is_script}
use Rattle.run_script.proofs.Steps.{fits_is, marked_long}

-- before a step is read
pub record Kept (two : Bool) (s : Bytes) (left at : ℕ) : Type 0 where
  pub inside : at ≤ length s
  pub rest : filled two s left at ≡ is_script s

module _ (s : Bytes) {b : Bool} (e : b ≡ marked s) where
  pub not_marked : not b ≡ true → false ≡ is_script s
  not_marked h = rw (sym e ∙ not-true b h)

  module _ (h : not b ≡ false) where
    pub long : 8 ≤ length s
    long = marked_long s (sym e ∙ not-false b h)

    pub started : {two : Bool} → two ≡ is_two s → (n : ℕ) → n ≡ step_count s → Kept two s n 8
    started t n f = record { inside = long; rest = rw (t, f, sym e ∙ not-false b h) }

pub turned : (two : Bool) (s : Bytes) (left at : ℕ) → 0 < left
    → filled two s left at ≡ ((fits two s at && headed two s at) && filled two s (left - 1) (step_end two s at))
turned two s zero at h = absurd (omega arith)
turned two s (suc n) at h = let d : suc n - 1 ≡ n = omega arith in rw d

module _ {two : Bool} {s : Bytes} {left at : ℕ} (k : Kept two s left at) where
  pub finished : left ≤ 0 → eqb at (length s) ≡ is_script s
  finished h = go left h k.rest
    where
      go : (left : ℕ) → left ≤ 0 → filled two s left at ≡ is_script s → eqb at (length s) ≡ is_script s
      go zero h q = q
      go (suc n) h q = absurd (omega arith)

  module _ (h : 0 < left) {b : Bool} (e : b ≡ (fits two s at && headed two s at)) where
    pub no_step : not b ≡ true → false ≡ is_script s
    no_step z = rw (sym e ∙ not-true b z) at (sym (turned two s left at h) ∙ k.rest)

    module _ (z : not b ≡ false) where
      stands : (fits two s at && headed two s at) ≡ true
      stands = sym e ∙ not-false b z

      pub step_inside : (at + step_head two ≤ length s) × (step_end two s at ≤ length s)
      step_inside = fits_is two s at (and_true (fits two s at) (headed two s at) stands).0

      pub kept_on : (to : ℕ) → to ≡ step_end two s at → Kept two s (left - 1) to
      kept_on to f = record {
        inside = rw f step_inside.1;
        rest = rw f (rw stands at (sym (turned two s left at h) ∙ k.rest));
      }
