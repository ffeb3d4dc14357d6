-- What is packed of a reply, and when its parts fit; the record stored where a call is accepted; a run, a writing, a reading and a report by their cases.
use mathlib.Core.Path.{◌≡◌, sym, ap, subst, ◌∙◌}
use Prim.Native.Nat.{ℕ, ◌<◌}
use native.Mathlib.Omega.{arith}
use Rattle.model.specs.Answer.{Reply, accepted, refused, told_refusal}
use Rattle.model.specs.declared.Refusal.{Refusal}
use Rattle.call_values.specs.declared.Row.{Row}
use Rattle.call_values.specs.Values.{row_of}
use Rattle.least_rename.specs.declared.Least.{Least}
use Rattle.least_rename.specs.Reports.{told_report}
use Rattle.kept_file.specs.Kept.{told_writing}
use Rattle.kept_file.specs.declared.WriteError.{WriteError}
use Rattle.std.specs.Prelude.{Result, Ok, Err}
use Rattle.std.specs.Prelude as code
use Rattle.overlay_packed.specs.Packed.{packed, Fits}

-- a reply's row fits where the reply does, and is packed as the reply is
pub row_fits : (a : Reply) (w : Row) → w ≡ row_of a → Fits a → Fits (refused w.number w.path w.len)
row_fits (accepted v) w e h = subst (λ (x : Row). Fits (refused x.number x.path x.len)) (sym e) (omega arith, omega arith, h)
row_fits (refused n p l) w e h = subst (λ (x : Row). Fits (refused x.number x.path x.len)) (sym e) h

pub row_packed : (a : Reply) (w : Row) → w ≡ row_of a → packed (refused w.number w.path w.len) ≡ packed a
row_packed (accepted v) w e = ap (λ (x : Row). packed (refused x.number x.path x.len)) e ∙ omega arith
row_packed (refused n p l) w e = ap (λ (x : Row). packed (refused x.number x.path x.len)) e

-- a writing that is done, with a file of n bytes
pub writing_fits : (w : Result ℕ WriteError) (n : ℕ) → w ≡ Ok n → Fits (told_writing w) → n < 0x1_0000_0000_0000
writing_fits w n e h = subst (λ (x : Result ℕ WriteError). Fits (told_writing x)) e h

-- a report that is refused
module _ (f : Result (code.Option Least) Refusal) (r : Refusal) (e : f ≡ Err r) (w : Row) (g : w ≡ row_of (told_refusal r)) where
  pub report_fits : Fits (told_report f) → Fits (refused w.number w.path w.len)
  report_fits h = row_fits (told_refusal r) w g (subst (λ (x : Result (code.Option Least) Refusal). Fits (told_report x)) e h)
