-- The loop over a script's steps: what one step leaves, what holds before each, and what holds after the last.
use mathlib.Core.Path.{◌≡◌, ap, ap₂, sym, ◌∙◌, subst⁻¹}
use mathlib.Core.Bool.{Bool, true, ◌&&◌}
use Prim.Native.Nat.{ℕ, zero, suc, ◌+◌, ◌-◌, ◌*◌, ◌<◌, ◌≤◌}
use native.Mathlib.Omega.{arith}
use lib.ListN.{length}
use Rattle.model.specs.Bytes.{Bytes}
use Rattle.model.specs.Answer as answer
use Rattle.model.specs.Outcome.{Outcome, outcome}
use Rattle.model.specs.declared.Record.{Record}
use Rattle.model.specs.declared.Answered.{Answered}
use Rattle.model.proofs.Orders.{and_true}
use Rattle.base_fields.specs.Write.{overwritten}
use Rattle.base_fields.proofs.Writes.{overwritten_none}
use Rattle.call_answer.specs.Meets.{stored, Meets}
use Rattle.call_values.specs.Values.{row_of}
use Rattle.run_script.specs.Script.{is_two, step_head, step_end, step_at, steps_from, step_count, fits, headed, filled, marked, is_script}
use Rattle.run_calls.specs.Runs.{request_of, RunLeft, left_after, row_bytes, rows, Finished}
use Rattle.run_script.proofs.Steps.{fits_is, marked_long}
use Rattle.run_calls.proofs.Rows.{row_then}

-- before a step is made: n steps stand from `at` on, and what they leave is what the script does
pub record Going (listing script : Bytes) (two : Bool) (x : RunLeft) (table₀ work₀ report₀ : Bytes) (n at row : ℕ) (table work report : Bytes) (last : Record) : Type 0 where
  pub stand : filled two script n at ≡ true
  pub place : row + 32 * n ≤ length report
  pub small : row + 32 * n < 0x20_0000_0000
  pub table_long : length table ≡ length table₀
  pub work_long : length work ≡ length work₀
  pub report_long : length report ≡ length report₀
  pub store : (left_after listing (steps_from two script n at) (stored table last) work).store ≡ x.store
  pub buffer : (left_after listing (steps_from two script n at) (stored table last) work).work ≡ x.work
  pub told : overwritten report row (rows (left_after listing (steps_from two script n at) (stored table last) work).told) ≡ overwritten report₀ 0 (rows x.told)

module _ (script : Bytes) (h : is_script script ≡ true) where
  pub script_long : 8 ≤ length script
  script_long = marked_long script (and_true (marked script) (filled (is_two script) script (step_count script) 8) h).0

module _ {listing script : Bytes} {two : Bool} {x : RunLeft} {table₀ work₀ report₀ : Bytes} {n at row : ℕ} {table work report : Bytes} {last : Record}
    (k : Going listing script two x table₀ work₀ report₀ n at row table work report last) where
  pub over : n ≤ 0 → Finished x report₀ last table work report
  over h = go n h k.store k.buffer k.told
    where
      go : (n : ℕ) → n ≤ 0 → (left_after listing (steps_from two script n at) (stored table last) work).store ≡ x.store
          → (left_after listing (steps_from two script n at) (stored table last) work).work ≡ x.work
          → overwritten report row (rows (left_after listing (steps_from two script n at) (stored table last) work).told) ≡ overwritten report₀ 0 (rows x.told)
          → Finished x report₀ last table work report
      go zero h e f g = record { store = e; buffer = f; rows_in = sym (overwritten_none report row) ∙ g }
      go (suc m) h e f g = absurd (omega arith)

  module _ (h : 0 < n) where
    pub step_stands : (at + step_head two ≤ length script) × (step_end two script at ≤ length script)
    step_stands = go n h k.stand
      where
        go : (n : ℕ) → 0 < n → filled two script n at ≡ true → (at + step_head two ≤ length script) × (step_end two script at ≤ length script)
        go zero h e = absurd (omega arith)
        go (suc m) h e =
            let a = and_true (fits two script at && headed two script at) (filled two script m (step_end two script at)) e in
            fits_is two script at (and_true (fits two script at) (headed two script at) a.0).0

    -- a step is made, and its row is written: that of its answer, with the charge after it
    pub on : {made : Answered} {table' work' report' : Bytes}
        → Meets (outcome listing (request_of (step_at two script at) work) (stored table last)) made table' work'
        → report' ≡ overwritten report row (row_bytes (row_of (answer.told made.answer)) made.«record».charge)
        → length table' ≡ length table → length work' ≡ length work → length report' ≡ length report → (left : ℕ) → left ≡ n - 1 → (to : ℕ) → to ≡ step_end two script at
        → Going listing script two x table₀ work₀ report₀ left to (row + 32) table' work' report' made.«record»
    on {made} {table'} {work'} {report'} d t a b c left i to e = subst⁻¹ (λ (y : ℕ). Going listing script two x table₀ work₀ report₀ y to (row + 32) table' work' report' made.«record») i (go n h k.stand k.place k.small k.store k.buffer k.told)
      where
        go : (n : ℕ) → 0 < n → filled two script n at ≡ true → row + 32 * n ≤ length report → row + 32 * n < 0x20_0000_0000
            → (left_after listing (steps_from two script n at) (stored table last) work).store ≡ x.store
            → (left_after listing (steps_from two script n at) (stored table last) work).work ≡ x.work
            → overwritten report row (rows (left_after listing (steps_from two script n at) (stored table last) work).told) ≡ overwritten report₀ 0 (rows x.told)
            → Going listing script two x table₀ work₀ report₀ (n - 1) to (row + 32) table' work' report' made.«record»
        go zero h f p v q r s = absurd (omega arith)
        go (suc m) h f p v q r s =
            let y = and_true (fits two script at && headed two script at) (filled two script m (step_end two script at)) f in
            let z : suc m - 1 ≡ m = omega arith in
            let o : Outcome = outcome listing (request_of (step_at two script at) work) (stored table last) in
            let l : left_after listing (steps_from two script (suc m - 1) to) (stored table' made.«record») work' ≡ left_after listing (steps_from two script m (step_end two script at)) o.store o.work
            = λ i. left_after listing (steps_from two script (z i) (e i)) (stored (d.bytes i) (d.rec i)) (d.buffer i) in
            let w : report' ≡ overwritten report row (row_bytes (row_of o.reply) o.store.rec.charge)
            = t ∙ (λ i. overwritten report row (row_bytes (row_of (d.answer i)) (d.rec i).charge)) in
            record {
              stand = rw (z, e) y.1;
              place = omega arith;
              small = omega arith;
              table_long = a ∙ k.table_long;
              work_long = b ∙ k.work_long;
              report_long = c ∙ k.report_long;
              store = ap (λ (u : RunLeft). u.store) l ∙ q;
              buffer = ap (λ (u : RunLeft). u.work) l ∙ r;
              told = ap₂ (λ (t : Bytes) (u : RunLeft). overwritten t (row + 32) (rows u.told)) w l
                  ∙ row_then report row (row_of o.reply) o.store.rec.charge (rows (left_after listing (steps_from two script m (step_end two script at)) o.store o.work).told) (omega arith)
                  ∙ s;
            }
