-- From what the code found to the outcome that the definition gives.
use mathlib.Core.Path.{◌≡◌, refl, ap, ap₂, sym, ◌∙◌, subst⁻¹}
use mathlib.Core.Bool.{Bool, true, false}
use mathlib.Core.List.{◌++◌}
use Prim.Native.Nat.{ℕ, ◌*◌, ◌≤◌}
use native.Mathlib.Nat.{zero-add}
use lib.Dec.{leb}
use lib.ListN.{length, drop}
use Rattle.model.specs.Bytes.{Bytes}
use Rattle.model.specs.Outcome.{Store}
use Rattle.model.specs.declared.Record.{Record}
use Rattle.model.proofs.Orders.{bot, and_true, test, yea, nay}
use Rattle.call_answer.specs.Meets.{stored}
use Rattle.run_script.specs.Script.{is_two, step_count, steps_in, filled, marked, is_script}
use Rattle.run_calls.specs.Runs.{RunLeft, left_after, rows, RunOutcome, done, unchanged, Ran, ran_on, Gives, Finished}
use Rattle.run_calls.specs.declared.RunError.{RunError}
use Rattle.run_calls.specs.declared.RunError.TheVariants.{MalformedScript, ShortReport}
use Rattle.std.specs.Prelude.{Ok, Err}
use Rattle.run_script.proofs.Steps.{marked_long}
use Rattle.run_script.proofs.Back.{steps_length}

abbrev done_with : Record → Ran
done_with r = Ok r

abbrev not_run : RunError → Ran
not_run e = Err e

run_or_not : (e : RunError) (r : Record) → not_run e ≡ done_with r → ⊥
run_or_not e r h = bot (cc)

module _ (listing : Bytes) (s : Store) (work script report : Bytes) where
  -- whether a report has a row for each step
  abbrev enough : Bool
  enough = leb (32 * length (steps_in script)) (length report)

  is_malformed : is_script script ≡ false → ran_on listing s work script report ≡ unchanged (Err MalformedScript) s work report
  is_malformed e = rw e

  is_short : is_script script ≡ true → enough ≡ false → ran_on listing s work script report ≡ unchanged (Err ShortReport) s work report
  is_short e f = rw (e, f)

  is_done_lem : is_script script ≡ true → enough ≡ true → ran_on listing s work script report ≡ done (left_after listing (steps_in script) s work) report
  is_done_lem e f = rw (e, f)

  by_count : {b : Bool} → b ≡ leb (32 * step_count script) (length report) → b ≡ enough
  by_count e = e ∙ ap (λ (n : ℕ). leb (32 * n) (length report)) (sym (steps_length (is_two script) script (step_count script) 8))

  module _ {a : Bool} (ea : a ≡ is_script script) where
    module _ (ha : a ≡ true) where
      pub well : is_script script ≡ true
      well = sym ea ∙ ha

      pub head_long : 8 ≤ length script
      head_long = marked_long script (and_true (marked script) (filled (is_two script) script (step_count script) 8) well).0

      module _ {b : Bool} (eb : b ≡ leb (32 * step_count script) (length report)) where
        pub short : b ≡ false → Gives (ran_on listing s work script report) (Err ShortReport) s.table work report
        short h =
            subst⁻¹ (λ (x : RunOutcome). Gives x (Err ShortReport) s.table work report) (is_short well (sym (by_count eb) ∙ h))
            (record { answer = refl; bytes = refl; buffer = refl; told = refl })

        module _ (hb : b ≡ true) where
          pub finished : (r : Record) {table' work' report' : Bytes} → Finished (left_after listing (steps_in script) s work) report r table' work' report'
              → Gives (ran_on listing s work script report) (Ok r) table' work' report'
          finished r {table'} {work'} {report'} f =
              let w : Bytes = rows (left_after listing (steps_in script) s work).told in
              subst⁻¹ (λ (x : RunOutcome). Gives x (Ok r) table' work' report') (is_done_lem well (sym (by_count eb) ∙ hb))
              (record {
                answer = ap (λ (x : Store). done_with x.rec) f.store;
                bytes = ap (λ (x : Store). x.table) f.store;
                buffer = f.buffer;
                told = f.rows_in ∙ ap (λ (n : ℕ). w ++ drop n report) (zero-add (length w));
              })

  -- where it is done, the table and the record are what the steps leave
  pub done_leaves : (last : Record) → (ran_on listing s work script report).answer ≡ Ok last
      → stored (ran_on listing s work script report).table last ≡ (left_after listing (steps_in script) s work).store
  done_leaves last h = elim (test (is_script script)) [
    | nay e ↦ absurd (run_or_not MalformedScript last (sym (ap (λ (x : RunOutcome). x.answer) (is_malformed e)) ∙ h))
    | yea e ↦ elim (test enough) [
      | nay f ↦ absurd (run_or_not ShortReport last (sym (ap (λ (x : RunOutcome). x.answer) (is_short e f)) ∙ h))
      | yea f ↦
          let y : RunLeft = left_after listing (steps_in script) s work in
          let x : done_with y.store.rec ≡ done_with last = sym (ap (λ (x : RunOutcome). x.answer) (is_done_lem e f)) ∙ h in
          ap₂ stored (ap (λ (x : RunOutcome). x.table) (is_done_lem e f)) (sym (cc))
    ]
  ]
