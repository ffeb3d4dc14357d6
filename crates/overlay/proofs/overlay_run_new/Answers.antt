-- `overlay_run_new` meets its contract: what the run gives, in one number and four; where the number is 0, it is done.
use Rattle.model.specs.Runs.{State, begin}
use Rattle.run_script.specs.Script.{steps_in}
use Rattle.run_calls.specs.Runs.{requests}
use Rattle.overlay.proofs.Running.{not_run_new, not_done, new_settled, done_holds}
use Rattle.overlay.proofs.overlay_run_new.Goals as goal

pub returns-then-rec-ne-NUMBERS : goal.returns-then-rec-ne-NUMBERS
returns-then-rec-ne-NUMBERS c =
    let a = c.args in
    record { report_after = not_run_new a.listing.now a.entry_size a.table.now a.rec.now a.work.now a.script.now a.report.now c.if-rec-ne-NUMBERS.true; holds = λ z. absurd (not_done z) }

pub returns : goal.returns
returns c =
    let a = c.args in
    let f = c.if-rec-ne-NUMBERS.false in
    let u = c.run_new-ran in
    let s = c.store_and_pack_run in
    let x : State = begin a.listing.now a.entry_size a.table.now in
    record {
      report_after = new_settled a.listing.now a.entry_size a.table.now a.rec.now a.work.now a.script.now a.report.now f
          u.result _ _ _ u.ensures.gives s.result _ s.ensures.value s.ensures.rec_after;
      holds = done_holds a.listing.now x (requests a.listing.now (steps_in a.script.now) x.store a.work.now) _ _ _ u.result s.result _ s.ensures.value s.ensures.rec_after u.ensures.holds;
    }
