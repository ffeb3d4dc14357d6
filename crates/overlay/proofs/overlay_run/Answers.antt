-- `overlay_run` meets its contract: what the run gives, in one number and four.
use Rattle.overlay.proofs.Running.{not_run, run_settled}
use Rattle.overlay.proofs.overlay_run.Goals as goal

pub returns-then-rec-ne-NUMBERS : goal.returns-then-rec-ne-NUMBERS
returns-then-rec-ne-NUMBERS c =
    let a = c.args in
    not_run a.listing.now a.table.now a.rec.now a.work.now a.script.now a.report.now c.if-rec-ne-NUMBERS.true

pub returns : goal.returns
returns c =
    let a = c.args in
    let f = c.if-rec-ne-NUMBERS.false in
    let r = c.record_in-first in
    let u = c.run-ran in
    let s = c.store_and_pack_run in
    run_settled a.listing.now a.table.now a.rec.now a.work.now a.script.now a.report.now f r.result r.ensures
    u.result _ _ _ u.ensures s.result _ s.ensures.value s.ensures.rec_after
