-- `overlay_least_rename` meets its contract: what is reported, packed, and the two numbers.
use Rattle.overlay.proofs.Reporting.{no_record, no_least, report_fits, report_settled}
use Rattle.overlay.proofs.overlay_least_rename.Goals as goal

pub returns-then-rec-ne-NUMBERS : goal.returns-then-rec-ne-NUMBERS
returns-then-rec-ne-NUMBERS c =
    let a = c.args in
    no_record a.listing.now a.table.now a.rec.now a.least.now a.source.now a.destination.now c.if-rec-ne-NUMBERS.true

pub returns-then-least-ne-LEAST : goal.returns-then-least-ne-LEAST
returns-then-least-ne-LEAST c =
    let a = c.args in
    no_least a.listing.now a.table.now a.rec.now a.least.now a.source.now a.destination.now c.if-rec-ne-NUMBERS.false c.if-least-ne-LEAST.true

pub store_and_pack_report-requires : goal.store_and_pack_report-requires
store_and_pack_report-requires c =
    let a = c.args in
    let n = c.record_in-before in
    let r = c.report_rename-report in
    record { least_len = c.if-least-ne-LEAST.false; fits = report_fits a.listing.now a.table.now a.rec.now a.least.now a.source.now a.destination.now n.result n.ensures r.result r.ensures }

pub returns : goal.returns
returns c =
    let a = c.args in
    let n = c.record_in-before in
    let r = c.report_rename-report in
    let s = c.store_and_pack_report in
    report_settled a.listing.now a.table.now a.rec.now a.least.now a.source.now a.destination.now n.result n.ensures r.result r.ensures c.if-rec-ne-NUMBERS.false c.if-least-ne-LEAST.false
    s.result s.ensures.value _ s.ensures.least_after
