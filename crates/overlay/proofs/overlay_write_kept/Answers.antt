-- `overlay_write_kept` meets its contract: the writer's answer, packed, and its output.
use Rattle.overlay.proofs.Keeping.{not_written, writing_fits, write_settled}
use Rattle.overlay.proofs.overlay_write_kept.Goals as goal

pub returns-then-rec-ne-NUMBERS : goal.returns-then-rec-ne-NUMBERS
returns-then-rec-ne-NUMBERS c =
    let a = c.args in
    not_written a.listing.now a.table.now a.rec.now a.output.now c.if-rec-ne-NUMBERS.true

pub pack_writing-requires : goal.pack_writing-requires
pack_writing-requires c =
    let a = c.args in
    let r = c.record_in in
    let w = c.write-writing in
    writing_fits a.listing.now a.table.now a.rec.now a.output.now c.if-rec-ne-NUMBERS.false r.result r.ensures w.result w.ensures.result_value _ w.ensures.output_after

pub returns : goal.returns
returns c =
    let a = c.args in
    let r = c.record_in in
    let w = c.write-writing in
    write_settled a.listing.now a.table.now a.rec.now a.output.now c.if-rec-ne-NUMBERS.false r.result r.ensures w.result w.ensures.result_value _ w.ensures.output_after
    c.pack_writing.result c.pack_writing.ensures
