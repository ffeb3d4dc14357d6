-- `overlay_read_kept` meets its contract: the reader's answer, packed, and the record, the place and the table that it leaves.
use Rattle.overlay.proofs.Keeping.{no_record, no_place, read_settled}
use Rattle.overlay.proofs.overlay_read_kept.Goals as goal

pub returns-then-rec-ne-NUMBERS : goal.returns-then-rec-ne-NUMBERS
returns-then-rec-ne-NUMBERS c =
    let a = c.args in
    no_record a.file.now a.table.now a.rec.now a.place.now c.if-rec-ne-NUMBERS.true

pub returns-then-place-ne-PLACE : goal.returns-then-place-ne-PLACE
returns-then-place-ne-PLACE c =
    let a = c.args in
    no_place a.file.now a.table.now a.rec.now a.place.now c.if-rec-ne-NUMBERS.false c.if-place-ne-PLACE.true

pub returns : goal.returns
returns c =
    let a = c.args in
    let r = c.read-reading in
    let s = c.store_and_pack_reading in
    read_settled a.file.now a.table.now a.rec.now a.place.now c.if-rec-ne-NUMBERS.false c.if-place-ne-PLACE.false r.result r.ensures.result_value r.ensures.result_value_2 _ r.ensures.table_after
    s.result _ _ s.ensures.value s.ensures.rec_after s.ensures.place_after
