-- `overlay_write_file_at` meets its contract: the answer and the record of the call, packed and stored.
use Rattle.model.specs.Calls.{write_inside}
use Rattle.call_answer.specs.Meets.{requested}
use Rattle.overlay.specs.Exported.{called}
use Rattle.overlay.proofs.Leaving.{not_four, call_fits, call_settled}
use Rattle.overlay.proofs.overlay_write_file_at.Goals as goal

pub returns-then-rec-ne-NUMBERS : goal.returns-then-rec-ne-NUMBERS
unfolding called
returns-then-rec-ne-NUMBERS c = let a = c.args in rw (not_four a.rec.now c.if-rec-ne-NUMBERS.true)

pub store_and_pack-requires : goal.store_and_pack-requires
store_and_pack-requires c =
    let a = c.args in
    let q = requested (write_inside a.path.now a.mtime a.offset a.«data».now) a.limit a.work.now in
    let r = c.record_in-before in
    let u = c.write_file_at-answered in
    record { rec_len = c.if-rec-ne-NUMBERS.false; fits = call_fits a.listing.now q a.table.now a.rec.now c.if-rec-ne-NUMBERS.false r.result r.ensures u.result u.new.table u.new.work u.ensures }

pub returns : goal.returns
returns c =
    let a = c.args in
    let q = requested (write_inside a.path.now a.mtime a.offset a.«data».now) a.limit a.work.now in
    let r = c.record_in-before in
    let u = c.write_file_at-answered in
    let s = c.store_and_pack in
    call_settled a.listing.now q a.table.now a.rec.now c.if-rec-ne-NUMBERS.false r.result r.ensures u.result u.new.table u.new.work u.ensures
    s.result s.new.rec s.ensures.value s.ensures.rec_after
