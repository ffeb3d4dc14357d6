-- `overlay_show` meets its contract: the answer of showing, packed, and its output.
use Rattle.overlay.proofs.Showing.{not_shown, answer_fits, show_settled}
use Rattle.overlay.proofs.overlay_show.Goals as goal

pub returns-then-rec-ne-NUMBERS : goal.returns-then-rec-ne-NUMBERS
returns-then-rec-ne-NUMBERS c =
    let a = c.args in
    not_shown a.listing.now a.table.now a.rec.now a.path.now a.output.now c.if-rec-ne-NUMBERS.true

pub pack_answer-requires : goal.pack_answer-requires
pack_answer-requires c =
    let a = c.args in
    let r = c.record_in in
    let s = c.show-answer in
    answer_fits a.listing.now a.table.now a.rec.now a.path.now a.output.now c.if-rec-ne-NUMBERS.false r.result r.ensures s.result s.ensures.result_value _ s.ensures.output_after

pub returns : goal.returns
returns c =
    let a = c.args in
    let r = c.record_in in
    let s = c.show-answer in
    show_settled a.listing.now a.table.now a.rec.now a.path.now a.output.now c.if-rec-ne-NUMBERS.false r.result r.ensures s.result s.ensures.result_value _ s.ensures.output_after
    c.pack_answer.result c.pack_answer.ensures
