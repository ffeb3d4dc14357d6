-- `put_names` meets its contract: each turn of the loop writes the name of what is next, if it has one; zeros follow.
use Rattle.show_write.proofs.Measures.{head_inside, next_fits, put_on}
use Rattle.show_write.proofs.put_names.Goals as goal

pub put_name-at-requires : goal.put_name-at-requires
put_name-at-requires c =
    let a = c.args in
    let l = c.loop-head in
    let r = c.advance-next in
    record { merging = l.invariant.showing.merging; next = c.head_at.ensures.next _ c.in-Some.is; head_value = head_inside a.own.now a.part.now a.dir.now l.merge _ r.result r.ensures.merge_value l.invariant.showing; head_in_bounds = next_fits a.output.now a.own.now a.part.now a.dir.now a.first c.requires.first_in_bounds l.merge l.output l.at l.invariant _ r.result r.ensures.merge_value }

pub loop-head-preserved : goal.loop-head-preserved
loop-head-preserved c =
    let a = c.args in
    let l = c.loop-head in
    let r = c.advance-next in
    let w = c.put_name-at in
    put_on a.output.now a.own.now a.part.now a.dir.now a.first c.requires.first_in_bounds l.merge l.output l.at l.invariant _ r.result r.ensures.merge_value r.ensures.merging_2
    w.new.output w.ensures.output_after w.result w.ensures.value
