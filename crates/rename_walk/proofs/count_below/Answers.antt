-- `count_below` meets its contract: each record below the directory counts, up to the first that is not.
use native.Mathlib.Omega.{arith}
use borrow.Author.Rules.{rules}
use Rattle.model.specs.Listing.{record_end}
use Rattle.view_children.proofs.Searches.{search_less}
use Rattle.rename_walk.proofs.Stretches.{count_start, count_on, count_stop, count_end}
use Rattle.rename_walk.proofs.count_below.Goals as goal

pub loop-here-init : goal.loop-here-init
loop-here-init c =
    let a = c.args in
    count_start a.records.now a.dir.now a.place.left a.place.at c.requires

pub record_path-path-requires : goal.record_path-path-requires
record_path-path-requires c = record { standing = c.loop-here.invariant.stand; left_nonzero = c.loop-here-test.true }

pub next_record-here-requires : goal.next_record-here-requires
next_record-here-requires c = record { standing = c.loop-here.invariant.stand; left_nonzero = c.loop-here-test.true }

pub overflow_add-n : goal.overflow_add-n
overflow_add-n c = omega (arith, c.loop-here.invariant.small)

pub loop-here-smaller : goal.loop-here-smaller
loop-here-smaller c =
    let a = c.args in
    let l = c.loop-here in
    let n = c.next_record-here in
    search_less l.here.left (record_end a.records.now l.here.at) c.loop-here-test.true n.result n.ensures.value

pub loop-here-preserved : goal.loop-here-preserved
loop-here-preserved c =
    let a = c.args in
    let l = c.loop-here in
    let p = c.record_path-path in
    let b = c.is_below in
    let n = c.next_record-here in
    count_on a.records.now a.dir.now a.place.left a.place.at l.here.left l.here.at l.n l.invariant c.loop-here-test.true
    p.result.now p.ensures b.result b.ensures (c.if-not-is_below.false) n.result n.ensures.value n.ensures.standing_2

pub returns-then-not-is_below : goal.returns-then-not-is_below
returns-then-not-is_below c =
    let a = c.args in
    let l = c.loop-here in
    let p = c.record_path-path in
    let b = c.is_below in
    count_stop a.records.now a.dir.now a.place.left a.place.at l.here.left l.here.at l.n l.invariant c.loop-here-test.true
    p.result.now p.ensures b.result b.ensures (c.if-not-is_below.true)

pub returns : goal.returns
returns c =
    let a = c.args in
    let l = c.loop-here in
    count_end a.records.now a.dir.now a.place.left a.place.at l.here.left l.here.at l.n l.invariant (search rules)
