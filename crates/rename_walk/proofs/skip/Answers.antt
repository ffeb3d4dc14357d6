-- `skip` meets its contract: a record is passed in each turn.
use native.Mathlib.Omega.{arith}
use Rattle.rename_walk.proofs.Stretches.{skip_start, skip_more, skip_on, skip_end}
use Rattle.rename_walk.proofs.skip.Goals as goal

pub loop-init : goal.loop-init
loop-init c =
    let a = c.args in
    skip_start a.records.now a.n a.place.left a.place.at c.requires.standing c.requires.n_le_left

pub next_record-here-requires : goal.next_record-here-requires
next_record-here-requires c =
    let a = c.args in
    let l = c.loop in
    record { standing = l.invariant.stand; left_nonzero = skip_more a.records.now a.n a.place.left a.place.at l.counter l.here.left l.here.at l.invariant c.loop-test.true }

pub loop-preserved : goal.loop-preserved
loop-preserved c =
    let a = c.args in
    let l = c.loop in
    let n = c.next_record-here in
    skip_on a.records.now a.n a.place.left a.place.at l.counter l.here.left l.here.at l.invariant c.loop-test.true
    n.result n.ensures.value n.ensures.standing_2

pub returns : goal.returns
returns c =
    let a = c.args in
    let l = c.loop in
    let e = l.auto.counter-end in
    record { value = skip_end a.records.now a.n a.place.left a.place.at l.counter l.here.left l.here.at l.invariant (omega arith); standing_2 = l.invariant.stand }
