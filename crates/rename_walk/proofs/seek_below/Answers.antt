-- `seek_below` meets its contract: a record before the directory with a slash is passed, and the first other one is where it ends.
use mathlib.Core.Path.{refl}
use borrow.Author.Rules.{rules}
use Rattle.model.specs.Listing.{record_end}
use Rattle.view_children.proofs.Searches.{search_less}
use Rattle.rename_walk.specs.Stretch.{slashed}
use Rattle.rename_walk.proofs.Stretches.{pass_on, pass_stop, pass_end}
use Rattle.rename_walk.proofs.seek_below.Goals as goal

pub loop-here-init : goal.loop-here-init
loop-here-init c = record { stand = c.requires; are = refl }

pub record_path-path-requires : goal.record_path-path-requires
record_path-path-requires c = record { standing = c.loop-here.invariant.stand; left_nonzero = c.loop-here-test.true }

pub next_record-here-requires : goal.next_record-here-requires
next_record-here-requires c = record { standing = c.loop-here.invariant.stand; left_nonzero = c.loop-here-test.true }

pub loop-here-smaller : goal.loop-here-smaller
loop-here-smaller c =
    let a = c.args in
    let l = c.loop-here in
    let n = c.next_record-here in
    search_less l.here.left (record_end a.records.now l.here.at) c.loop-here-test.true n.result n.ensures.value

pub loop-here-preserved : goal.loop-here-preserved
loop-here-preserved c =
    let a = c.args in
    let l = c.loop-here in
    let p = c.record_path-path in
    let b = c.is_before_with in
    let n = c.next_record-here in
    pass_on a.records.now (slashed a.dir.now) a.place.left a.place.at l.here.left l.here.at l.invariant c.loop-here-test.true
    p.result.now p.ensures b.result b.ensures (c.if-not-is_before_with.false) n.result n.ensures.value n.ensures.standing_2

pub returns-then-not-is_before_with : goal.returns-then-not-is_before_with
returns-then-not-is_before_with c =
    let a = c.args in
    let l = c.loop-here in
    let p = c.record_path-path in
    let b = c.is_before_with in
    record {
      standing = l.invariant.stand;
      at_value = pass_stop a.records.now (slashed a.dir.now) a.place.left a.place.at l.here.left l.here.at l.invariant c.loop-here-test.true
          p.result.now p.ensures b.result b.ensures (c.if-not-is_before_with.true);
    }

pub returns : goal.returns
returns c =
    let a = c.args in
    let l = c.loop-here in
    record { standing = l.invariant.stand; at_value = pass_end a.records.now (slashed a.dir.now) a.place.left a.place.at l.here.left l.here.at l.invariant (search rules) }
