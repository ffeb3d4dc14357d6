-- `seek_uncovered` meets its contract: each record that is covered is passed, and so are the entries before it.
use borrow.Author.Rules.{rules}
use Rattle.model.specs.Listing.{record_end}
use Rattle.rename_uncovered.proofs.Passes.{bounds, seek_start, seek_found, seek_on, seek_less, seek_end}
use Rattle.rename_uncovered.proofs.seek_uncovered.Goals as goal

pub loop-here-init : goal.loop-here-init
loop-here-init c =
    let a = c.args in
    seek_start a.part.now a.table.now a.source.now a.flags.now a.records.left a.records.at a.entries.left a.entries.at c.requires

pub record_path-path-requires : goal.record_path-path-requires
record_path-path-requires c = record { standing = c.loop-here.invariant.ready.stand; left_nonzero = c.loop-here-test.true }

pub get_from-got-requires : goal.get_from-got-requires
get_from-got-requires c = c.loop-here.invariant.ready.entries

pub cover-requires : goal.cover-requires
cover-requires c =
    let a = c.args in
    let l = c.loop-here in
    let p = c.record_path-path in
    bounds a.part.now a.table.now a.source.now l.flags l.here.left l.here.at l.place.left l.place.at l.invariant.ready
    c.loop-here-test.true p.result.now p.ensures

pub returns-then-cover : goal.returns-then-cover
returns-then-cover c =
    let a = c.args in
    let l = c.loop-here in
    let p = c.record_path-path in
    let g = c.get_from-got in
    let y = c.is_absent in
    let v = c.cover in
    let q =
    seek_found a.part.now a.table.now a.source.now a.flags.now a.records.left a.records.at a.entries.left a.entries.at
    l.flags l.here.left l.here.at l.place.left l.place.at l.invariant
    c.loop-here-test.true p.result.now p.ensures g.result.entry g.ensures.result_value
    g.result.place.left g.result.place.at g.ensures.sought y.result y.ensures v.new.flags v.ensures.flags_len v.result v.ensures.value c.if-cover.true in
    record { ready_at = q.ready; left_le_left = q.fewer; ahead_at = q.ahead }

pub next_record-here-requires : goal.next_record-here-requires
next_record-here-requires c = record { standing = c.loop-here.invariant.ready.stand; left_nonzero = c.loop-here-test.true }

pub loop-here-smaller : goal.loop-here-smaller
loop-here-smaller c =
    let a = c.args in
    let l = c.loop-here in
    let n = c.next_record-here in
    seek_less l.here.left (record_end a.part.now l.here.at) c.loop-here-test.true n.result n.ensures.value

pub loop-here-preserved : goal.loop-here-preserved
loop-here-preserved c =
    let a = c.args in
    let l = c.loop-here in
    let p = c.record_path-path in
    let g = c.get_from-got in
    let y = c.is_absent in
    let v = c.cover in
    let n = c.next_record-here in
    seek_on a.part.now a.table.now a.source.now a.flags.now a.records.left a.records.at a.entries.left a.entries.at
    l.flags l.here.left l.here.at l.place.left l.place.at l.invariant
    c.loop-here-test.true p.result.now p.ensures g.result.entry g.ensures.result_value
    g.result.place.left g.result.place.at g.ensures.sought y.result y.ensures v.new.flags v.ensures.flags_len v.result v.ensures.value c.if-cover.false n.result n.ensures.value

pub returns : goal.returns
returns c =
    let a = c.args in
    let l = c.loop-here in
    let q =
    seek_end a.part.now a.table.now a.source.now a.flags.now a.records.left a.records.at a.entries.left a.entries.at
    l.flags l.here.left l.here.at l.place.left l.place.at l.invariant
    (search rules) in
    record { ready_at = q.ready; left_le_left = q.fewer; ahead_at = q.ahead }
