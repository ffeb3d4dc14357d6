-- `total_of` meets its contract: each turn of the loop adds one node that is uncovered.
use mathlib.Core.Path.{ap}
use native.Mathlib.Omega.{arith}
use borrow.Author.Rules.{rules}
use lib.ListN.{length}
use Rattle.model.specs.Listing.{record_at, node_of}
use Rattle.model.specs.Table.{table_in}
use Rattle.listing_records.specs.Place.{tree_at}
use Rattle.rename_uncovered.specs.Ahead.{to_come}
use Rattle.rename_uncovered.proofs.Passes.{bounds, node_there}
use Rattle.least_walk.proofs.Adding.{adding_begun, adding_small, adding_over, adding_on}
use Rattle.least_walk.proofs.total_of.Goals as goal

pub loop-here-init : goal.loop-here-init
loop-here-init c =
    let a = c.args in
    let f = c.first_uncovered-here in
    adding_begun a.part.now a.table.now a.source.now a.count f.new.flags f.result f.ensures.ready_at
    f.ensures.left_le_count

pub record_path-path-requires : goal.record_path-path-requires
record_path-path-requires c = record { standing = c.loop-here.invariant.ready.stand; left_nonzero = c.loop-here-test.true }

pub node_at-found-requires : goal.node_at-found-requires
node_at-found-requires c =
    let a = c.args in
    let l = c.loop-here in
    let k = l.here in
    node_there a.part.now a.table.now a.source.now l.flags k.left k.at k.place.left
    k.place.at l.invariant.ready c.loop-here-test.true

pub node_total-one-requires : goal.node_total-one-requires
node_total-one-requires c =
    let a = c.args in
    let l = c.loop-here in
    let k = l.here in
    let p = c.record_path-path in
    (bounds a.part.now a.table.now a.source.now l.flags k.left k.at k.place.left k.place.at
    l.invariant.ready c.loop-here-test.true p.result.now p.ensures).1

pub overflow_add-sum : goal.overflow_add-sum
overflow_add-sum c =
    let a = c.args in
    let l = c.loop-here in
    let f = c.first_uncovered-here in
    let s =
    adding_small a.part.now a.table.now a.source.now a.count f.new.flags f.result l.flags l.sum
    l.stops l.here l.invariant c.requires.part_below in
    let o = c.node_total-one.ensures.sum_bound in
    omega arith

pub next_uncovered-here-requires : goal.next_uncovered-here-requires
next_uncovered-here-requires c = record { ready_at = c.loop-here.invariant.ready; left_nonzero = c.loop-here-test.true }

pub loop-here-smaller : goal.loop-here-smaller
loop-here-smaller c = c.next_uncovered-here.ensures.left_lt_left

pub loop-here-preserved : goal.loop-here-preserved
loop-here-preserved c =
    let l = c.loop-here in
    let f = c.first_uncovered-here in
    let a = c.args in
    let k = l.here in
    let v = c.next_uncovered-here in
    let o = c.node_total-one in
    let n = c.node_at-found in
    let p = c.record_path-path in
    adding_on a.part.now a.table.now a.source.now a.count f.new.flags f.result l.flags l.sum
    l.stops k l.invariant c.loop-here-test.true o.result o.ensures.sum_bound
    (o.ensures.sum_value (record_at a.part.now k.at).path (node_of (record_at a.part.now k.at)) n.ensures
    (ap length p.ensures))
    v.new.flags v.result v.ensures.ready_at_2 v.ensures.left_lt_left v.ensures.ahead_at

pub returns : goal.returns
returns c =
    let a = c.args in
    let l = c.loop-here in
    let f = c.first_uncovered-here in
    let s =
    adding_small a.part.now a.table.now a.source.now a.count f.new.flags f.result l.flags l.sum
    l.stops l.here l.invariant c.requires.part_below in
    let t = table_in a.table.now a.rec in
    let v =
    adding_over a.part.now a.table.now a.source.now a.count f.new.flags f.result l.flags l.sum
    l.stops l.here l.invariant (search rules) t (tree_at a.part.now a.count 0) f.ensures.ahead_at
    (to_come t a.source.now a.part.now a.count 0) f.ensures.at_value in
    record { sum_value = v.0; stops_value = v.1; sum_bound = omega arith }
