-- `enter_record` and `enter_stretch` meet their contracts: with each call the levels left fall, or the records of the stretch do.
use mathlib.Core.Option.{some}
use Prim.Native.Nat.{◌-◌}
use native.Mathlib.Omega.{arith}
use Rattle.model.specs.Listing.{record_at, node_of}
use Rattle.model.specs.Table.{entries_at}
use Rattle.listing_records.specs.Place.{tree_at}
use Rattle.model.specs.Rename.{sum}
use Rattle.std.proofs.lemmas.Result.{err_from_is_err_and}
use Rattle.rename_walk.specs.Walked.{walk_of}
use Rattle.rename_walk.proofs.Descents.{enter_no_level, enter_no_record, enter_pass, enter_dir, enter_one, enter_sought, enter_halves}
use Rattle.rename_walk.proofs.Enters.{entered_ended}
use Rattle.rename_walk.proofs.Stretches.{few, not_none, some_left, two_some, falls_below, falls_one, both_halves}
use Rattle.rename_walk.proofs.Visitings.{node_needs, err_ended}
use Rattle.rename_walk.proofs.+enter_record_enter_stretch.Goals as goal

pub enter_record-returns-then-depth-eq0 : goal.enter_record-returns-then-depth-eq0
enter_record-returns-then-depth-eq0 t c =
    let a = c.args in
    enter_no_level (entries_at a.table.now a.place.left a.place.at) (tree_at a.records.now a.here.left a.here.at) (some a.budget.available) a.dir.now
    (tree_at a.records.now 1 a.here.at) a.depth (sum a.total) c.if-depth-eq0.true

pub enter_record-bare_child-child-requires : goal.enter_record-bare_child-child-requires
enter_record-bare_child-child-requires t c =
    record { standing = c.requires.standing; left_nonzero = c.requires.left_nonzero; standing_2 = c.requires.standing_2 }

pub enter_record-node_at-found-requires : goal.enter_record-node_at-found-requires
enter_record-node_at-found-requires t c =
    let a = c.args in
    node_needs a.records.now a.here.left a.here.at c.requires.standing c.requires.left_nonzero

pub enter_record-record_path-path-requires : goal.enter_record-record_path-path-requires
enter_record-record_path-path-requires t c = record { standing = c.requires.standing; left_nonzero = c.requires.left_nonzero }

pub enter_record-stretch_below-own-requires : goal.enter_record-stretch_below-own-requires
enter_record-stretch_below-own-requires t c = c.requires.standing

pub enter_record-visit_children-requires : goal.enter_record-visit_children-requires
enter_record-visit_children-requires t c =
    let u = c.stretch_below-own.ensures in
    record { standing = u.stand; count_le_left = u.few; standing_2 = c.bare_child-child.ensures.sought.stand }

pub enter_record-enter_stretch-requires : goal.enter_record-enter_stretch-requires
enter_record-enter_stretch-requires t c =
    let a = c.args in
    let o = c.stretch_below-own in
    let u = o.ensures in (
      falls_below t a.depth o.result.count o.result.left (omega arith) (not_none a.depth c.if-depth-eq0.false) u.few
          (few a.records.now o.result.left o.result.at u.stand),
      (u.stand, (u.few, c.bare_child-child.ensures.sought.stand)),
    )

pub enter_record-returns-then-child-is_directory : goal.enter_record-returns-then-child-is_directory
enter_record-returns-then-child-is_directory t c =
    let a = c.args in
    let x = c.bare_child-child in
    let y = c.is_directory in
    let p = c.record_path-path in
    let o = c.stretch_below-own in
    let q = c.enter_stretch in
    enter_dir a.records.now a.table.now (some a.budget.available) a.dir.now a.here.left a.here.at a.place.left a.place.at
    a.depth (sum a.total) x.result.bare x.ensures.bare_value y.result (y.ensures (node_of (record_at a.records.now a.here.at)) c.node_at-found.ensures)
    c.if-child-is_directory.true (not_none a.depth c.if-depth-eq0.false) c.requires.standing p.result.now p.ensures
    x.result.place.left x.result.place.at x.ensures.sought o.result.left o.result.at o.result.count o.ensures
    _ (walk_of q.result) c.in_ok-on.ensures q.ensures

pub enter_record-returns-in_err-on : goal.enter_record-returns-in_err-on
enter_record-returns-in_err-on t c =
    let a = c.args in
    let x = c.bare_child-child in
    let y = c.is_directory in
    let p = c.record_path-path in
    let o = c.stretch_below-own in
    let e = err_from_is_err_and c.from_residual.result c.from_residual.ensures.1 in
    rw (e.1, e.2)
    (enter_dir a.records.now a.table.now (some a.budget.available) a.dir.now a.here.left a.here.at a.place.left a.place.at
    a.depth (sum a.total) x.result.bare x.ensures.bare_value y.result (y.ensures (node_of (record_at a.records.now a.here.at)) c.node_at-found.ensures)
    c.if-child-is_directory.true (not_none a.depth c.if-depth-eq0.false) c.requires.standing p.result.now p.ensures
    x.result.place.left x.result.place.at x.ensures.sought o.result.left o.result.at o.result.count o.ensures
    _ _ c.in_err-on.ensures
    (entered_ended (some a.budget.available) (a.depth - 1) (entries_at a.table.now x.result.place.left x.result.place.at)
    (tree_at a.records.now o.result.left o.result.at) p.result.now (tree_at a.records.now o.result.count o.result.at) _ (err_ended _)))

pub enter_record-returns : goal.enter_record-returns
enter_record-returns t c =
    let a = c.args in
    let x = c.bare_child-child in
    let y = c.is_directory in
    enter_pass a.records.now (entries_at a.table.now a.place.left a.place.at) (some a.budget.available) a.dir.now a.here.left a.here.at
    a.depth (sum a.total) x.result.bare x.ensures.bare_value y.result (y.ensures (node_of (record_at a.records.now a.here.at)) c.node_at-found.ensures)
    c.if-child-is_directory.false

pub enter_stretch-returns-then-count-eq0 : goal.enter_stretch-returns-then-count-eq0
enter_stretch-returns-then-count-eq0 t c =
    let a = c.args in
    enter_no_record a.records.now (entries_at a.table.now a.place.left a.place.at) (tree_at a.records.now a.stretch.left a.stretch.at)
    (some a.budget.available) a.dir.now a.depth a.stretch.count a.stretch.at (sum a.total) c.if-count-eq0.true

pub enter_stretch-record_path-path-requires : goal.enter_stretch-record_path-path-requires
enter_stretch-record_path-path-requires t c =
    let a = c.args in
    record { standing = c.requires.standing; left_nonzero = some_left a.stretch.count a.stretch.left c.if-count-eq0.false c.requires.count_le_left }

pub enter_stretch-seek-entries-requires : goal.enter_stretch-seek-entries-requires
enter_stretch-seek-entries-requires t c = c.requires.standing_2

pub enter_stretch-enter_record-requires : goal.enter_stretch-enter_record-requires
enter_stretch-enter_record-requires t c =
    let a = c.args in (
      falls_one t a.depth a.stretch.count (omega arith) c.if-count-eq1.true,
      (c.requires.standing, (some_left a.stretch.count a.stretch.left c.if-count-eq0.false c.requires.count_le_left, c.seek-entries.ensures.stand)),
    )

pub enter_stretch-returns-then-count-eq1 : goal.enter_stretch-returns-then-count-eq1
enter_stretch-returns-then-count-eq1 t c =
    let a = c.args in
    let p = c.record_path-path in
    let e = c.seek-entries in
    let q = c.enter_record in
    enter_sought a.records.now a.table.now (some a.budget.available) a.dir.now p.result.now a.stretch.left a.stretch.count a.stretch.at
    a.place.left a.place.at e.result.left e.result.at a.depth c.requires.standing c.requires.count_le_left (not_none a.stretch.count c.if-count-eq0.false)
    p.ensures e.ensures (sum a.total) (walk_of q.result)
    (enter_one a.records.now (entries_at a.table.now e.result.left e.result.at) (tree_at a.records.now a.stretch.left a.stretch.at)
    (some a.budget.available) a.dir.now a.depth a.stretch.count a.stretch.at (sum a.total) (walk_of q.result)
    c.if-count-eq1.true q.ensures)

pub enter_stretch-halved-requires : goal.enter_stretch-halved-requires
enter_stretch-halved-requires t c =
    let a = c.args in
    record { standing = c.requires.standing; count_le_left = (c.requires.count_le_left, two_some a.stretch.count c.if-count-eq0.false c.if-count-eq1.false) }

pub enter_stretch-enter_stretch-requires : goal.enter_stretch-enter_stretch-requires
enter_stretch-enter_stretch-requires t c =
    let a = c.args in
    let h = c.halved in
    let u = h.ensures in
    let v = both_halves a.records.now a.stretch.left a.stretch.count a.stretch.at h.result.low.left h.result.low.count h.result.low.at
    h.result.high.left h.result.high.count h.result.high.at u c.requires.standing c.requires.count_le_left in
    (omega (arith, u.counts, u.low_some, u.high_some), (search v.0, (search v.2, c.seek-entries.ensures.stand)))

pub enter_stretch-enter_stretch-requires-2 : goal.enter_stretch-enter_stretch-requires-2
enter_stretch-enter_stretch-requires-2 t c =
    let a = c.args in
    let h = c.halved in
    let u = h.ensures in
    let v = both_halves a.records.now a.stretch.left a.stretch.count a.stretch.at h.result.low.left h.result.low.count h.result.low.at
    h.result.high.left h.result.high.count h.result.high.at u c.requires.standing c.requires.count_le_left in
    (omega (arith, u.counts, u.low_some, u.high_some), (search v.1, (search v.3, c.seek-entries.ensures.stand)))

pub enter_stretch-returns-in_err-on : goal.enter_stretch-returns-in_err-on
enter_stretch-returns-in_err-on t c =
    let a = c.args in
    let h = c.halved in
    let p = c.record_path-path in
    let e = c.seek-entries in
    let z = err_from_is_err_and c.from_residual.result c.from_residual.ensures.1 in
    rw (z.1, z.2)
    (enter_sought a.records.now a.table.now (some a.budget.available) a.dir.now p.result.now a.stretch.left a.stretch.count a.stretch.at
    a.place.left a.place.at e.result.left e.result.at a.depth c.requires.standing c.requires.count_le_left (not_none a.stretch.count c.if-count-eq0.false)
    p.ensures e.ensures (sum a.total) _
    (enter_halves a.records.now (entries_at a.table.now e.result.left e.result.at) (some a.budget.available) a.dir.now
    a.stretch.left a.stretch.count a.stretch.at
    h.result.low.left h.result.low.count h.result.low.at h.result.high.left h.result.high.count h.result.high.at
    c.requires.standing h.ensures a.depth (sum a.total) _ _ c.in_err-on.ensures
    (entered_ended (some a.budget.available) a.depth (entries_at a.table.now e.result.left e.result.at)
    (tree_at a.records.now h.result.low.left h.result.low.at) a.dir.now (tree_at a.records.now h.result.low.count h.result.low.at) _ (err_ended _))))

pub enter_stretch-returns : goal.enter_stretch-returns
enter_stretch-returns t c =
    let a = c.args in
    let h = c.halved in
    let p = c.record_path-path in
    let e = c.seek-entries in
    let q = c.enter_stretch-2 in
    enter_sought a.records.now a.table.now (some a.budget.available) a.dir.now p.result.now a.stretch.left a.stretch.count a.stretch.at
    a.place.left a.place.at e.result.left e.result.at a.depth c.requires.standing c.requires.count_le_left (not_none a.stretch.count c.if-count-eq0.false)
    p.ensures e.ensures (sum a.total) (walk_of q.result)
    (enter_halves a.records.now (entries_at a.table.now e.result.left e.result.at) (some a.budget.available) a.dir.now
    a.stretch.left a.stretch.count a.stretch.at
    h.result.low.left h.result.low.count h.result.low.at h.result.high.left h.result.high.count h.result.high.at
    c.requires.standing h.ensures a.depth (sum a.total) _ (walk_of q.result) c.in_ok-on.ensures q.ensures)
