-- `remove` meets its contract: what stands before the key is written, and what stands behind it is copied after that.
use native.Mathlib.Omega.{arith}
use Rattle.model.specs.Map.{del}
use Rattle.model.specs.Table.{table_in}
use Rattle.table_remove.proofs.Removes.{used_is, merged, fits_back}
use Rattle.table_remove.proofs.remove.Goals as goal

pub finish-requires : goal.finish-requires
finish-requires c =
    let a = c.args in
    let x = c.first_entry-first in
    let f = c.seek-found in
    let n = c.behind_key-next in
    let w = c.copy_in in
    let g = fits_back a.table.now a.rec a.key.now x.result f.result n.result c.requires.rec_value
    x.ensures.value f.ensures n.ensures.standing n.ensures.at_value n.ensures.at_value_2 a.work.now w.new.t c.requires.table_in_bounds w.ensures in
    let l = w.auto.t in
    let h = c.requires.table_in_bounds in
    record { at_le_used = g.0; at_in_bounds = (g.1, omega arith) }

pub returns-clause-table_after : goal.returns-clause-table_after
returns-clause-table_after c =
    let a = c.args in
    let x = c.first_entry-first in
    let f = c.seek-found in
    let n = c.behind_key-next in
    let w = c.copy_in in
    let m = merged a.table.now a.rec a.key.now x.result f.result n.result c.requires.rec_value
    x.ensures.value f.ensures n.ensures.standing n.ensures.at_value n.ensures.at_value_2 a.work.now w.new.t c.requires.table_in_bounds w.ensures in
    let u = used_is a.table.now a.rec a.key.now x.result f.result n.result c.requires.rec_value
    x.ensures.value f.ensures n.ensures.standing n.ensures.at_value n.ensures.at_value_2 in
    c.finish.ensures.table_after (del a.key.now (table_in a.table.now a.rec)) a.key.now m u
