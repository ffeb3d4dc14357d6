-- `first_move` meets its contract.
use mathlib.Core.Path.{refl, ap}
use mathlib.Core.Bool.{not}
use native.Mathlib.Omega.{arith}
use Rattle.table_insert.proofs.Inserts.{counts_first}
use Rattle.rename_measure.proofs.Counting.{first_counted}
use Rattle.rename_measure.proofs.first_move.Goals as goal

pub projected-next-requires : goal.projected-next-requires
projected-next-requires c =
    let a = c.args in
    let f = c.first_entry-begin in
    let m = c.requires.destination_len_bound.1 in
    record { counts = counts_first a.table.now a.rec f.result c.requires.rec_value f.ensures.value; key_len_bound = (c.requires.destination_len_bound.0, omega arith) }

pub returns : goal.returns
returns c =
    let a = c.args in
    let f = c.first_entry-begin in
    let p = c.projected-next in
    let i = c.is_short in
    record {
      measured = first_counted a.table.now a.destination.now a.m a.rec f.result f.ensures.value p.result.place p.result.rec
          p.ensures;
      extra_value = (refl, ap not i.ensures);
    }
