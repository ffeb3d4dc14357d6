-- `one_move` meets its contract.
use native.Mathlib.Omega.{arith}
use Rattle.model.specs.Table.{table_in}
use Rattle.rename_measure.proofs.Foretelling.{small_body, one_moved}
use Rattle.rename_measure.proofs.one_move.Goals as goal

pub returns : goal.returns
returns c =
    let a = c.args in
    let p = c.requires.destination_nonzero in
    let o = c.projected_record in
    let i = c.is_short in
    record {
      moved = λ q v l. one_moved a.rec.entry_size (table_in a.table.now a.rec) q a.destination.now v p.1 o.result (o.ensures v l)
          i.result i.ensures;
      small = (small_body a.table.now a.rec c.requires.rec_value a.destination.now a.m p.1 p.2 o.result o.ensures, omega arith);
    }
