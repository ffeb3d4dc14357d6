-- `projected_record` meets its contract: the pass from the first entry on measures the new table.
use Rattle.table_insert.proofs.Inserts.{counts_first, measure_first}
use mathlib.Core.List.{[]}
use Rattle.model.specs.Table.{table_in}
use Rattle.table_insert.proofs.projected_record.Goals as goal

pub projected-after-requires-clause-counts : goal.projected-after-requires-clause-counts
projected-after-requires-clause-counts c =
    let q = c.first_entry-first in
    counts_first c.args.table.now c.args.rec q.result c.requires.rec_value q.ensures.value

pub returns : goal.returns
returns c =
    let a = c.args in
    let q = c.first_entry-first in
    let p = c.projected-after in
    let s = a.table.now in
    λ v l. (p.ensures (table_in s a.rec) [] v (measure_first s a.rec q.result c.requires.rec_value q.ensures.value) c.requires.key_value.0 l).agrees
