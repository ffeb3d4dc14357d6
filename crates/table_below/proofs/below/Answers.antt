-- `below` meets its contract: what stands between the two places is the part.
use Rattle.table_below.proofs.Cutting.{fewer, part_of_table}
use Rattle.table_below.proofs.below.Goals as goal

pub seek_with-end-requires : goal.seek_with-end-requires
seek_with-end-requires c = c.seek_with-start.ensures.stand

pub overflow_sub-result : goal.overflow_sub-result
overflow_sub-result c =
    let a = c.args in
    let p = c.seek_with-start in
    let q = c.seek_with-end in
    fewer a.table.now a.dir.now p.result.left p.result.at q.result.left q.result.at q.ensures

pub returns : goal.returns
returns c =
    let a = c.args in
    let f = c.first_entry-first in
    let p = c.seek_with-start in
    let q = c.seek_with-end in
    part_of_table a.table.now a.dir.now p.result.left p.result.at q.result.left q.result.at q.ensures
    a.rec f.result f.ensures.value f.ensures.standing p.ensures
