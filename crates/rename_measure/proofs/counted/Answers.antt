-- `counted` meets its contract.
use borrow.Author.Rules.{rules}
use Rattle.rename_measure.proofs.Counting.{counted_near}
use Rattle.rename_measure.proofs.counted.Goals as goal

pub returns : goal.returns
returns c =
    let a = c.args in
    let k = c.moved_key-moved in
    let p = c.projected-next in
    let f = c.is_short-fits in
    counted_near a.table.now a.destination.now a.key.now a.from a.m a.tally (search rules) _ k.ensures.bytes_value
    p.result.place p.result.rec p.ensures f.result f.ensures
