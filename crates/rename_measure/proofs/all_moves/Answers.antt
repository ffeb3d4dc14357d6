-- `all_moves` meets its contract.
use Rattle.rename_measure.proofs.Foretelling.{moves_whole, moves_alone}
use Rattle.rename_measure.proofs.all_moves.Goals as goal

pub returns-then-whole : goal.returns-then-whole
returns-then-whole c =
    let a = c.args in
    let p = c.requires in
    let g = c.moves_below in
    record {
      moved = moves_whole a.table.now a.listing.now a.rec p.rec_value p.listing_value a.source.now a.whole p.source c.if-whole.true
          a.destination.now a.first_len p.e_len g.result g.ensures.moved;
      small = g.ensures.small;
    }

pub returns-else-whole : goal.returns-else-whole
returns-else-whole c =
    let a = c.args in
    let p = c.requires in
    let g = c.one_move in
    record {
      moved = moves_alone a.table.now a.listing.now a.rec p.rec_value p.listing_value a.source.now a.whole p.source c.if-whole.false
          a.destination.now a.first_len p.e_len g.result (g.ensures.moved a.source.now);
      small = g.ensures.small;
    }
