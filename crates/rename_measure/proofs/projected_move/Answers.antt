-- `projected_move` meets its contract: deletions and moves together. Their charge has 64 bits and is not cut.
use native.Mathlib.Omega.{arith}
use Rattle.rename_measure.proofs.Sources.{length_small}
use Rattle.rename_measure.proofs.Foretelling.{enough, together_foretold}
use Rattle.rename_measure.proofs.projected_move.Goals as goal

pub all_moves-moves-requires : goal.all_moves-moves-requires
all_moves-moves-requires c =
    let a = c.args in
    let p = c.requires in
    let d = p.destination_nonzero in
    let x = p.source in
    let f = p.e_len in
    let n = length_small a.table.now a.listing.now a.rec p.rec_value p.listing_value a.source.now a.whole x a.first_len f in
    record { listing_value = p.listing_value; rec_value = p.rec_value; destination_nonzero = (d.0, d.1, n); source = x; e_len = f }

pub together-requires : goal.together-requires
together-requires c =
    let a = c.args in
    let p = c.requires in
    let g = c.all_deletions-deletions in
    let m = c.all_moves-moves in
    record {
      small = (g.ensures.small, m.ensures.small.0, m.ensures.small.1);
      used_bound = enough a.table.now a.listing.now a.rec p.rec_value p.listing_value a.source.now a.destination.now p.q_value
          g.result m.result g.ensures.value m.ensures.moved;
    }

pub returns : goal.returns
returns c =
    let a = c.args in
    let p = c.requires in
    let t = c.together in
    let g = c.all_deletions-deletions in
    let m = c.all_moves-moves in
    together_foretold a.table.now a.listing.now a.rec p.rec_value p.listing_value a.source.now a.destination.now p.q_value
    g.result m.result g.ensures.value m.ensures.moved t.result t.ensures (omega (arith, t.type_inv))
