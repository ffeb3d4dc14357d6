-- `all_deletions` meets its contract.
use mathlib.Core.Path.{refl}
use native.Mathlib.Omega.{arith}
use Rattle.model.specs.Tree.{deleted}
use Rattle.rename_measure.proofs.Foretelling.{small_put, deletions_whole, deletions_alone}
use Rattle.rename_measure.proofs.all_deletions.Goals as goal

pub returns-then-whole : goal.returns-then-whole
returns-then-whole c =
    let a = c.args in
    let p = c.requires in
    let g = c.deletions_below in
    record {
      value = deletions_whole a.table.now a.listing.now a.rec p.rec_value p.listing_value a.source.now a.whole p.source c.if-whole.true
          g.result g.ensures.value;
      small = g.ensures.small;
    }

pub returns-else-whole : goal.returns-else-whole
returns-else-whole c =
    let a = c.args in
    let p = c.requires in
    let g = c.projected_record in
    record {
      value = deletions_alone a.table.now a.listing.now a.rec p.rec_value p.listing_value a.source.now a.whole p.source c.if-whole.false
          g.result (g.ensures deleted refl);
      small = small_put a.table.now a.rec p.rec_value a.source.now deleted p.source_nonzero.1 (omega arith) g.result (g.ensures deleted refl);
    }
