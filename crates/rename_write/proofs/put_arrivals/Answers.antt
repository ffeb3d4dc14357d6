-- `put_arrivals` meets its contract: the destination comes first, and what is below it behind.
use mathlib.Core.List.{[], ◌∷◌}
use Rattle.model.specs.Listing.{tree_in}
use Rattle.model.specs.Table.{table_in}
use Rattle.rename_write.specs.Stretch.{move, turned}
use Rattle.rename_write.specs.Sequence.{lower, top}
use Rattle.rename_write.proofs.Sequences.{fits_second, both_put}
use Rattle.rename_write.proofs.put_arrivals.Goals as goal

pub put_lower_moves-requires : goal.put_lower_moves-requires
put_lower_moves-requires c =
    let a = c.args in
    let T = table_in a.table.now a.rec in
    let L = tree_in a.listing.now in
    let p = c.put_top-next in
    record {
      rec_value = c.requires.rec_value;
      listing_value = c.requires.listing_value;
      source_value = c.requires.source_value;
      fits = fits_second a.table.now a.work.now a.merge ((
        a.destination.now,
        top T L
            a.source.now,
      ) ∷ [])
          (turned (move a.source.now a.destination.now) (lower a.whole T L a.source.now)) p.new.work p.result p.ensures
          c.requires.fits;
    }

pub returns : goal.returns
returns c =
    let a = c.args in
    let T = table_in a.table.now a.rec in
    let L = tree_in a.listing.now in
    let p = c.put_top-next in
    let q = c.put_lower_moves in
    both_put a.table.now a.work.now a.merge ((a.destination.now, top T L a.source.now) ∷ [])
    (turned (move a.source.now a.destination.now) (lower a.whole T L a.source.now)) p.new.work p.result p.ensures
    q.new.work q.result q.ensures
