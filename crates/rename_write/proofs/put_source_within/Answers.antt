-- `put_source_within` meets its contract: three stretches come one behind the other.
use mathlib.Core.List.{[], ◌∷◌, ◌++◌}
use Rattle.model.specs.Listing.{tree_in}
use Rattle.model.specs.Tree.{Table}
use Rattle.model.specs.Table.{table_in}
use Rattle.rename_write.specs.Stretch.{move, turned}
use Rattle.rename_write.specs.Sequence.{lower, top, departures}
use Rattle.rename_write.proofs.Sequences.{fits_first, fits_second, both_put}
use Rattle.rename_write.proofs.put_source_within.Goals as goal

pub put_departures-next-requires : goal.put_departures-next-requires
put_departures-next-requires c =
    let a = c.args in
    let T = table_in a.table.now a.rec in
    let L = tree_in a.listing.now in
    let xs : Table = ((a.destination.now, top T L a.source.now) ∷ []) in
    let ys = (departures a.whole T L a.source.now) in
    let zs = (turned (move a.source.now a.destination.now) (lower a.whole T L a.source.now)) in
    let p = c.put_top-first in
    record {
      rec_value = c.requires.rec_value;
      listing_value = c.requires.listing_value;
      fits = fits_first a.table.now p.new.work p.result ys zs
          (fits_second a.table.now a.work.now a.merge xs (ys ++ zs) p.new.work p.result p.ensures c.requires.fits);
    }

pub put_lower_moves-requires : goal.put_lower_moves-requires
put_lower_moves-requires c =
    let a = c.args in
    let T = table_in a.table.now a.rec in
    let L = tree_in a.listing.now in
    let xs : Table = ((a.destination.now, top T L a.source.now) ∷ []) in
    let ys = (departures a.whole T L a.source.now) in
    let zs = (turned (move a.source.now a.destination.now) (lower a.whole T L a.source.now)) in
    let p = c.put_top-first in
    let q = c.put_departures-next in
    record {
      rec_value = c.requires.rec_value;
      listing_value = c.requires.listing_value;
      source_value = c.requires.source_value;
      fits = fits_second a.table.now p.new.work p.result ys zs q.new.work q.result q.ensures
          (fits_second a.table.now a.work.now a.merge xs (ys ++ zs) p.new.work p.result p.ensures c.requires.fits);
    }

pub returns : goal.returns
returns c =
    let a = c.args in
    let T = table_in a.table.now a.rec in
    let L = tree_in a.listing.now in
    let xs : Table = ((a.destination.now, top T L a.source.now) ∷ []) in
    let ys = (departures a.whole T L a.source.now) in
    let zs = (turned (move a.source.now a.destination.now) (lower a.whole T L a.source.now)) in
    let p = c.put_top-first in
    let q = c.put_departures-next in
    let r = c.put_lower_moves in
    both_put a.table.now a.work.now a.merge xs (ys ++ zs) p.new.work p.result p.ensures r.new.work r.result
    (both_put a.table.now p.new.work p.result ys zs q.new.work q.result q.ensures r.new.work r.result r.ensures)
