-- `put_destination_within` meets its contract: three stretches come one behind the other.
use mathlib.Core.List.{[], ◌∷◌, ◌++◌}
use Rattle.model.specs.Listing.{tree_in}
use Rattle.model.specs.Tree.{deleted, Table}
use Rattle.model.specs.Table.{table_in}
use Rattle.rename_write.specs.Stretch.{deletion, turned}
use Rattle.rename_write.specs.Sequence.{lower, arrivals}
use Rattle.rename_write.proofs.Sequences.{fits_first, fits_second, both_put}
use Rattle.rename_write.proofs.put_destination_within.Goals as goal

pub put_arrivals-next-requires : goal.put_arrivals-next-requires
put_arrivals-next-requires c =
    let a = c.args in
    let T = table_in a.table.now a.rec in
    let L = tree_in a.listing.now in
    let xs : Table = ((a.source.now, deleted) ∷ []) in
    let ys = (arrivals a.whole T L a.source.now a.destination.now) in
    let zs = (turned deletion (lower a.whole T L a.source.now)) in
    let p = c.put_source_deletion-first in
    record {
      rec_value = c.requires.rec_value;
      listing_value = c.requires.listing_value;
      source_value = c.requires.source_value;
      fits = fits_first a.table.now p.new.work p.result ys zs
          (fits_second a.table.now a.work.now a.merge xs (ys ++ zs) p.new.work p.result p.ensures c.requires.fits);
    }

pub put_lower_deletions-requires : goal.put_lower_deletions-requires
put_lower_deletions-requires c =
    let a = c.args in
    let T = table_in a.table.now a.rec in
    let L = tree_in a.listing.now in
    let xs : Table = ((a.source.now, deleted) ∷ []) in
    let ys = (arrivals a.whole T L a.source.now a.destination.now) in
    let zs = (turned deletion (lower a.whole T L a.source.now)) in
    let p = c.put_source_deletion-first in
    let q = c.put_arrivals-next in
    record {
      rec_value = c.requires.rec_value;
      listing_value = c.requires.listing_value;
      fits = fits_second a.table.now p.new.work p.result ys zs q.new.work q.result q.ensures
          (fits_second a.table.now a.work.now a.merge xs (ys ++ zs) p.new.work p.result p.ensures c.requires.fits);
    }

pub returns : goal.returns
returns c =
    let a = c.args in
    let T = table_in a.table.now a.rec in
    let L = tree_in a.listing.now in
    let xs : Table = ((a.source.now, deleted) ∷ []) in
    let ys = (arrivals a.whole T L a.source.now a.destination.now) in
    let zs = (turned deletion (lower a.whole T L a.source.now)) in
    let p = c.put_source_deletion-first in
    let q = c.put_arrivals-next in
    let r = c.put_lower_deletions in
    both_put a.table.now a.work.now a.merge xs (ys ++ zs) p.new.work p.result p.ensures r.new.work r.result
    (both_put a.table.now p.new.work p.result ys zs q.new.work q.result q.ensures r.new.work r.result r.ensures)
