-- `put_source_first` meets its contract: one stretch comes behind the other.
use Rattle.model.specs.Listing.{tree_in}
use Rattle.model.specs.Table.{table_in}
use Rattle.rename_write.specs.Sequence.{departures, arrivals}
use Rattle.rename_write.proofs.Sequences.{fits_second, both_put}
use Rattle.rename_write.proofs.put_source_first.Goals as goal

pub put_arrivals-requires : goal.put_arrivals-requires
put_arrivals-requires c =
    let a = c.args in
    let T = table_in a.table.now a.rec in
    let L = tree_in a.listing.now in
    let p = c.put_departures-next in
    record {
      rec_value = c.requires.rec_value;
      listing_value = c.requires.listing_value;
      source_value = c.requires.source_value;
      fits = fits_second a.table.now a.work.now a.merge (departures a.whole T L a.source.now)
          (arrivals a.whole T L a.source.now a.destination.now) p.new.work p.result p.ensures c.requires.fits;
    }

pub returns : goal.returns
returns c =
    let a = c.args in
    let T = table_in a.table.now a.rec in
    let L = tree_in a.listing.now in
    let p = c.put_departures-next in
    let q = c.put_arrivals in
    both_put a.table.now a.work.now a.merge (departures a.whole T L a.source.now)
    (arrivals a.whole T L a.source.now a.destination.now) p.new.work p.result p.ensures q.new.work q.result q.ensures
