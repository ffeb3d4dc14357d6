-- `put_destination_first` meets its contract: one stretch comes behind the other.
use Rattle.model.specs.Listing.{tree_in}
use Rattle.model.specs.Table.{table_in}
use Rattle.rename_write.specs.Sequence.{departures, arrivals}
use Rattle.rename_write.proofs.Sequences.{fits_second, both_put}
use Rattle.rename_write.proofs.put_destination_first.Goals as goal

pub put_departures-requires : goal.put_departures-requires
put_departures-requires c =
    let a = c.args in
    let T = table_in a.table.now a.rec in
    let L = tree_in a.listing.now in
    let p = c.put_arrivals-next in
    record {
      rec_value = c.requires.rec_value;
      listing_value = c.requires.listing_value;
      fits = fits_second a.table.now a.work.now a.merge (arrivals a.whole T L a.source.now a.destination.now)
          (departures a.whole T L a.source.now) p.new.work p.result p.ensures c.requires.fits;
    }

pub returns : goal.returns
returns c =
    let a = c.args in
    let T = table_in a.table.now a.rec in
    let L = tree_in a.listing.now in
    let p = c.put_arrivals-next in
    let q = c.put_departures in
    both_put a.table.now a.work.now a.merge (arrivals a.whole T L a.source.now a.destination.now)
    (departures a.whole T L a.source.now) p.new.work p.result p.ensures q.new.work q.result q.ensures
