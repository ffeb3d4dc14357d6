-- `put_departures` meets its contract: the source comes first, and what is below it behind.
use mathlib.Core.List.{[], ◌∷◌}
use Rattle.model.specs.Listing.{tree_in}
use Rattle.model.specs.Tree.{deleted}
use Rattle.model.specs.Table.{table_in}
use Rattle.rename_write.specs.Stretch.{deletion, turned}
use Rattle.rename_write.specs.Sequence.{lower}
use Rattle.rename_write.proofs.Sequences.{fits_second, both_put}
use Rattle.rename_write.proofs.put_departures.Goals as goal

pub put_lower_deletions-requires : goal.put_lower_deletions-requires
put_lower_deletions-requires c =
    let a = c.args in
    let T = table_in a.table.now a.rec in
    let L = tree_in a.listing.now in
    let p = c.put_source_deletion-next in
    record {
      rec_value = c.requires.rec_value;
      listing_value = c.requires.listing_value;
      fits = fits_second a.table.now a.work.now a.merge ((a.source.now, deleted) ∷ [])
          (turned deletion (lower a.whole T L a.source.now)) p.new.work p.result p.ensures c.requires.fits;
    }

pub returns : goal.returns
returns c =
    let a = c.args in
    let T = table_in a.table.now a.rec in
    let L = tree_in a.listing.now in
    let p = c.put_source_deletion-next in
    let q = c.put_lower_deletions in
    both_put a.table.now a.work.now a.merge ((a.source.now, deleted) ∷ [])
    (turned deletion (lower a.whole T L a.source.now)) p.new.work p.result p.ensures q.new.work q.result q.ensures
