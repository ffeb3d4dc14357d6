-- `write_ordered` meets its contract: all is put from the table's first entry on, and the rest is copied behind it.
use Rattle.model.specs.Listing.{tree_in}
use Rattle.model.specs.Table.{table_in}
use Rattle.table_insert.proofs.Inserts.{zeros_as_long}
use Rattle.rename_write.specs.Sequence.{ordered}
use Rattle.rename_write.proofs.Sequences.{fits_begun, done_fits, done_over}
use Rattle.rename_write.proofs.write_ordered.Goals as goal

pub put_ordered-end-requires : goal.put_ordered-end-requires
put_ordered-end-requires c =
    let a = c.args in
    let xs = ordered a.whole (table_in a.table.now a.rec) (tree_in a.listing.now) a.source.now a.destination.now in
    let p = c.requires in
    record {
      rec_value = p.rec_value;
      listing_value = p.listing_value;
      source_value = p.source_value;
      fits = fits_begun a.table.now a.work.now a.rec xs p.rec_value p.destination_value p.rec_in_bounds
          p.table_in_bounds;
    }

pub finish-requires : goal.finish-requires
finish-requires c =
    let a = c.args in
    let xs = ordered a.whole (table_in a.table.now a.rec) (tree_in a.listing.now) a.source.now a.destination.now in
    let p = c.requires in
    let q = c.put_ordered-end in
    let it = done_fits a.table.now a.work.now a.rec xs p.rec_value p.destination_value q.new.work q.result q.ensures p.rec_in_bounds
    p.table_in_bounds in
    record { at_le_used = it.0; at_in_bounds = it.1 }

pub returns : goal.returns
returns c =
    let a = c.args in
    let xs = ordered a.whole (table_in a.table.now a.rec) (tree_in a.listing.now) a.source.now a.destination.now in
    let p = c.requires in
    let q = c.put_ordered-end in
    let f = c.finish in
    record { table_after = done_over a.table.now a.work.now a.rec xs p.rec_value p.destination_value q.new.work q.result q.ensures f.new.table f.ensures.table_after; work_after = zeros_as_long a.work.now q.new.work f.new.work f.ensures.work_after q.ensures.long }
