-- `write_move` meets its contract: what is put in order makes the table that the definition names.
use lib.ListN.{length}
use Rattle.model.specs.Listing.{tree_in}
use Rattle.model.specs.Table.{table_in}
use Rattle.model.proofs.Codec.{decoded}
use Rattle.model.proofs.Listings.{checked}
use Rattle.rename_table.proofs.Ordered.{ordered_ascends, ordered_fits, ordered_written, ordered_movable}
use Rattle.rename_table.proofs.write_move.Goals as goal

pub write_ordered-requires : goal.write_ordered-requires
write_ordered-requires c =
    let x = c.args in
    let p = c.requires in
    let t = table_in x.table.now x.rec in
    let l = tree_in x.listing.now in
    let a = x.source.now in
    let b = x.destination.now in
    let tu = (decoded x.table.now x.rec p.given.table_is).ascending in
    let lu = (checked x.listing.now p.given.listing_is).up in
    let early = p.early_passed in
    let is = p.source_value in
    record { rec_value = p.given.table_is; listing_value = p.given.listing_is; source_value = ordered_movable t l a b x.whole tu lu early is p.source_value_2; destination_value = ordered_ascends t l a b x.whole tu lu early is; rec_in_bounds = ordered_fits t l a b x.whole tu lu early is (length x.table.now) p.destination_in_bounds; table_in_bounds = p.table_in_bounds }

pub returns : goal.returns
returns c =
    let x = c.args in
    let p = c.requires in
    let w = c.write_ordered in
    record {
      table_after = ordered_written (table_in x.table.now x.rec) (tree_in x.listing.now) x.source.now x.destination.now x.whole
          (decoded x.table.now x.rec p.given.table_is).ascending (checked x.listing.now p.given.listing_is).up p.early_passed p.source_value
          (length x.table.now) w.new.table w.ensures.table_after;
      work_after = w.ensures.work_after;
    }
