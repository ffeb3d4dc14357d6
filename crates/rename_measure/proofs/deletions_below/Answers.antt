-- `deletions_below` meets its contract.
use borrow.Author.Rules.{rules}
use Rattle.model.specs.Listing.{tree_in}
use Rattle.rename_uncovered.proofs.Belows.{part_below}
use Rattle.rename_carried.proofs.Items.{part_of_listing}
use Rattle.rename_measure.proofs.deletions_below.Goals as goal

pub measure_deletions-requires : goal.measure_deletions-requires
measure_deletions-requires c =
    let a = c.args in
    let b = c.below-entries in
    let l = c.below-listed in
    record {
      flags_len = search rules;
      rec_value = c.requires.rec_value;
      standing = b.ensures.stand;
      count_value = b.ensures.are;
      part_below = part_below a.listing.now a.source.now c.requires.listing_value l.result.from l.result.to l.result.count
          l.ensures;
      source_nonzero = c.requires.source_nonzero;
    }

pub returns : goal.returns
returns c =
    let a = c.args in
    let l = c.below-listed in
    let d = c.measure_deletions in
    let x = part_of_listing a.listing.now a.source.now l.result.from l.result.to l.result.count c.requires.listing_value l.ensures in
    record { value = d.ensures.value (tree_in a.listing.now) x.0 x.1; small = d.ensures.small }
