-- `reached_total` meets its contract: what is uncovered in the part is what is uncovered below the source.
use borrow.Author.Rules.{rules}
use Rattle.model.specs.Table.{table_in}
use Rattle.listing_records.proofs.Parts.{part_tree}
use Rattle.rename_uncovered.proofs.Belows.{part_below}
use Rattle.least_walk.proofs.Adding.{costs_of, stops_of}
use Rattle.least_walk.proofs.reached_total.Goals as goal

pub total_of-requires : goal.total_of-requires
total_of-requires c =
    let a = c.args in
    let b = c.below-listed in
    record {
      flags_len = search rules;
      part_below = part_below a.listing.now a.source.now c.requires.listing_value b.result.from b.result.to b.result.count
          b.ensures;
      rec_value = c.requires.rec_value;
    }

pub returns : goal.returns
returns c =
    let a = c.args in
    let b = c.below-listed in
    let r = c.total_of.result in
    let g = c.total_of.ensures in
    let t = table_in a.table.now a.rec in
    let e =
    part_tree a.listing.now a.source.now b.result.from b.result.to b.result.count b.ensures in
    let k = a.source.now in
    record { sum_value = costs_of t k _ _ e r.sum g.sum_value; stops_value = stops_of t k _ _ e r.stops g.stops_value; sum_bound = g.sum_bound }
