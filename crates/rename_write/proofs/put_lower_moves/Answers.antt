-- `put_lower_moves` meets its contract: the parts of table and listing below the source are what the stretch is made of; of a file there is nothing.
use borrow.Author.Rules.{rules}
use Rattle.model.specs.Table.{table_in}
use Rattle.rename_uncovered.proofs.Belows.{part_below}
use Rattle.rename_write.specs.Stretch.{move}
use Rattle.rename_write.proofs.Sequences.{lower_fits, lower_put, lower_movables}
use Rattle.rename_write.proofs.put_lower_moves.Goals as goal

pub put_moves-requires : goal.put_moves-requires
put_moves-requires c =
    let a = c.args in
    let t = c.below-entries in
    let l = c.below-records in
    let w = c.if-not-whole.false in
    record {
      flags_len = search rules;
      rec_value = c.requires.rec_value;
      standing = t.ensures.stand;
      count_value = t.ensures.are;
      part_below = part_below a.listing.now a.source.now c.requires.listing_value l.result.from l.result.to l.result.count l.ensures;
      puttable = lower_fits (move a.source.now a.destination.now) a.table.now a.work.now a.listing.now (table_in a.table.now
          a.rec) a.source.now
          l.result.from l.result.to l.result.count a.merge a.whole c.requires.listing_value l.ensures w c.requires.fits;
      movables = lower_movables a.listing.now (table_in a.table.now a.rec) a.source.now a.destination.now
          l.result.from l.result.to l.result.count a.whole c.requires.listing_value l.ensures w c.requires.source_value;
    }

pub returns : goal.returns
returns c =
    let a = c.args in
    let l = c.below-records in
    let p = c.put_moves in
    lower_put (move a.source.now a.destination.now) a.table.now a.work.now a.listing.now (table_in a.table.now a.rec)
    a.source.now
    l.result.from l.result.to l.result.count a.merge a.whole c.requires.listing_value l.ensures
    (c.if-not-whole.false) p.new.work p.result
    p.ensures
