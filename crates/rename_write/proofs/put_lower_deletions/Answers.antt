-- `put_lower_deletions` meets its contract: the parts of table and listing below the source are what the stretch is made of; of a file there is
-- nothing.
use borrow.Author.Rules.{rules}
use Rattle.model.specs.Table.{table_in}
use Rattle.rename_uncovered.proofs.Belows.{part_below}
use Rattle.rename_write.specs.Stretch.{deletion}
use Rattle.rename_write.proofs.Sequences.{lower_fits, lower_put}
use Rattle.rename_write.proofs.put_lower_deletions.Goals as goal

pub put_deletions-requires : goal.put_deletions-requires
put_deletions-requires c =
    let a = c.args in
    let t = c.below-entries in
    let l = c.below-records in
    let w = c.if-not-whole.false in
    record {
      flags_len = search rules;
      rec_value = c.requires.rec_value;
      standing = t.ensures.stand;
      count_value = t.ensures.are;
      part_below = part_below a.listing.now a.source.now c.requires.listing_value l.result.from l.result.to l.result.count l.ensures;
      puttable = lower_fits deletion a.table.now a.work.now a.listing.now (table_in a.table.now a.rec) a.source.now
          l.result.from l.result.to l.result.count a.merge a.whole c.requires.listing_value l.ensures w c.requires.fits;
    }

pub returns : goal.returns
returns c =
    let a = c.args in
    let l = c.below-records in
    let p = c.put_deletions in
    lower_put deletion a.table.now a.work.now a.listing.now (table_in a.table.now a.rec) a.source.now
    l.result.from l.result.to l.result.count a.merge a.whole c.requires.listing_value l.ensures
    (c.if-not-whole.false) p.new.work p.result
    p.ensures
