-- `put_top` meets its contract: the table's entry is carried where it has one, and what is listed else.
use mathlib.Core.Option.{none}
use Rattle.model.specs.Map.{lookup}
use Rattle.model.specs.Listing.{tree_in}
use Rattle.model.specs.Table.{entry_at, entries_at, table_in}
use Rattle.rename_write.specs.Sequence.{top_of, top}
use Rattle.rename_write.proofs.Sequences.{top_listed, top_stored, one_fits, one_done}
use Rattle.rename_write.proofs.put_top.Goals as goal

pub put_listed-requires : goal.put_listed-requires
put_listed-requires c =
    let a = c.args in
    let f = c.first_entry-first in
    let g = c.get_from-got in
    let z = c.is_absent in
    let n = lookup (tree_in a.listing.now) a.source.now in
    let t = lookup (entries_at a.table.now f.result.left f.result.at) a.source.now in
    let y = top_listed a.table.now a.rec f.result a.source.now z.result f.ensures.value
    (z.ensures a.table.now t g.ensures.result_value) n c.if-is_absent.true in
    record {
      listing_value = c.requires.listing_value;
      fits = one_fits a.table.now a.work.now a.merge a.destination.now (top_of none n)
          (top (table_in a.table.now a.rec) (tree_in a.listing.now) a.source.now) y c.requires.fits;
    }

pub returns-then-is_absent : goal.returns-then-is_absent
returns-then-is_absent c =
    let a = c.args in
    let f = c.first_entry-first in
    let g = c.get_from-got in
    let z = c.is_absent in
    let p = c.put_listed in
    let n = lookup (tree_in a.listing.now) a.source.now in
    let t = lookup (entries_at a.table.now f.result.left f.result.at) a.source.now in
    let y = top_listed a.table.now a.rec f.result a.source.now z.result f.ensures.value
    (z.ensures a.table.now t g.ensures.result_value) n c.if-is_absent.true in
    one_done a.table.now a.work.now p.new.work a.merge p.result a.destination.now (top_of none n)
    (top (table_in a.table.now a.rec) (tree_in a.listing.now) a.source.now) y p.ensures

pub put_stored-requires : goal.put_stored-requires
put_stored-requires c =
    let a = c.args in
    let f = c.first_entry-first in
    let g = c.get_from-got in
    let z = c.is_absent in
    let n = lookup (tree_in a.listing.now) a.source.now in
    let t = lookup (entries_at a.table.now f.result.left f.result.at) a.source.now in
    let y = top_stored a.table.now a.rec f.result a.source.now z.result f.ensures.value
    (z.ensures a.table.now t g.ensures.result_value) n c.if-is_absent.false f.ensures.standing g.result.place.left g.result.place.at
    g.ensures.sought in
    record {
      standing = g.ensures.sought.stand;
      left_nonzero = y.0;
      fits = one_fits a.table.now a.work.now a.merge a.destination.now
          (entry_at a.table.now g.result.place.at) (top (table_in a.table.now a.rec) (tree_in a.listing.now) a.source.now)
          y.1 c.requires.fits;
    }

pub returns-else-is_absent : goal.returns-else-is_absent
returns-else-is_absent c =
    let a = c.args in
    let f = c.first_entry-first in
    let g = c.get_from-got in
    let z = c.is_absent in
    let p = c.put_stored in
    let n = lookup (tree_in a.listing.now) a.source.now in
    let t = lookup (entries_at a.table.now f.result.left f.result.at) a.source.now in
    let y = top_stored a.table.now a.rec f.result a.source.now z.result f.ensures.value
    (z.ensures a.table.now t g.ensures.result_value) n c.if-is_absent.false f.ensures.standing g.result.place.left
    g.result.place.at g.ensures.sought in
    one_done a.table.now a.work.now p.new.work a.merge p.result a.destination.now
    (entry_at a.table.now g.result.place.at) (top (table_in a.table.now a.rec) (tree_in a.listing.now) a.source.now)
    y.1 p.ensures
