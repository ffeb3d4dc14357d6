-- `real_directory_has_visible_children` meets its contract: the records below the directory have all its children.
use Rattle.view_children.proofs.Sublists.{part_stands, listed_part}
use Rattle.view_children.proofs.real_directory_has_visible_children.Goals as goal

pub listed_without_entry-requires : goal.listed_without_entry-requires
listed_without_entry-requires c =
    let a = c.args in
    let p = c.below-part in
    record { standing = part_stands a.listing.now a.dir.now p.result.from p.result.to p.result.count c.requires.listing_value p.ensures; standing_2 = c.first_entry-first.ensures.standing }

pub returns : goal.returns
returns c =
    let a = c.args in
    let p = c.below-part in
    let f = c.first_entry-first in
    let w = c.listed_without_entry in
    listed_part a.listing.now a.dir.now p.result.from p.result.to p.result.count c.requires.listing_value p.ensures a.table.now a.rec
    f.result f.ensures.value w.result w.ensures
