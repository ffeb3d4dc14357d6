-- `first_uncovered` meets its contract: the search starts with all records of the part and all entries of the table.
use Rattle.model.specs.Table.{table_in}
use Rattle.listing_records.specs.Place.{tree_at}
use Rattle.rename_uncovered.proofs.Passes.{ready_first, reading_first}
use Rattle.rename_uncovered.proofs.first_uncovered.Goals as goal

pub first_entry-first-requires : goal.first_entry-first-requires
first_entry-first-requires c = c.requires.rec_value

pub seek_uncovered-requires : goal.seek_uncovered-requires
seek_uncovered-requires c =
    let a = c.args in
    let e = c.first_entry-first in
    ready_first a.part.now a.table.now a.source.now a.flags.now a.count c.requires.flags_len c.requires.part_below a.rec e.result e.ensures.value e.ensures.standing

pub returns : goal.returns
returns c =
    let a = c.args in
    let e = c.first_entry-first in
    let s = c.seek_uncovered.ensures in
    let r =
    reading_first a.part.now a.table.now a.source.now a.flags.now a.count c.requires.flags_len c.requires.part_below a.rec e.result e.ensures.value e.ensures.standing in
    let v = s.ahead_at (table_in a.table.now a.rec) (tree_at a.part.now a.count 0) r in
    record { ready_at = s.ready_at; left_le_count = s.left_le_left; ahead_at = v.0; at_value = v.1 }
