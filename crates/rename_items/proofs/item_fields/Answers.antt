-- `item_fields` meets its contract: what is told to be next gives the fields, and something is next.
use Rattle.model.specs.Listing.{record_at}
use Rattle.rename_carried.proofs.Items.{entry_there}
use Rattle.rename_items.proofs.Told.{node_there, entry_fields, listed_fields}
use Rattle.rename_items.proofs.item_fields.Goals as goal

pub entry_fields-requires : goal.entry_fields-requires
entry_fields-requires c =
    let a = c.args in
    record { standing = c.requires.standing; left_nonzero = entry_there a.own.now a.part.now a.stream a.head c.requires.next c.in-Entry.is }

pub returns-in-Entry : goal.returns-in-Entry
returns-in-Entry c =
    let a = c.args in
    let x = c.entry_fields in
    let it = entry_fields a.own.now a.part.now a.stream a.head c.in-Entry.is x.result
    x.ensures.kind_value x.ensures.mtime_value x.ensures.size_value in
    record { kind_value = it.0; mtime_value = it.1.0; size_value = it.1.1 }

pub node_at-requires : goal.node_at-requires
node_at-requires c =
    let a = c.args in
    node_there a.own.now a.part.now a.stream a.head c.requires.standing_2 c.requires.next c.in-Listed.is

pub returns-in-Listed : goal.returns-in-Listed
returns-in-Listed c =
    let a = c.args in
    let x = c.listed_fields in
    let it = listed_fields a.own.now a.part.now a.stream a.head c.in-Listed.is x.result
    (x.ensures (record_at a.part.now a.stream.listed.at) c.node_at.ensures) in
    record { kind_value = it.0; mtime_value = it.1.0; size_value = it.1.1 }
