-- `item_key` meets its contract: what is told to be next gives the key, and something is next.
use Rattle.rename_carried.proofs.Items.{entry_there, listed_there}
use Rattle.rename_items.proofs.Told.{entry_key, listed_key}
use Rattle.rename_items.proofs.item_key.Goals as goal

pub entry_key-requires : goal.entry_key-requires
entry_key-requires c =
    let a = c.args in
    record { standing = c.requires.standing; left_nonzero = entry_there a.own.now a.part.now a.stream a.head c.requires.next c.in-Entry.is }

pub returns-in-Entry : goal.returns-in-Entry
returns-in-Entry c =
    let a = c.args in
    entry_key a.own.now a.part.now a.stream a.head c.in-Entry.is _ c.entry_key.ensures

pub record_path-requires : goal.record_path-requires
record_path-requires c =
    let a = c.args in
    record { standing = c.requires.standing_2; left_nonzero = listed_there a.own.now a.part.now a.stream a.head c.requires.next c.in-Listed.is }

pub returns-in-Listed : goal.returns-in-Listed
returns-in-Listed c =
    let a = c.args in
    listed_key a.own.now a.part.now a.stream a.head c.in-Listed.is _ c.record_path.ensures
