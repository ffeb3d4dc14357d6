-- `item_body` meets its contract: what is told to be next gives the body, and something is next.
use Rattle.model.specs.Listing.{record_at}
use Rattle.rename_carried.proofs.Items.{entry_there, listed_there}
use Rattle.rename_items.proofs.Listed.{file_body, no_body}
use Rattle.rename_items.proofs.Told.{node_there, entry_body, listed_body}
use Rattle.rename_items.proofs.item_body.Goals as goal

pub entry_body-requires : goal.entry_body-requires
entry_body-requires c =
    let a = c.args in
    record { standing = c.requires.standing; left_nonzero = entry_there a.own.now a.part.now a.stream a.head c.requires.next c.in-Entry.is }

pub returns-in-Entry : goal.returns-in-Entry
returns-in-Entry c =
    let a = c.args in
    entry_body a.own.now a.part.now a.stream a.head c.in-Entry.is _ c.entry_body.ensures

pub node_at-found-requires : goal.node_at-found-requires
node_at-found-requires c =
    let a = c.args in
    node_there a.own.now a.part.now a.stream a.head c.requires.standing_2 c.requires.next c.in-Listed.is

pub record_path-path-requires : goal.record_path-path-requires
record_path-path-requires c =
    let a = c.args in
    record { standing = c.requires.standing_2; left_nonzero = listed_there a.own.now a.part.now a.stream a.head c.requires.next c.in-Listed.is }

pub returns-then-is_file : goal.returns-then-is_file
returns-then-is_file c =
    let a = c.args in
    let x = c.is_file in
    listed_body a.own.now a.part.now a.stream a.head c.in-Listed.is _
    (file_body (record_at a.part.now a.stream.listed.at) c.node_at-found.result x.result c.node_at-found.ensures x.ensures
    c.if-is_file.true _ c.record_path-path.ensures)

pub returns-else-is_file : goal.returns-else-is_file
returns-else-is_file c =
    let a = c.args in
    let x = c.is_file in
    listed_body a.own.now a.part.now a.stream a.head c.in-Listed.is _
    (no_body (record_at a.part.now a.stream.listed.at) c.node_at-found.result x.result c.node_at-found.ensures x.ensures
    c.if-is_file.false)
