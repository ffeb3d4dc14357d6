-- `advance` meets its contract: the stream that was told goes on, and the other one stays.
use Rattle.rename_carried.proofs.Steps.{went_past_entry, went_past_listed}
use Rattle.rename_carried.proofs.Items.{entry_there, listed_there}
use Rattle.rename_carried.proofs.advance.Goals as goal

pub next_entry-next-requires : goal.next_entry-next-requires
next_entry-next-requires c =
    let a = c.args in
    record { standing = c.requires.streaming.entries; left_nonzero = entry_there a.own.now a.part.now a.stream a.head c.requires.next c.in-Entry.is }

pub returns-in-Entry : goal.returns-in-Entry
returns-in-Entry c =
    let a = c.args in
    let n = c.next_entry-next in
    let u =
    went_past_entry a.own.now a.part.now a.table.now a.source.now a.flags.now a.stream c.requires.streaming
    a.head c.requires.next c.in-Entry.is n.result n.ensures.value n.ensures.standing_2 in
    record { result_bound = u.fewer; streaming_2 = u.streaming; carrying = u.carrying }

pub next_uncovered-next-requires : goal.next_uncovered-next-requires
next_uncovered-next-requires c =
    let a = c.args in
    record { ready_at = c.requires.streaming.listed; left_nonzero = listed_there a.own.now a.part.now a.stream a.head c.requires.next c.in-Listed.is }

pub returns-in-Listed : goal.returns-in-Listed
returns-in-Listed c =
    let a = c.args in
    let n = c.next_uncovered-next in
    let u =
    went_past_listed a.own.now a.part.now a.table.now a.source.now a.flags.now a.stream c.requires.streaming
    a.head c.requires.next c.in-Listed.is n.new.flags n.result n.ensures.ready_at_2
    n.ensures.left_lt_left n.ensures.ahead_at in
    record { result_bound = u.fewer; streaming_2 = u.streaming; carrying = u.carrying }
