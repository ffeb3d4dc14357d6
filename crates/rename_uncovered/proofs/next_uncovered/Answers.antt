-- `next_uncovered` meets its contract: the search goes on behind the record that the cursor stands at.
use Rattle.rename_uncovered.proofs.Passes.{ready_next, fewer_next, ahead_next}
use Rattle.rename_uncovered.proofs.next_uncovered.Goals as goal

pub next_record-next-requires : goal.next_record-next-requires
next_record-next-requires c = record { standing = c.requires.ready_at.stand; left_nonzero = c.requires.left_nonzero }

pub seek_uncovered-requires : goal.seek_uncovered-requires
seek_uncovered-requires c =
    let a = c.args in
    let k = a.cursor in
    let n = c.next_record-next in
    ready_next a.part.now a.table.now a.source.now a.flags.now k.left k.at k.place.left k.place.at
    c.requires.ready_at c.requires.left_nonzero n.result n.ensures.value

pub returns : goal.returns
returns c =
    let a = c.args in
    let k = a.cursor in
    let n = c.next_record-next in
    let r = c.seek_uncovered.result in
    let s = c.seek_uncovered.ensures in
    record {
      ready_at_2 = s.ready_at;
      left_lt_left = fewer_next a.part.now a.table.now a.source.now a.flags.now k.left k.at k.place.left k.place.at
          c.requires.ready_at c.requires.left_nonzero n.result n.ensures.value r.left s.left_le_left;
      ahead_at = ahead_next a.part.now a.table.now a.source.now a.flags.now k.left k.at k.place.left k.place.at
          c.requires.ready_at c.requires.left_nonzero n.result n.ensures.value c.seek_uncovered.new.flags r.left r.at r.place.left r.place.at s.ahead_at;
    }
