-- `advance` meets its contract: what was told is passed, and what else there is stays.
use Rattle.view_merge.proofs.Steps.{past_entry, past_record, past_both}
use Rattle.view_merge.proofs.advance.Goals as goal

pub returns-in-Entry-clause-merge_value : goal.returns-in-Entry-clause-merge_value
returns-in-Entry-clause-merge_value c =
    let a = c.args in
    let n = c.next_entry in
    (past_entry a.own.now a.part.now a.merge c.requires.merging a.head c.requires.next c.in-Entry.is n.result n.ensures.value n.ensures.standing_2).shows

pub returns-in-Record-clause-merge_value : goal.returns-in-Record-clause-merge_value
returns-in-Record-clause-merge_value c =
    let a = c.args in
    let n = c.next_record in
    (past_record a.own.now a.part.now a.merge c.requires.merging a.head c.requires.next c.in-Record.is n.result n.ensures.value n.ensures.standing_2).shows

pub returns-in-Both-clause-merge_value : goal.returns-in-Both-clause-merge_value
returns-in-Both-clause-merge_value c =
    let a = c.args in
    let n = c.next_entry-in-Both in
    let q = c.next_record-in-Both in
    (past_both a.own.now a.part.now a.merge c.requires.merging a.head c.requires.next c.in-Both.is
    n.result n.ensures.value n.ensures.standing_2 q.result q.ensures.value q.ensures.standing_2).shows
