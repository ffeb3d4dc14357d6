-- `append_bytes_admitted` meets its contract: refused by its checks, or as the insertion answers.
use Rattle.call_content.proofs.Calls.{append_refused, append_count, append_inserted}
use Rattle.call_content.proofs.append_bytes_admitted.Goals as goal

pub returns-in-Err : goal.returns-in-Err
returns-in-Err c =
    let a = c.args in
    append_refused a.listing.now a.table.now a.rec a.work.now a.path.now a.mtime a.limit c.requires.given c.requires.table_in_bounds a.«data».now a.lent.now
    _ c.in-Err.ensures.result_value _ c.refused.ensures

pub returns-in-Ok : goal.returns-in-Ok
returns-in-Ok c =
    let a = c.args in
    let u = c.in-Ok.ensures.result_value in
    let i = c.insert_appended-inserted in
    let n = append_count a.listing.now a.table.now a.rec a.work.now a.path.now a.mtime a.limit c.requires.given c.requires.table_in_bounds a.«data».now a.lent.now u in
    append_inserted a.listing.now a.table.now a.rec a.work.now a.path.now a.mtime a.limit c.requires.given c.requires.table_in_bounds a.«data».now a.lent.now u
    i.result i.new.table i.new.work (i.ensures a.listing.now n) _ c.answered.ensures
