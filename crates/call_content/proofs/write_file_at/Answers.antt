-- `write_file_at` meets its contract: refused by 1 or 2, or as `write_file_at_admitted` answers.
use Rattle.model.specs.Calls.{write_inside}
use Rattle.call_answer.specs.Meets.{requested, stored}
use Rattle.call_answer.proofs.Admits.{not_admitted, admitted_given}
use Rattle.call_content.proofs.write_file_at.Goals as goal

pub returns-in-Err : goal.returns-in-Err
returns-in-Err c =
    let a = c.args in
    not_admitted a.listing.now (requested (write_inside a.path.now a.mtime a.offset a.«data».now) a.limit a.work.now) (stored a.table.now a.rec) _ c.in-Err.ensures _ c.refused.ensures

pub write_file_at_admitted-requires-clause-given : goal.write_file_at_admitted-requires-clause-given
write_file_at_admitted-requires-clause-given c =
    let a = c.args in
    (admitted_given a.listing.now (requested (write_inside a.path.now a.mtime a.offset a.«data».now) a.limit a.work.now) (stored a.table.now a.rec) c.in-Ok.ensures).0
