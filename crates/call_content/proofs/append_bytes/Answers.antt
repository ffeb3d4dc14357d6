-- `append_bytes` meets its contract: refused by 1 or 2, or as `append_bytes_admitted` answers.
use Rattle.model.specs.Calls.{append}
use Rattle.call_answer.specs.Meets.{requested, stored}
use Rattle.call_answer.proofs.Admits.{not_admitted, admitted_given}
use Rattle.call_content.proofs.append_bytes.Goals as goal

pub returns-in-Err : goal.returns-in-Err
returns-in-Err c =
    let a = c.args in
    not_admitted a.listing.now (requested (append a.path.now a.mtime a.«data».now a.lent.now) a.limit a.work.now) (stored a.table.now a.rec) _ c.in-Err.ensures _ c.refused.ensures

pub append_bytes_admitted-requires-clause-given : goal.append_bytes_admitted-requires-clause-given
append_bytes_admitted-requires-clause-given c =
    let a = c.args in
    (admitted_given a.listing.now (requested (append a.path.now a.mtime a.«data».now a.lent.now) a.limit a.work.now) (stored a.table.now a.rec) c.in-Ok.ensures).0
