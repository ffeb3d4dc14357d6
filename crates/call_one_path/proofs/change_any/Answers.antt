-- `change_any` meets its contract: refused by 1 or 2, or as `change_admitted` answers.
use Rattle.call_answer.specs.Meets.{requested, stored}
use Rattle.call_answer.proofs.Admits.{not_admitted, admitted_given}
use Rattle.call_one_path.specs.Called.{call_of}
use Rattle.call_one_path.proofs.change_any.Goals as goal

pub returns-in-Err : goal.returns-in-Err
returns-in-Err c =
    let a = c.args in
    not_admitted a.listing.now (requested (call_of a.change a.path.now a.mtime a.«data».now) a.limit a.work.now) (stored a.table.now a.rec) _ c.in-Err.ensures _ c.refused.ensures

pub change_admitted-requires-clause-given : goal.change_admitted-requires-clause-given
change_admitted-requires-clause-given c =
    let a = c.args in
    (admitted_given a.listing.now (requested (call_of a.change a.path.now a.mtime a.«data».now) a.limit a.work.now) (stored a.table.now a.rec) c.in-Ok.ensures).0
