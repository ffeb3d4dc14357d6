-- `mkdir` meets its contract: refused by 1 or 2, or as `mkdir_admitted` answers.
use Rattle.model.specs.Calls.{mkdir}
use Rattle.call_answer.specs.Meets.{requested, stored}
use Rattle.call_answer.proofs.Admits.{not_admitted, admitted_given}
use Rattle.call_mkdir.proofs.mkdir.Goals as goal

pub returns-in-Err : goal.returns-in-Err
returns-in-Err c =
    let a = c.args in
    not_admitted a.listing.now (requested (mkdir a.path.now a.parents a.exist_ok a.mtime) a.limit a.work.now) (stored a.table.now a.rec) _ c.in-Err.ensures _ c.refused.ensures

pub mkdir_admitted-requires-clause-given : goal.mkdir_admitted-requires-clause-given
mkdir_admitted-requires-clause-given c =
    let a = c.args in
    (admitted_given a.listing.now (requested (mkdir a.path.now a.parents a.exist_ok a.mtime) a.limit a.work.now) (stored a.table.now a.rec) c.in-Ok.ensures).0
