-- `rename` meets its contract: refused by 1 or 2, or as `rename_admitted` answers.
use Rattle.model.specs.Calls.{rename}
use Rattle.call_answer.specs.Meets.{requested, stored}
use Rattle.call_answer.proofs.Admits.{not_admitted, admitted_given}
use Rattle.call_rename.proofs.rename.Goals as goal

pub returns-in-Err : goal.returns-in-Err
returns-in-Err c =
    let a = c.args in
    not_admitted a.listing.now (requested (rename a.source.now a.destination.now) a.limit a.work.now) (stored a.table.now a.rec) _ c.in-Err.ensures _ c.refused.ensures

pub rename_admitted-requires-clause-given : goal.rename_admitted-requires-clause-given
rename_admitted-requires-clause-given c =
    let a = c.args in
    (admitted_given a.listing.now (requested (rename a.source.now a.destination.now) a.limit a.work.now) (stored a.table.now a.rec) c.in-Ok.ensures).0
