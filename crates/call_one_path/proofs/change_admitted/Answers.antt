-- `change_admitted` meets its contract: refused by its checks, or as the insertion of its entry answers.
use Rattle.call_one_path.proofs.Changes.{call_refused, call_fields, call_inserted}
use Rattle.call_one_path.proofs.change_admitted.Goals as goal

pub returns-in-Err : goal.returns-in-Err
returns-in-Err c =
    let a = c.args in
    call_refused a.listing.now a.table.now a.rec a.work.now a.path.now a.change a.mtime a.«data».now a.limit c.requires.given c.requires.table_in_bounds
    _ c.in-Err.ensures.result_value _ c.refused.ensures

pub insert-inserted-requires-clause-written : goal.insert-inserted-requires-clause-written
insert-inserted-requires-clause-written c =
    let a = c.args in
    let k = c.kind_put-kind in
    (call_fields a.listing.now a.table.now a.rec a.work.now a.path.now a.change a.mtime a.«data».now a.limit c.requires.given c.requires.table_in_bounds c.requires.data_value k.result k.ensures, c.requires.table_in_bounds)

pub returns-in-Ok : goal.returns-in-Ok
returns-in-Ok c =
    let a = c.args in
    let k = c.kind_put-kind in
    let x = c.insert-inserted in
    call_inserted a.listing.now a.table.now a.rec a.work.now a.path.now a.change a.mtime a.«data».now a.limit c.requires.given c.requires.table_in_bounds c.requires.data_value k.result k.ensures
    c.in-Ok.ensures.result_value x.result x.ensures.value x.new.table x.new.work x.ensures.table_after x.ensures.work_after _ c.answered.ensures
