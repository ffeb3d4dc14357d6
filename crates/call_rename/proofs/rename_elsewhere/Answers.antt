-- `rename_elsewhere` meets its contract: refused by the checks of both paths, the plan or the walk, by 11, 12 or 13, or written anew.
use Rattle.std.proofs.Common.{refl}
use Rattle.view_at.specs.Sight.{visible_kind}
use Rattle.call_rename.proofs.Verdicts.{move_refused, paths, early, source_kind, settled_refused, settled_fits, settled_done}
use Rattle.call_rename.proofs.rename_elsewhere.Goals as goal

pub judge_move-requires-clause-source_value : goal.judge_move-requires-clause-source_value
judge_move-requires-clause-source_value c =
    let a = c.args in
    paths a.listing.now a.table.now a.rec a.work.now a.source.now a.destination.now a.limit c.requires.given c.requires.table_in_bounds
    c.requires.destination_value c.requires.destination_value_2

pub returns-in-Err : goal.returns-in-Err
returns-in-Err c =
    let a = c.args in
    move_refused a.listing.now a.table.now a.rec a.work.now a.source.now a.destination.now a.limit c.requires.given c.requires.table_in_bounds
    c.requires.destination_value c.requires.destination_value_2 _ c.in-Err.ensures _ c.refused.ensures

pub last_checks-requires-clause-source_value : goal.last_checks-requires-clause-source_value
last_checks-requires-clause-source_value c =
    let a = c.args in
    paths a.listing.now a.table.now a.rec a.work.now a.source.now a.destination.now a.limit c.requires.given c.requires.table_in_bounds
    c.requires.destination_value c.requires.destination_value_2

pub last_checks-requires-clause-early_passed : goal.last_checks-requires-clause-early_passed
last_checks-requires-clause-early_passed c =
    let a = c.args in
    early a.listing.now a.table.now a.rec a.work.now a.source.now a.destination.now a.limit c.requires.given c.requires.table_in_bounds
    c.requires.destination_value c.requires.destination_value_2 c.in_default.ensures

pub last_checks-requires-clause-source_value_2 : goal.last_checks-requires-clause-source_value_2
last_checks-requires-clause-source_value_2 c =
    let a = c.args in
    source_kind a.listing.now a.table.now a.rec a.work.now a.source.now a.destination.now a.limit c.requires.given c.requires.table_in_bounds
    c.requires.destination_value c.requires.destination_value_2 c.in_default.ensures
    (visible_kind c.visible_at.result) c.visible_at.ensures c.is_directory-whole.result c.is_directory-whole.ensures

pub write_move-requires-clause-early_passed : goal.write_move-requires-clause-early_passed
write_move-requires-clause-early_passed c =
    let a = c.args in
    early a.listing.now a.table.now a.rec a.work.now a.source.now a.destination.now a.limit c.requires.given c.requires.table_in_bounds
    c.requires.destination_value c.requires.destination_value_2 c.in_default.ensures

pub write_move-requires-clause-source_value : goal.write_move-requires-clause-source_value
write_move-requires-clause-source_value c =
    let a = c.args in
    source_kind a.listing.now a.table.now a.rec a.work.now a.source.now a.destination.now a.limit c.requires.given c.requires.table_in_bounds
    c.requires.destination_value c.requires.destination_value_2 c.in_default.ensures
    (visible_kind c.visible_at.result) c.visible_at.ensures c.is_directory-whole.result c.is_directory-whole.ensures

pub write_move-requires-clause-source_value_2 : goal.write_move-requires-clause-source_value_2
write_move-requires-clause-source_value_2 c =
    let a = c.args in
    (settled_fits a.listing.now a.table.now a.rec a.work.now a.source.now a.destination.now a.limit c.requires.given c.requires.table_in_bounds
    c.requires.destination_value c.requires.destination_value_2 c.in_default.ensures c.in-Ok.ensures.result_value).0

pub write_move-requires-clause-destination_in_bounds : goal.write_move-requires-clause-destination_in_bounds
write_move-requires-clause-destination_in_bounds c =
    let a = c.args in
    (settled_fits a.listing.now a.table.now a.rec a.work.now a.source.now a.destination.now a.limit c.requires.given c.requires.table_in_bounds
    c.requires.destination_value c.requires.destination_value_2 c.in_default.ensures c.in-Ok.ensures.result_value).1

pub returns-in-Err-last_checks : goal.returns-in-Err-last_checks
returns-in-Err-last_checks c =
    let a = c.args in
    settled_refused a.listing.now a.table.now a.rec a.work.now a.source.now a.destination.now a.limit c.requires.given c.requires.table_in_bounds
    c.requires.destination_value c.requires.destination_value_2 c.in_default.ensures _ c.in-Err-last_checks.ensures.result_value _ c.refused-in-Err-last_checks.ensures

pub returns-in-Ok : goal.returns-in-Ok
returns-in-Ok c =
    let a = c.args in
    settled_done a.listing.now a.table.now a.rec a.work.now a.source.now a.destination.now a.limit c.requires.given c.requires.table_in_bounds
    c.requires.destination_value c.requires.destination_value_2 c.in_default.ensures c.in-Ok.ensures.result_value _ (c.in-Ok.ensures.after_value _ refl) c.write_move.new.table c.write_move.new.work
    c.write_move.ensures.table_after c.write_move.ensures.work_after
