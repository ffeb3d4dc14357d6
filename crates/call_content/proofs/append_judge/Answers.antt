-- `append_judge` meets its contract: 3, the checks, then the budget.
use mathlib.Core.Path.{refl}
use lib.ListN.{length}
use Rattle.model.specs.Table.{table_in}
use Rattle.model.specs.Checks.{form, limited}
use Rattle.model.specs.Content.{appended, append_checks, append_memory}
use Rattle.model.specs.Outcome.{shown_in}
use Rattle.check_judged.proofs.Thens.{goes_on}
use Rattle.call_answer.proofs.Keys.{is_path_lem}
use Rattle.call_content.specs.Judged.{append_behind}
use Rattle.call_content.proofs.Judges.{appended_length}
use Rattle.call_content.proofs.append_judge.Goals as goal

pub append_checks-requires-clause-path_value : goal.append_checks-requires-clause-path_value
append_checks-requires-clause-path_value c = is_path_lem c.args.path.now c.in_ok-check_path.ensures

pub returns-clause-result_value : goal.returns-clause-result_value
returns-clause-result_value c =
    let a = c.args in
    let p = a.path.now in
    let d = a.«data».now in
    let n = a.lent.now in
    let v = shown_in a.listing.now a.table.now a.rec in
    let m = append_memory (limited a.rec.entry_size a.limit) (table_in a.table.now a.rec) (v p) (length (appended (v p) d n)) in
    let x = c.in_ok-append_checks.ensures n refl in
    goes_on (form 0 p) (append_behind a.listing.now a.table.now a.rec a.limit d n p) _ c.in_ok-check_path.ensures
    (goes_on (append_checks v p n) m _ x
    (c.append_memory.ensures a.listing.now (length (appended (v p) d n)) (appended_length v p d n x)))
