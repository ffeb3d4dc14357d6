-- `kept_read::read` meets its contract: what the judge answers, and what the table buffer is left as.
use mathlib.Core.Path.{refl}
use Rattle.kept_read.proofs.Answers.{unchanged, done_framed, done_fits, done}
use Rattle.kept_read.proofs.read.Goals as goal

pub returns-in_err-content-clause-table_after : goal.returns-in_err-content-clause-table_after
returns-in_err-content-clause-table_after c =
    let a = c.args in
    unchanged a.file.now a.table.now (c.judge.ensures.result_value_2 _ refl) c.in_err-content.was

pub entries_part-requires : goal.entries_part-requires
entries_part-requires c =
    let a = c.args in
    done_framed a.file.now a.table.now (c.judge.ensures.result_value_2 _ refl) c.in_ok-content.was

pub fill-requires : goal.fill-requires
fill-requires c =
    let a = c.args in
    done_fits a.file.now a.table.now (c.judge.ensures.result_value_2 _ refl) c.in_ok-content.was c.entries_part.ensures

pub returns-clause-table_after : goal.returns-clause-table_after
returns-clause-table_after c =
    let a = c.args in
    done a.file.now a.table.now (c.judge.ensures.result_value_2 _ refl) c.in_ok-content.was c.entries_part.ensures c.fill.ensures
