-- `run` meets its contract: one law for each exit.
use Rattle.call_answer.specs.Meets.{stored}
use Rattle.run_calls.proofs.Results.{head_long, short, finished}
use Rattle.run_calls.proofs.run.Goals as goal

pub has_rows-requires : goal.has_rows-requires
has_rows-requires c =
    let a = c.args in
    head_long a.listing.now (stored a.table.now a.rec) a.work.now a.script.now a.report.now c.check.ensures c.if-not-check.false

pub returns-then-not-has_rows : goal.returns-then-not-has_rows
returns-then-not-has_rows c =
    let a = c.args in
    short a.listing.now (stored a.table.now a.rec) a.work.now a.script.now a.report.now
    c.check.ensures c.if-not-check.false c.has_rows.ensures c.if-not-has_rows.true

pub returns : goal.returns
returns c =
    let a = c.args in
    let x = c.run_steps in
    finished a.listing.now (stored a.table.now a.rec) a.work.now a.script.now a.report.now
    c.check.ensures c.if-not-check.false c.has_rows.ensures c.if-not-has_rows.false x.result x.ensures
