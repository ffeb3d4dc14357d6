-- `is_inside` meets its contract: one law for each exit.
use borrow.Author.Rules.{rules}
use Rattle.run_script.proofs.Steps.{no_head, by_end}
use Rattle.run_script.proofs.is_inside.Goals as goal

pub returns-then-at-step_head : goal.returns-then-at-step_head
returns-then-at-step_head c =
    let a = c.args in
    let h = c.step_head in
    let e = c.end_of in
    by_end a.two a.script.now a.at h.result h.ensures.0 (search rules) e.result e.ensures

pub returns-else-at-step_head : goal.returns-else-at-step_head
returns-else-at-step_head c =
    let a = c.args in
    let h = c.step_head in
    no_head a.two a.script.now a.at h.result h.ensures.0 (search rules)
