-- `inside_judge` meets its contract: 3, then the checks.
use mathlib.Core.Path.{refl}
use mathlib.Core.List.{[]}
use lib.ListN.{replicate, length-replicate}
use Rattle.model.specs.Checks.{form}
use Rattle.model.specs.Content.{inside_checks}
use Rattle.model.specs.Outcome.{shown_in}
use Rattle.check_judged.specs.Judged.{check_of}
use Rattle.check_judged.proofs.Thens.{goes_on}
use Rattle.call_answer.proofs.Keys.{by_checks}
use Rattle.call_content.proofs.inside_judge.Goals as goal

pub returns-clause-result_value : goal.returns-clause-result_value
returns-clause-result_value c =
    let a = c.args in
    λ l d z.
    goes_on (form 0 a.path.now) (inside_checks (shown_in l a.table.now a.rec) a.path.now a.offset d) _
    c.in_ok-check_path.ensures (c.inside_checks.ensures l d z)

pub returns-clause-path_value : goal.returns-clause-path_value
returns-clause-path_value c =
    let a = c.args in
    let d = replicate a.added 0 in
    (by_checks a.path.now (λ q. inside_checks (shown_in [] a.table.now a.rec) q a.offset d) refl c.in_ok-check_path.ensures
    (check_of c.inside_checks.result) (c.inside_checks.ensures [] d (length-replicate a.added 0))).1
