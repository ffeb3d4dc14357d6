-- `exists` meets its contract: as the checks refuse, or by what is visible.
use Rattle.std.proofs.Common.{ap, ◌∙◌, Bool}
use Rattle.model.specs.Answer.{accepted}
use Rattle.std.specs.Prelude.{cond}
use Rattle.model.specs.Calls as calls
use Rattle.call_queries.proofs.Asks.{told_yes, told_refused}
use Rattle.call_queries.proofs.exists.Goals as goal

pub returns-in_err-seen : goal.returns-in_err-seen
returns-in_err-seen c = told_refused _ _ c.from_residual.ensures.1 ∙ c.in_err-seen.ensures calls.exists

pub returns : goal.returns
returns c =
    told_yes c.is_there.result ∙ ap (λ (b : Bool). accepted (cond b 1 0)) c.is_there.ensures ∙ c.in_ok-seen.ensures calls.exists
