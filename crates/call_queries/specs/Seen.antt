-- What a query answers by what is visible at its path.
use Rattle.std.specs.Prelude.{cond, Result, Ok, Err, Option}
use Rattle.model.specs.Calls.{Query, says}
use Rattle.model.specs.Answer.{Reply, accepted, told_refusal}
use Rattle.model.specs.declared.Refusal.{Refusal}
use Rattle.view_at.specs.Sight.{visible_kind}
use Rattle.view_at.specs.declared.Visible.{Visible}

-- 1 or 0 for yes or no, or as the checks refuse
abbrev pub told_seen : Query → Result (Option Visible) Refusal → Reply
told_seen q (Ok v) = accepted (cond (says q (visible_kind v)) 1 0)
told_seen q (Err r) = told_refusal r
