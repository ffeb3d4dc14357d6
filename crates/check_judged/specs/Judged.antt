-- What a check answers in code, as a check of the definition.
use Rattle.std.specs.Prelude.{Bool, true, false, Result, Ok, Err}
use Rattle.model.specs.Checks.{Check, pass, refuse}
use Rattle.model.specs.Answer.{Reply, accepted, refused, told_refusal}
use Rattle.model.specs.declared.Refusal.{Refusal}

-- a reply that is accepted passes, one that is refused refuses with its numbers
abbrev pub as_check : Reply → Check
as_check (accepted v) = pass
as_check (refused n w k) = refuse n w k

-- whatever stands beside a pass
abbrev pub check_of : {A : Type 0} → Result A Refusal → Check
check_of (Ok x) = pass
check_of (Err r) = as_check (told_refusal r)

abbrev pub refuses : Check → Bool
refuses pass = false
refuses (refuse n w k) = true
