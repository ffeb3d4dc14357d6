-- What checks give: every refusal refuses, and where one check refuses it decides.
use mathlib.Core.Path.{◌≡◌, refl}
use mathlib.Core.Bool.{true, false}
use Rattle.model.specs.Checks.{Check, pass, refuse, ◌then◌}
use Rattle.model.specs.Answer.{told_refusal}
use Rattle.model.specs.declared.Refusal.{Refusal}
use Rattle.model.specs.declared.Refusal.TheVariants as refusal
use Rattle.model.proofs.Orders.{bot}
use Rattle.check_judged.specs.Judged.{as_check, refuses}

pub refusal_refuses : (r : Refusal) → refuses (as_check (told_refusal r)) ≡ true
refusal_refuses refusal.MalformedTable = refl
refusal_refuses refusal.MalformedListing = refl
refusal_refuses (refusal.MalformedPath p) = refl
refusal_refuses (refusal.LinkOrRoot p n) = refl
refusal_refuses (refusal.NotFound p n) = refl
refusal_refuses (refusal.Exists p n) = refl
refusal_refuses (refusal.NotADirectory p n) = refl
refusal_refuses (refusal.IsADirectory p n) = refl
refusal_refuses (refusal.NotEmpty p n) = refl
refusal_refuses (refusal.BelowSource n) = refl
refusal_refuses refusal.Limit = refl
refusal_refuses refusal.KeyTooLong = refl
refusal_refuses refusal.NoRoom = refl
refusal_refuses refusal.LentCount = refl
refusal_refuses refusal.RangeTooLarge = refl

-- where one check refuses, it decides; where it passes, the rest does
pub refused_stops : (c d : Check) → refuses c ≡ true → (c then d) ≡ c
refused_stops pass d h = absurd (bot (cc))
refused_stops (refuse n w k) d h = refl

pub passed_on : (c d : Check) → refuses c ≡ false → (c then d) ≡ d
passed_on pass d h = refl
passed_on (refuse n w k) d h = absurd (bot (cc))

-- what does not refuse passes
pub not_refused_passes : (c : Check) → refuses c ≡ false → c ≡ pass
not_refused_passes pass h = refl
not_refused_passes (refuse n w k) h = absurd (bot (cc))

pub refused_not_passed : (c : Check) → refuses c ≡ true → c ≡ pass → ⊥
refused_not_passed c h e = bot (cc)
