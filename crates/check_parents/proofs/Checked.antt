-- What the check of the parents, or of the ancestors, gives at one ancestor.
use mathlib.Core.Path.{◌≡◌, refl, ap}
use mathlib.Core.Bool.{true, false, not}
use Prim.Native.Nat.{ℕ}
use Rattle.model.specs.Tree.{Kind, nothing, a_directory, a_file, a_link, is_nothing, is_directory}
use Rattle.model.specs.Answer.{told_refusal}
use Rattle.model.specs.declared.Refusal.{Refusal}
use Rattle.model.specs.Checks.{Check, pass, ◌then◌, parent_at, ancestor_at}
use Rattle.model.proofs.Orders.{bot}
use Rattle.check_judged.specs.Judged.{as_check, refuses}
use Rattle.check_judged.proofs.Checked.{refusal_refuses}

-- a directory is passed, at anything else the check of the parents ends
pub parent_passes : (w n : ℕ) (k : Kind) (c : Check) → is_directory k ≡ true → (parent_at w n k then c) ≡ c
parent_passes w n nothing c h = absurd (bot (cc))
parent_passes w n a_directory c h = refl
parent_passes w n a_file c h = absurd (bot (cc))
parent_passes w n a_link c h = absurd (bot (cc))

pub parent_stops : (w n : ℕ) (k : Kind) (c : Check) → is_directory k ≡ false → (parent_at w n k then c) ≡ parent_at w n k
parent_stops w n nothing c h = refl
parent_stops w n a_directory c h = absurd (bot (cc))
parent_stops w n a_file c h = refl
parent_stops w n a_link c h = refl

-- so a parent that passes is a directory, and one that is refused is none
pub passed_is_directory : (w n : ℕ) (k : Kind) → pass ≡ parent_at w n k → is_directory k ≡ true
passed_is_directory w n nothing h = absurd (bot (cc))
passed_is_directory w n a_directory h = refl
passed_is_directory w n a_file h = absurd (bot (cc))
passed_is_directory w n a_link h = absurd (bot (cc))

pub refused_is_none : (w n : ℕ) (k : Kind) (r : Refusal) → as_check (told_refusal r) ≡ parent_at w n k → is_directory k ≡ false
refused_is_none w n nothing r h = refl
refused_is_none w n a_directory r h = absurd (bot (cc (ap refuses h, refusal_refuses r)))
refused_is_none w n a_file r h = refl
refused_is_none w n a_link r h = refl

-- an ancestor that does not refuse is a directory or nothing
pub passed_nothing : (k n : ℕ) (x : Kind) → refuses (ancestor_at k n x) ≡ false → not (is_directory x) ≡ is_nothing x
passed_nothing k n nothing h = refl
passed_nothing k n a_directory h = refl
passed_nothing k n a_file h = absurd (bot (cc))
passed_nothing k n a_link h = absurd (bot (cc))
