-- One check after the other, as the calls make them: the first that refuses is the answer, and behind one that passes the next is.
use mathlib.Core.Path.{◌≡◌, refl, sym, ap, ◌∙◌}
use mathlib.Core.Bool.{Bool, true, false, cond}
use mathlib.Core.List.{[], ◌∷◌}
use native.Mathlib.Omega.{arith}
use lib.ListN.{length}
use Rattle.model.specs.Path.{Path}
use Rattle.model.specs.Tree.{Kind}
use Rattle.model.specs.Checks.{Check, pass, refuse, ◌then◌, not_root}
use Rattle.model.proofs.Orders.{bot}
use Rattle.std.specs.Prelude.{Result, IsErrAnd}
use Rattle.std.proofs.lemmas.Result.{err_from_is_err_and}
use Rattle.model.specs.declared.Refusal.{Refusal}
use Rattle.model.specs.Answer.{told_refusal}
use Rattle.check_judged.specs.Judged.{as_check, check_of}
use Rattle.check_judged.proofs.Checked.{refusal_refuses, refused_stops}

-- three in a row, grouped either way
pub then_assoc : (a b c : Check) → ((a then b) then c) ≡ (a then (b then c))
then_assoc pass b c = refl
then_assoc (refuse n w k) b c = refl

-- where the check c refuses it decides; r is the refusal that the code found
pub stops : (c d : Check) (r : Refusal) → as_check (told_refusal r) ≡ c → as_check (told_refusal r) ≡ (c then d)
stops c d r e = sym (refused_stops (as_check (told_refusal r)) d (refusal_refuses r)) ∙ ap (λ (x : Check). x then d) e

-- what a `?` answers, where r is what was refused
pub told_at : {A : Type 0} (r : Refusal) (j : Result A Refusal) → IsErrAnd j (λ y. y ≡ r) → check_of j ≡ as_check (told_refusal r)
told_at r j h = let p = err_from_is_err_and j h in ap check_of p.1 ∙ ap (λ (y : Refusal). as_check (told_refusal y)) p.2

-- the same check refuses there
pub stops_at : {A : Type 0} (c d : Check) (r : Refusal) (j : Result A Refusal) → IsErrAnd j (λ y. y ≡ r) → as_check (told_refusal r) ≡ c → check_of j ≡ (c then d)
stops_at c d r j h e = told_at r j h ∙ stops c d r e

-- where it passes, the rest decides
pub goes_on : (c d x : Check) → pass ≡ c → x ≡ d → x ≡ (c then d)
goes_on c d x h y = y ∙ ap (λ (z : Check). z then d) h

-- the next check asks for a kind, k as it was found and m as it is defined
pub goes_on_at : (c : Check) (at : Kind → Check) (k m : Kind) (x : Check) → pass ≡ c → x ≡ at k → k ≡ m → x ≡ (c then at m)
goes_on_at c at k m x h y z = goes_on c (at m) x h (y ∙ ap at z)

-- a test b decides between two checks, and r is what the code found of it
pub when : (b r : Bool) (c d : Check) → r ≡ b → r ≡ true → c ≡ cond b c d
when true r c d e h = refl
when false r c d e h = absurd (bot (cc))

pub otherwise : (b r : Bool) (c d : Check) → r ≡ b → r ≡ false → d ≡ cond b c d
otherwise true r c d e h = absurd (bot (cc))
otherwise false r c d e h = refl

-- the root is refused first
pub root_given : (p : Path) (d : Check) → length p ≡ 0 → refuse 4 0 0 ≡ (not_root 0 p then d)
root_given [] d h = refl
root_given (b ∷ p) d h = absurd (omega arith)

pub not_root_lem : (p : Path) (d x : Check) → (length p ≡ 0 → ⊥) → x ≡ d → x ≡ (not_root 0 p then d)
not_root_lem [] d x h e = absurd (h refl)
not_root_lem (b ∷ p) d x h e = e
