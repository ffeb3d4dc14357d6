-- What the code of #105 answers, in terms of the definition; and what its parts know before they answer.
use Rattle.std.specs.Prelude.{◌≡◌, cond, ℕ, max, ◌≤◌, leb, length, Option, Some, None, Result, Ok, Err}
use Rattle.std.proofs.Math.Option.{none, some}
use Rattle.model.specs.Bytes.{Bytes}
use Rattle.model.specs.Path.{Path}
use Rattle.model.specs.Tree.{Table, Tree}
use Rattle.model.specs.Table.{encode}
use Rattle.model.specs.Checks.{Check, pass}
use Rattle.model.specs.Calls.{Call, rename, changed}
use Rattle.model.specs.Answer.{Reply, accepted, told_refusal}
use Rattle.model.specs.Outcome.{Store}
use Rattle.check_judged.specs.Judged.{as_check}
use Rattle.rename_measure.specs.declared.Projected.{Projected}
use Rattle.least_need.specs.Need.{need, other_rules}
use Rattle.least_need.specs.Least.{IsReport, report_checks}
use Rattle.model.specs.declared.Refusal.{Refusal}
use Rattle.least_rename.specs.declared.Least.{Least}

-- the answer is what is to be reported of the call; 1, 2 and 3 refuse it
abbrev pub Reports : Bytes → Store → Call → Result (Option Least) Refusal → Type 0
Reports listing s c (Ok (Some x)) = (report_checks listing s c ≡ pass) × IsReport listing s c (some (x.limit, x.len))
Reports listing s c (Ok None) = (report_checks listing s c ≡ pass) × IsReport listing s c none
Reports listing s c (Err x) = report_checks listing s c ≡ as_check (told_refusal x)

-- what is told of it: 1 where there are the two numbers, 0 where there are none
abbrev pub told_report : Result (Option Least) Refusal → Reply
told_report (Ok (Some x)) = accepted 1
told_report (Ok None) = accepted 0
told_report (Err x) = told_refusal x

-- a check that has no limit passes, and with one it would need n; or it does not pass
abbrev pub NeededFor : Check → ℕ → Option ℕ → Type 0
NeededFor x n (Some m) = (x ≡ pass) × (m ≡ n)
NeededFor x n None = x ≡ pass → ⊥

-- no more than n
abbrev pub AtMost : ℕ → Option ℕ → Type 0
AtMost n (Some m) = m ≤ n
AtMost n None = Unit {0}

-- the numbers by what was measured: m is what plan and walk need, `used` the bytes used before
abbrev pub report_of : ℕ → Projected → ℕ → Option Least
report_of m p used =
    cond p.long None
    (cond (leb p.rec.used 16777216) (Some (record { limit = max m p.charge; len = max used p.rec.used })) None)

-- the bytes used after a rename
abbrev pub used_after : Table → Tree → Path → Path → ℕ
used_after t l a b = length (encode (changed t l (rename a b)))

-- what is known of a rename whose paths are in form, `used` being the bytes used before
abbrev pub Known : ℕ → Table → Tree → Path → Path → ℕ → Option Least → Type 0
Known E t l a b used (Some x) =
    (other_rules t l (rename a b) ≡ pass) × (used_after t l a b ≤ 16777216) × (x.limit ≡ need E t l (rename a b))
    × (x.len ≡ max used (used_after t l a b)) × (x.limit ≤ 0xFFFF_FFFF_FFFF_FFFF)
Known E t l a b used None = other_rules t l (rename a b) ≡ pass → used_after t l a b ≤ 16777216 → ⊥
