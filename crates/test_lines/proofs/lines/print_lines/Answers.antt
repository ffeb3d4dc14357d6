-- `lines::print_lines` meets its contract and ends: only a line that could not be printed gives an error. The measure is how
-- many entries and records are to come.
use native.Mathlib.Omega.{arith}
use Rattle.view_merge.proofs.Told.{is_left}
use Rattle.test_lines.proofs.lines.print_lines.Goals as goal

pub returns-in_err-line : goal.returns-in_err-line
returns-in_err-line g c =
    let a = c.args in
    let n = is_left a.own.now a.part.now c.loop-head.merge _ (c.head_at.ensures.next _ c.in-Some.is) in
    let m = c.loop-head.invariant.1 in
    λ h. absurd (omega arith)
