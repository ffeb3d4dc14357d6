-- `check` meets its contract: each turn of the loop is a step of the one pass, and each exit has its law.
use borrow.Author.Rules.{rules}
use native.Mathlib.Omega.{arith}
use Prim.Native.Nat.{◌+◌, ◌-◌}
use Rattle.run_script.proofs.Turns.{not_marked, long, started, no_step, step_inside, kept_on, finished}
use mathlib.Core.Path.{◌≡◌, ap}
use mathlib.Core.Bool.{not}
use Rattle.run_script.proofs.check.Goals as goal

pub returns-then-not-is_marked : goal.returns-then-not-is_marked
returns-then-not-is_marked c = not_marked c.args.script.now c.is_marked.ensures (ap not c.if-not-is_marked.true)

pub is_two-two-requires : goal.is_two-two-requires
is_two-two-requires c =
    let l = long c.args.script.now c.is_marked.ensures (ap not c.if-not-is_marked.false) in
    omega arith

pub le32-count-requires : goal.le32-count-requires
le32-count-requires c = long c.args.script.now c.is_marked.ensures (ap not c.if-not-is_marked.false)

pub loop-step-init : goal.loop-step-init
loop-step-init c =
    let n = c.le32-count in
    let z : n.result - 0 ≡ n.result = omega arith in
    rw z (started c.args.script.now c.is_marked.ensures (ap not c.if-not-is_marked.false) c.is_two-two.ensures n.result n.ensures.0)

pub is_step-requires : goal.is_step-requires
is_step-requires c = c.loop-step.invariant.inside

pub returns-then-not-is_step : goal.returns-then-not-is_step
returns-then-not-is_step c = no_step c.loop-step.invariant (omega arith) c.is_step.ensures (ap not c.if-not-is_step.true)

pub end_of-at-requires : goal.end_of-at-requires
end_of-at-requires c = (step_inside c.loop-step.invariant (omega arith) c.is_step.ensures (ap not c.if-not-is_step.false)).0

pub loop-step-preserved : goal.loop-step-preserved
loop-step-preserved c =
    let count = c.le32-count.result in
    let i = c.loop-step._step in
    let d : count - (i + 1) ≡ count - i - 1 = omega arith in
    rw d (kept_on c.loop-step.invariant (omega arith) c.is_step.ensures (ap not c.if-not-is_step.false) c.end_of-at.result c.end_of-at.ensures)

pub returns : goal.returns
returns c = finished c.loop-step.invariant (search rules)
