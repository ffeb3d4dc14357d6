-- `wrong_from` meets its contract: its turns are those of `check`, and each exit has its law.
use borrow.Author.Rules.{rules}
use native.Mathlib.Omega.{arith}
use Prim.Native.Nat.{◌+◌, ◌-◌}
use Rattle.run_script.proofs.Turns.{long, step_inside}
use Rattle.run_script.proofs.Wrongs.{at_head, told, at_step, told_on, behind}
use mathlib.Core.Path.{◌≡◌, ap}
use mathlib.Core.Bool.{not}
use Rattle.run_script.proofs.wrong_from.Goals as goal

pub returns-then-not-is_marked : goal.returns-then-not-is_marked
returns-then-not-is_marked c =
    let it = at_head c.args.script.now c.is_marked.ensures (ap not c.if-not-is_marked.true) in
    record { value = it.0; upper_bound = it.1.0; value_2 = it.1.1 }

pub is_two-two-requires : goal.is_two-two-requires
is_two-two-requires c =
    let l = long c.args.script.now c.is_marked.ensures (ap not c.if-not-is_marked.false) in
    omega arith

pub le32-count-requires : goal.le32-count-requires
le32-count-requires c = long c.args.script.now c.is_marked.ensures (ap not c.if-not-is_marked.false)

pub loop-step-init : goal.loop-step-init
loop-step-init c =
    let n = c.le32-count in
    let z : n.result - 0 ≡ n.result = omega arith in
    rw z (told c.args.script.now c.is_marked.ensures (ap not c.if-not-is_marked.false) c.is_two-two.ensures n.result n.ensures.0)

pub is_step-requires : goal.is_step-requires
is_step-requires c = c.loop-step.invariant.kept.inside

pub returns-then-not-is_step : goal.returns-then-not-is_step
returns-then-not-is_step c =
    let it = at_step c.loop-step.invariant (omega arith) c.is_step.ensures (ap not c.if-not-is_step.true) in
    record { value = it.0; upper_bound = it.1.0; value_2 = it.1.1 }

pub end_of-at-requires : goal.end_of-at-requires
end_of-at-requires c = (step_inside c.loop-step.invariant.kept (omega arith) c.is_step.ensures (ap not c.if-not-is_step.false)).0

pub loop-step-preserved : goal.loop-step-preserved
loop-step-preserved c =
    let count = c.le32-count.result in
    let i = c.loop-step._step in
    let d : count - (i + 1) ≡ count - i - 1 = omega arith in
    rw d (told_on c.loop-step.invariant (omega arith) c.is_step.ensures (ap not c.if-not-is_step.false) c.end_of-at.result c.end_of-at.ensures)

pub returns : goal.returns
returns c =
    let it = behind c.loop-step.invariant (search rules) in
    record { value = it.0; upper_bound = it.1.0; value_2 = it.1.1 }
