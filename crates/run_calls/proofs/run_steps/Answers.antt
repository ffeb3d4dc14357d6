-- `run_steps` meets its contract: each turn of the loop makes one step, and what is left of the script leaves what the whole does.
use native.Mathlib.Omega.{arith}
use Rattle.run_calls.proofs.Loops.{script_long, step_stands, on, over}
use Rattle.run_calls.proofs.run_steps.Goals as goal

pub le32-count-requires : goal.le32-count-requires
le32-count-requires c = script_long c.args.script.now c.requires.script_value

pub run_step-answered-requires : goal.run_step-answered-requires
run_step-answered-requires c = step_stands c.loop.invariant (omega (arith, c.loop-test.true))

pub end_of-place-requires : goal.end_of-place-requires
end_of-place-requires c = (step_stands c.loop.invariant (omega (arith, c.loop-test.true))).0

pub loop-preserved : goal.loop-preserved
loop-preserved c =
    let p = c.put_row in
    let s = c.run_step-answered in
    on c.loop.invariant (omega (arith, c.loop-test.true)) s.ensures p.ensures s.auto.table s.auto.work p.auto.report
    _ (omega arith) c.end_of-place.result c.end_of-place.ensures

pub returns : goal.returns
returns c = over c.loop.invariant (omega (arith, c.loop-test.false))
