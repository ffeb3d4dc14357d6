-- `run_steps` meets its contract: each turn of the loop makes one step, and what is left of the script leaves what the whole does.
use Prim.Native.Nat.{◌-◌}
use Rattle.call_answer.specs.Meets.{stored}
use Rattle.run_script.specs.Script.{steps_in}
use Rattle.run_calls.specs.Runs.{left_after}
use Rattle.run_calls.proofs.Loops.{Going}
use Rattle.run_calls.proofs.run_steps.Given as goal

abbrev pub invariant-loop : goal.invariant-loop
invariant-loop l = Going l.listing l.script l.two (left_after l.listing (steps_in l.script) (stored l.initial.table l.initial.last) l.initial.work) l.initial.table l.initial.work l.initial.report (l.count - l.counter) l.place l.row l.table l.work l.report l.last
