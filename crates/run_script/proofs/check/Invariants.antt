-- `check` meets its contract: each turn of the loop is a step of the one pass, and each exit has its law.
use Rattle.run_script.proofs.Turns.{Kept}
use Prim.Native.Nat.{◌-◌}
use Rattle.run_script.proofs.check.Given as goal

abbrev pub invariant-loop-step : goal.invariant-loop-step
invariant-loop-step l = Kept l.two l.script (l.count - l._step) l.at
