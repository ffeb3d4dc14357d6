-- `wrong_from` meets its contract: its turns are those of `check`, and each exit has its law.
use Rattle.run_script.proofs.Wrongs.{Told}
use Prim.Native.Nat.{◌-◌}
use Rattle.run_script.proofs.wrong_from.Given as goal

abbrev pub invariant-loop-step : goal.invariant-loop-step
invariant-loop-step l = Told l.two l.script (l.count - l._step) l.at
