-- `skip` meets its contract: a record is passed for each that is still to be passed.
use Rattle.rename_walk.proofs.Stretches.{Skipping}
use Rattle.rename_walk.proofs.skip.Given as goal

abbrev pub invariant-loop : goal.invariant-loop
invariant-loop l = Skipping l.records l.n l.fn.place.left l.fn.place.at l.counter l.here.left l.here.at
