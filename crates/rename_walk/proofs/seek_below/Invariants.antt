-- `seek_below` meets its contract: a record before the directory with a slash is passed, and the first other one is where it ends.
use Rattle.rename_walk.specs.Stretch.{slashed}
use Rattle.rename_walk.proofs.Stretches.{Passing}
use Rattle.rename_walk.proofs.seek_below.Given as goal

abbrev pub invariant-loop-here : goal.invariant-loop-here
invariant-loop-here l = Passing l.records (slashed l.dir) l.initial.here.left l.initial.here.at l.here.left l.here.at

abbrev pub decreases-loop-here : goal.decreases-loop-here
decreases-loop-here l = l.here.left
