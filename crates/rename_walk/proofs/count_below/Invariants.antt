-- `count_below` meets its contract: each record below the directory counts, up to the first that is not.
use Rattle.rename_walk.proofs.Stretches.{Counting}
use Rattle.rename_walk.proofs.count_below.Given as goal

abbrev pub invariant-loop-here : goal.invariant-loop-here
invariant-loop-here l = Counting l.records l.dir l.initial.here.left l.initial.here.at l.here.left l.here.at l.n

abbrev pub decreases-loop-here : goal.decreases-loop-here
decreases-loop-here l = l.here.left
