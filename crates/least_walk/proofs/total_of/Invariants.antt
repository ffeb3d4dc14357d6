-- `total_of` meets its contract: each turn of the loop adds one node that is uncovered.
use Rattle.least_walk.proofs.Adding.{Adding}
use Rattle.least_walk.proofs.total_of.Given as goal

abbrev pub invariant-loop-here : goal.invariant-loop-here
invariant-loop-here l = Adding l.part l.table l.source l.count l.initial.flags l.initial.here l.flags l.sum l.stops l.here

abbrev pub decreases-loop-here : goal.decreases-loop-here
decreases-loop-here l = l.here.left
