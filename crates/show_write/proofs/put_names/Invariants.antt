-- `put_names` meets its contract: each turn of the loop writes the name of what is next, if it has one; zeros follow.
use Rattle.view_merge.specs.Merges.{remaining}
use Rattle.show_write.proofs.Measures.{Putting}
use Rattle.show_write.proofs.put_names.Given as goal

abbrev pub invariant-loop-head : goal.invariant-loop-head
invariant-loop-head l = Putting l.initial.output l.own l.part l.dir l.initial.merge l.merge l.output l.at

abbrev pub decreases-loop-head : goal.decreases-loop-head
decreases-loop-head l = remaining l.merge
