-- `measure_names` meets its contract: each turn of the loop counts the name of what is next, if it has one.
use Rattle.view_merge.specs.Merges.{remaining}
use Rattle.show_write.proofs.Measures.{Summing}
use Rattle.show_write.proofs.measure_names.Given as goal

abbrev pub invariant-loop-head : goal.invariant-loop-head
invariant-loop-head l = Summing l.own l.part l.dir l.initial.merge l.merge l.sum

abbrev pub decreases-loop-head : goal.decreases-loop-head
decreases-loop-head l = remaining l.merge
