-- `measure_deletions` meets its contract: each turn of the loop measures one deletion more.
use Rattle.rename_carried.specs.Streams.{remaining}
use Rattle.rename_measure.proofs.Deleting.{Deleting}
use Rattle.rename_measure.proofs.measure_deletions.Given as goal

abbrev pub invariant-loop-head : goal.invariant-loop-head
invariant-loop-head l = Deleting l.own l.part l.table l.source l.rec l.count l.records l.initial.stream l.flags l.place l.after l.stream

abbrev pub decreases-loop-head : goal.decreases-loop-head
decreases-loop-head l = remaining l.stream
