-- `put_all` meets its contract: each turn of the loop puts one entry, which the step makes of the item that is next.
use Rattle.model.specs.Path.{Path}
use Rattle.model.specs.Tree.{Entry}
use Rattle.rename_carried.specs.Streams.{remaining}
use Rattle.rename_write.specs.Stretch.{Puts}
use Rattle.rename_write.proofs.Loops.{Going}
use Rattle.rename_write.proofs.put_all.Given as goal

abbrev pub invariant-loop-head : goal.invariant-loop-head
invariant-loop-head g l =
    (k : Path × Entry → Path × Entry) → Puts (goal.F-post g l.step) k l.table l.own l.part
    → Going k l.table l.initial.work l.own l.part l.source l.initial.flags l.initial.stream l.initial.next l.flags l.work l.next l.stream

abbrev pub decreases-loop-head : goal.decreases-loop-head
decreases-loop-head g l = remaining l.stream
