-- `measure_moves` meets its contract: each turn of the loop counts one moved entry more.
use mathlib.Core.Path.{◌≡◌}
use lib.ListN.{length}
use Rattle.model.specs.Tree.{Entry}
use Rattle.model.specs.Table.{body_of}
use Rattle.rename_carried.specs.Streams.{remaining}
use Rattle.rename_measure.proofs.Moving.{Moving}
use Rattle.rename_measure.proofs.measure_moves.Given as goal

abbrev pub invariant-loop-head : goal.invariant-loop-head
invariant-loop-head l = (e : Entry) → length (body_of e) ≡ l.first_len → Moving l.own l.part l.table l.source l.destination e l.rec l.count l.records l.initial.stream l.flags l.tally l.stream

abbrev pub decreases-loop-head : goal.decreases-loop-head
decreases-loop-head l = remaining l.stream
