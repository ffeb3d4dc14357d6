-- `kept_read::sum_entries` meets its contract: each turn of the loop is a head of the counting pass, and each exit has
-- its law.
use Prim.Native.Nat.{◌-◌}
use lib.ListN.{length}
use Rattle.kept_read.proofs.Turns.{Kept}
use Rattle.kept_read.proofs.sum_entries.Given as goal

abbrev pub invariant-loop-at : goal.invariant-loop-at
invariant-loop-at l = Kept l.entry_size l.entries l.at l.count l.charge

abbrev pub decreases-loop-at : goal.decreases-loop-at
decreases-loop-at l = length l.entries - l.at
