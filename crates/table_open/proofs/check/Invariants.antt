-- `table_open::check` meets its contract: each turn of the loop is an entry of the one pass, each exit has its law, and the pass gives
-- `is_table`, since what stands in a slice of bytes is below 256.
use Prim.Native.Nat.{◌-◌}
use Rattle.table_open.proofs.Turns.{Kept}
use Rattle.table_open.proofs.check.Given as goal

abbrev pub invariant-loop-i : goal.invariant-loop-i
invariant-loop-i l = Kept l.table l.rec (l.rec.count - l._i) l.at l.from l.to l.charge
