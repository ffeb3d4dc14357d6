-- `has_visible_child` meets its contract: each entry that is no such child is passed.
use Prim.Native.Nat.{◌-◌}
use Rattle.table_below.proofs.Children.{Looking}
use Rattle.table_below.proofs.has_visible_child.Given as goal

abbrev pub invariant-loop-i : goal.invariant-loop-i
invariant-loop-i l = Looking l.part l.dir l.count (l.count - l.i) l.at
