-- `listed_without_entry` meets its contract: each record that is no such child is passed, and so are the entries before
-- it.
use Prim.Native.Nat.{◌-◌}
use Rattle.model.specs.Table.{entries_at}
use Rattle.view_children.proofs.Searches.{Searching}
use Rattle.view_children.proofs.listed_without_entry.Given as goal

abbrev pub invariant-loop-i : goal.invariant-loop-i
invariant-loop-i l =
    Searching l.part l.table l.dir l.count (entries_at l.table l.initial.entries.left l.initial.entries.at) (l.count - l.i) l.at l.entries.left l.entries.at
