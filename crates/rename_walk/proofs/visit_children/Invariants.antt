-- `visit_children` meets its contract: each record is visited if it is a child without an entry, and the entries before it are passed.
use mathlib.Core.Option.{some}
use Prim.Native.Nat.{◌-◌}
use Rattle.model.specs.Table.{entries_at}
use Rattle.model.specs.Rename.{sum, visits, children}
use Rattle.listing_records.specs.Place.{tree_at}
use Rattle.rename_walk.proofs.Visitings.{Visiting}
use Rattle.rename_walk.proofs.visit_children.Given as goal

abbrev pub invariant-loop : goal.invariant-loop
invariant-loop l = Visiting l.records l.table l.dir (some l.budget.available) (entries_at l.table l.fn.place.left l.fn.place.at)
    (visits (some l.budget.available) (sum l.fn.total)
    (children (entries_at l.table l.fn.place.left l.fn.place.at) (tree_at l.records l.fn.stretch.count l.fn.stretch.at) l.dir))
    l.here.left (l.fn.stretch.count - l.counter) l.here.at l.entries.left l.entries.at (sum l.sum)
