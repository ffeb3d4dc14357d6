-- `seek` meets its contract: a record whose path is before the path is passed, and the first other one is where it ends.
use Prim.Native.Nat.{◌-◌}
use Rattle.listing_records.proofs.Places.{Sought}
use Rattle.listing_records.proofs.seek.Given as goal

abbrev pub invariant-loop-i : goal.invariant-loop-i
invariant-loop-i l = Sought l.listing l.path l.count l.from (l.count - l.i) l.at
