-- `below` meets its contract: the records below the directory are gathered, and end at the first record that is not below it.
use Prim.Native.Nat.{◌-◌}
use Rattle.listing_records.proofs.Parts.{Gathered}
use Rattle.listing_records.proofs.below.Given as goal

abbrev pub invariant-loop : goal.invariant-loop
invariant-loop l = Gathered l.listing l.dir (l.count - l.counter) l.from l.at l.n
