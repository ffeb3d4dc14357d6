-- `listing_check::check` meets its contract: each turn of the loop is a record of the one pass, and each exit has its law.
use Prim.Native.Nat.{◌-◌}
use Rattle.listing_check.proofs.Turns.{Kept}
use Rattle.listing_check.proofs.check.Given as goal

abbrev pub invariant-loop : goal.invariant-loop
invariant-loop l = Kept l.listing l.flags (l.count - l.counter) l.from l.at
