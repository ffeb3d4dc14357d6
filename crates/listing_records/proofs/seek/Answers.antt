-- `seek` meets its contract: a record whose path is before the path is passed, and the first other one is where it ends.
use native.Mathlib.Omega.{arith}
use Rattle.listing_records.proofs.Places.{sought_on, sought_stop}
use Rattle.listing_records.proofs.seek.Goals as goal

pub loop-i-preserved : goal.loop-i-preserved
loop-i-preserved c =
    sought_on c.loop-i.invariant (omega arith) c.le16.ensures.0 c.is_before.ensures (omega arith) c.if-not-is_before.false

pub returns-then-not-is_before : goal.returns-then-not-is_before
returns-then-not-is_before c =
    sought_stop c.loop-i.invariant (omega arith) c.le16.ensures.0 c.is_before.ensures c.if-not-is_before.true
