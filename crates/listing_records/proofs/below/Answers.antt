-- `below` meets its contract: the records below the directory are gathered, and end at the first record that is not below it.
use native.Mathlib.Omega.{arith}
use Prim.Native.Nat.{◌-◌, ◌<◌}
use Rattle.listing_records.proofs.Places.{stands}
use Rattle.listing_records.proofs.Parts.{yes, ended, no, done}
use Rattle.listing_records.proofs.below.Goals as goal
use Rattle.listing_records.proofs.below.Goals.{then-is_below, else-is_below+then-n-eq0}

pub le16-requires : goal.le16-requires
le16-requires c =
    let l = c.loop in
    omega (arith, (stands c.args.listing.now (c.le32-count.result - l.counter) l.at (omega arith) l.invariant.stand).head)

pub slice_bounds-part-end : goal.slice_bounds-part-end
slice_bounds-part-end c =
    let l = c.loop in
    omega (arith, (stands c.args.listing.now (c.le32-count.result - l.counter) l.at (omega arith) l.invariant.stand).end, c.le16.ensures.0)

pub loop-preserved : goal.loop-preserved
loop-preserved c =
    let l = c.loop in
    let left = c.le32-count.result - l.counter in
    let more : 0 < left = omega arith in
    elim c.if-is_below.branch [
      | then-is_below w ↦ rw (w.from-is, w.n-is) (yes l.invariant more c.le16.ensures.0 c.is_below.ensures (omega arith) w.if-is_below.true)
      | else-is_below+then-n-eq0 w ↦
          rw (w.from-is, w.n-is) (no l.invariant more c.le16.ensures.0 c.is_below.ensures (omega arith) w.if-is_below.false w.if-n-eq0.true)
    ]

pub returns-after-loop : goal.returns-after-loop
returns-after-loop c = done c.loop.invariant (omega arith)

pub returns-else-n-eq0 : goal.returns-else-n-eq0
returns-else-n-eq0 c =
    ended c.loop.invariant (omega arith) c.le16.ensures.0 c.is_below.ensures c.if-is_below.false (omega arith)
