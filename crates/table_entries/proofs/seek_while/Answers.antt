-- `seek_while` meets its contract: an entry whose key passes the test is passed, and the first other one is where it ends.
use native.Mathlib.Omega.{arith}
use Rattle.table_entries.proofs.Entries.{entry_inside, left_some}
use Rattle.table_entries.proofs.Seeks.{pass_on, pass_stop}
use Rattle.table_entries.proofs.seek_while.Goals as goal

pub le16-requires : goal.le16-requires
le16-requires g c = omega (arith, entry_inside _ _ _ c.loop-i.invariant.stand (left_some _ _ c.loop-i-test.true))

pub slice_bounds-is_low-end : goal.slice_bounds-is_low-end
slice_bounds-is_low-end g c = omega (arith, entry_inside _ _ _ c.loop-i.invariant.stand (left_some _ _ c.loop-i-test.true), c.le16.ensures.0)

pub le32-requires : goal.le32-requires
le32-requires g c = omega (arith, entry_inside _ _ _ c.loop-i.invariant.stand (left_some _ _ c.loop-i-test.true))

pub returns-then-not-is_low : goal.returns-then-not-is_low
returns-then-not-is_low g c =
    pass_stop _ _ _ _ _ _ c.loop-i.invariant c.loop-i-test.true _ c.le16.ensures.0 _ (λ k t. t _ _ c.is_low.ensures) c.if-not-is_low.true

pub loop-i-preserved : goal.loop-i-preserved
loop-i-preserved g c =
    pass_on _ _ _ _ _ _ c.loop-i.invariant c.loop-i-test.true _ c.le16.ensures.0 _ (λ k t. t _ _ c.is_low.ensures) c.if-not-is_low.false _ c.le32.ensures.0
