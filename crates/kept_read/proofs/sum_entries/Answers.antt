-- `kept_read::sum_entries` meets its contract: each turn of the loop is a head of the counting pass, and each exit has
-- its law.
use native.Mathlib.Omega.{arith}
use borrow.Author.Rules.{rules}
use Rattle.kept_read.proofs.Turns.{started, headless, endless, kept_on, finished}
use Rattle.kept_read.proofs.sum_entries.Goals as goal

pub loop-at-init : goal.loop-at-init
loop-at-init c =
    let a = c.args in
    started a.entry_size a.entries.now

pub returns-then-entries-at : goal.returns-then-entries-at
returns-then-entries-at c = headless c.loop-at.invariant c.loop-at-test.true c.if-entries-at.true

pub returns-then-entries-end : goal.returns-then-entries-end
returns-then-entries-end c =
    endless c.loop-at.invariant c.loop-at-test.true (search rules) c.le16-n.ensures.0 c.le32-m.ensures.0
    c.if-entries-end.true

pub overflow_add-charge : goal.overflow_add-charge
overflow_add-charge c = omega (arith, c.entry_memory_usage-charge.ensures.value)

pub loop-at-preserved : goal.loop-at-preserved
loop-at-preserved c =
    kept_on c.loop-at.invariant c.loop-at-test.true (search rules) c.le16-n.ensures.0 c.le32-m.ensures.0
    (search rules) (search rules) c.entry_memory_usage-charge.ensures.value

pub returns : goal.returns
returns c = finished c.loop-at.invariant (search rules)
