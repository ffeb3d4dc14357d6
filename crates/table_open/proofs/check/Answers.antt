-- `table_open::check` meets its contract: each turn of the loop is an entry of the one pass, each exit has its law, and the pass gives
-- `is_table`, since what stands in a slice of bytes is below 256.
use mathlib.Core.Path.{◌∙◌, subst}
use Prim.Native.Nat.{ℕ, ◌+◌}
use native.Mathlib.Omega.{arith}
use borrow.Author.Rules.{rules}
use Rattle.table_entries.proofs.Entries.{left_some, left_next, left_none}
use Rattle.table_open.proofs.Turns.{Kept, started, no_entry_lem, head, kept_on, finished_on, finished_off}
use Rattle.table_open.proofs.Whole.{pass_is_table}
use mathlib.Core.Path.{ap}
use mathlib.Core.Bool.{not}
use Rattle.table_open.proofs.check.Goals as goal

pub loop-i-init : goal.loop-i-init
loop-i-init c =
    let a = c.args in
    started a.table.now a.rec c.is_sized.ensures (ap not c.if-not-is_sized.false)

pub returns-then-not-is_in_order : goal.returns-then-not-is_in_order
returns-then-not-is_in_order c =
    let a = c.args in
    no_entry_lem c.loop-i.invariant (left_some _ _ c.loop-i-test.true) c.is_in_order.ensures (ap not c.if-not-is_in_order.true)
    ∙ pass_is_table a.table.now (λ i. omega (arith, c.type_inv.table i)) a.rec

pub le16-n-requires : goal.le16-n-requires
le16-n-requires c = omega (arith, head c.loop-i.invariant (left_some _ _ c.loop-i-test.true) c.is_in_order.ensures (ap not c.if-not-is_in_order.false))

pub le32-m-requires : goal.le32-m-requires
le32-m-requires c = omega (arith, head c.loop-i.invariant (left_some _ _ c.loop-i-test.true) c.is_in_order.ensures (ap not c.if-not-is_in_order.false))

pub loop-i-preserved : goal.loop-i-preserved
loop-i-preserved c =
    subst (λ (m : ℕ). Kept c.args.table.now c.args.rec m (c.loop-i.at + 24 + c.le16-n.result + c.le32-m.result) (c.loop-i.at + 24) (c.loop-i.at + 24 + c.le16-n.result) (c.loop-i.charge + c.entry_memory_usage-charge.result)) (left_next _ _) (kept_on c.loop-i.invariant (left_some _ _ c.loop-i-test.true) c.is_in_order.ensures (ap not c.if-not-is_in_order.false) c.le16-n.ensures.0 c.le32-m.ensures.0
    c.entry_memory_usage-charge.ensures.value)

pub returns-then-charge-rec : goal.returns-then-charge-rec
returns-then-charge-rec c =
    let a = c.args in
    finished_on c.loop-i.invariant (left_none _ _ c.loop-i-test.false) c.if-charge-rec.true c.all_zero.result c.all_zero.ensures
    ∙ pass_is_table a.table.now (λ i. omega (arith, c.type_inv.table i)) a.rec

pub returns-else-charge-rec : goal.returns-else-charge-rec
returns-else-charge-rec c =
    let a = c.args in
    finished_off c.loop-i.invariant (left_none _ _ c.loop-i-test.false) c.if-charge-rec.either _ (search rules)
    ∙ pass_is_table a.table.now (λ i. omega (arith, c.type_inv.table i)) a.rec
