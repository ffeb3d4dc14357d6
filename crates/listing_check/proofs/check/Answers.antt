-- `listing_check::check` meets its contract: each turn of the loop is a record of the one pass, and each exit has its law.
use mathlib.Core.Path.{sym, ◌∙◌}
use Prim.Native.Nat.{◌-◌}
use native.Mathlib.Omega.{arith}
use Rattle.listing_check.proofs.Turns.{started, short, longer, kept_on, finished}
use Rattle.listing_check.proofs.Turns.{no_record, in_record, no_order, in_order, no_place}
use Rattle.listing_check.proofs.Pass.{unheaded}
use Rattle.listing_check.proofs.check.Goals as goal

pub returns-then-not-is_headed : goal.returns-then-not-is_headed
returns-then-not-is_headed c = unheaded c.args.listing.now (sym c.is_headed.ensures ∙ c.if-not-is_headed.true)

pub loop-init : goal.loop-init
loop-init c =
    let h = sym c.is_headed.ensures ∙ c.if-not-is_headed.false in
    started c.args.listing.now (c.le32-count.result - 0) h (omega (arith, c.le32-count.ensures.0))

pub returns-then-not-is_record : goal.returns-then-not-is_record
returns-then-not-is_record c = no_record c.loop.invariant (omega arith) c.is_record.ensures c.if-not-is_record.true

pub returns-then-not-is_before : goal.returns-then-not-is_before
returns-then-not-is_before c =
    let t = in_record c.loop.invariant (omega arith) c.is_record.ensures c.if-not-is_record.false c.le16.ensures.0 in
    no_order t c.is_before.ensures c.if-not-is_before.true

pub mark-requires : goal.mark-requires
mark-requires c =
    let t = in_record c.loop.invariant (omega arith) c.is_record.ensures c.if-not-is_record.false c.le16.ensures.0 in
    let o = in_order t c.is_before.ensures c.if-not-is_before.false c.shared-n.ensures.value in
    (longer o, omega (arith, short t), t.kept.size)

pub returns-then-not-is_placed : goal.returns-then-not-is_placed
returns-then-not-is_placed c =
    let t = in_record c.loop.invariant (omega arith) c.is_record.ensures c.if-not-is_record.false c.le16.ensures.0 in
    let o = in_order t c.is_before.ensures c.if-not-is_before.false c.shared-n.ensures.value in
    no_place o c.mark.ensures c.is_placed.ensures c.if-not-is_placed.true

pub loop-preserved : goal.loop-preserved
loop-preserved c =
    let t = in_record c.loop.invariant (omega arith) c.is_record.ensures c.if-not-is_record.false c.le16.ensures.0 in
    let o = in_order t c.is_before.ensures c.if-not-is_before.false c.shared-n.ensures.value in
    kept_on o c.mark.ensures c.is_placed.ensures (omega arith) c.if-not-is_placed.false

pub returns : goal.returns
returns c = finished c.loop.invariant (omega arith)
