-- `judge_length` meets its contract: the limit first, by the charge as it counts, then the room.
use mathlib.Core.Path.{refl, ap, ◌∙◌}
use Prim.Native.Nat.{ℕ, ◌+◌}
use lib.ListN.{length}
use Rattle.model.specs.Tree.{deleted}
use Rattle.model.specs.Table.{capped, table_in}
use Rattle.model.proofs.Codec.{decoded}
use Rattle.table_splice.proofs.Lengths.{over, full, within_both}
use mathlib.Core.Bool.{not}
use Rattle.table_splice.proofs.judge_length.Goals as goal

pub returns-then-limit-charge : goal.returns-then-limit-charge
returns-then-limit-charge c =
    let z = c.saturating_add-charge in
    let q = c.body_charge-charged in
    let p = c.projected_record-bare in
    let a = c.args in
    let s = a.table.now in
    over a.rec.entry_size a.limit (length s) a.key.now (table_in s a.rec) p.result a.len z.result (p.ensures deleted refl)
    (z.ensures ∙ ap (λ (n : ℕ). capped (p.result.charge + n)) q.ensures) c.if-limit-charge.true

pub returns-then-not-sum_within : goal.returns-then-not-sum_within
returns-then-not-sum_within c =
    let r = c.sum_within in
    let z = c.saturating_add-charge in
    let q = c.body_charge-charged in
    let p = c.projected_record-bare in
    let a = c.args in
    let s = a.table.now in
    full a.rec.entry_size a.limit (length s) a.key.now (table_in s a.rec) p.result a.len z.result (p.ensures deleted refl)
    (z.ensures ∙ ap (λ (n : ℕ). capped (p.result.charge + n)) q.ensures) c.if-limit-charge.false r.result r.ensures (ap not c.if-not-sum_within.true)

pub returns : goal.returns
returns c =
    let r = c.sum_within in
    let z = c.saturating_add-charge in
    let q = c.body_charge-charged in
    let p = c.projected_record-bare in
    let a = c.args in
    let s = a.table.now in
    within_both a.rec.entry_size a.limit (length s) a.key.now (table_in s a.rec) p.result a.len z.result (p.ensures deleted refl)
    (z.ensures ∙ ap (λ (n : ℕ). capped (p.result.charge + n)) q.ensures) c.if-limit-charge.false r.result r.ensures (ap not c.if-not-sum_within.false)
    (decoded s a.rec c.requires.rec_value).size
