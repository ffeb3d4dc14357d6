-- `head_at` meets its contract: an ended stream is never told, and of two that go on the one with the smaller key is.
use mathlib.Core.Path.{ap₂, sym, ◌∙◌}
use Rattle.std.specs.Prelude.{Some, None}
use native.Mathlib.Omega.{arith}
use borrow.Author.Rules.{rules}
use Rattle.model.specs.Bytes.{before}
use Rattle.rename_carried.specs.declared.Head.TheVariants as next
use Rattle.rename_carried.proofs.Steps.{told}
use Rattle.rename_carried.proofs.head_at.Goals as goal

pub returns-then-not-has_next : goal.returns-then-not-has_next
returns-then-not-has_next c =
    let a = c.args in
    let e = c.has_next.ensures.1 c.if-not-has_next.true in
    let u = told a.own.now a.part.now a.stream c.requires.standing c.requires.standing_2 None (omega arith) in
    record { next = u.next; ending = u.ending; stream_value = u.up }

pub returns-then-entries-eq0 : goal.returns-then-entries-eq0
returns-then-entries-eq0 c =
    let a = c.args in
    let e = c.if-entries-eq0.true in
    let f = c.has_next.ensures.0 c.if-not-has_next.false in
    let u =
    told a.own.now a.part.now a.stream c.requires.standing c.requires.standing_2 (Some next.Listed) (search rules, λ h. absurd (omega arith)) in
    record { next = u.next; ending = u.ending; stream_value = u.up }

pub returns-then-listed-eq0 : goal.returns-then-listed-eq0
returns-then-listed-eq0 c =
    let a = c.args in
    let e = c.if-listed-eq0.true in
    let u =
    told a.own.now a.part.now a.stream c.requires.standing c.requires.standing_2 (Some next.Entry) (search rules, λ h. absurd (omega arith)) in
    record { next = u.next; ending = u.ending; stream_value = u.up }

pub returns-then-is_before : goal.returns-then-is_before
returns-then-is_before c =
    let a = c.args in
    let p = c.record_path-path in
    let k = c.entry_key-key in
    let b = c.is_before in
    let u =
    told a.own.now a.part.now a.stream c.requires.standing c.requires.standing_2 (Some next.Entry)
    (search rules, λ h. sym (ap₂ before k.ensures p.ensures) ∙ sym b.ensures ∙ c.if-is_before.true) in
    record { next = u.next; ending = u.ending; stream_value = u.up }

pub returns : goal.returns
returns c =
    let a = c.args in
    let p = c.record_path-path in
    let k = c.entry_key-key in
    let b = c.is_before in
    let u =
    told a.own.now a.part.now a.stream c.requires.standing c.requires.standing_2 (Some next.Listed)
    (search rules, λ h. sym (ap₂ before k.ensures p.ensures) ∙ sym b.ensures ∙ c.if-is_before.false) in
    record { next = u.next; ending = u.ending; stream_value = u.up }
