-- `projected` meets its contract: one entry more where the key has none, and another body where it has one.
use native.Mathlib.Omega.{arith}
use Rattle.table_measure.proofs.Steps.{some_left, old_fits, head_fits, put_fresh, put_over}
use Rattle.table_measure.proofs.projected.Goals as goal

pub le32-old-requires : goal.le32-old-requires
le32-old-requires c =
    let a = c.args in
    let q = c.seek-found in
    let b = c.has_key in
    let h = some_left a.table.now a.key.now q.result.left q.result.at b.result b.ensures c.if-has_key.true in
    let f = head_fits a.table.now a.key.now a.place.left a.place.at q.result.left q.result.at a.rec c.requires.counts q.ensures h in
    omega (arith, f.0)

pub with_body-requires : goal.with_body-requires
with_body-requires c =
    let a = c.args in
    let q = c.seek-found in
    let b = c.has_key in
    let o = c.le32-old in
    let h = some_left a.table.now a.key.now q.result.left q.result.at b.result b.ensures c.if-has_key.true in
    record { used_bound = (c.requires.counts.used_small, c.requires.counts.charge_small, c.requires.key_len_bound.1); le_used = old_fits a.table.now a.key.now a.place.left a.place.at q.result.left q.result.at a.rec c.requires.counts q.ensures h o.result o.ensures.0 }

pub returns-then-has_key : goal.returns-then-has_key
returns-then-has_key c =
    let a = c.args in
    let q = c.seek-found in
    let b = c.has_key in
    let o = c.le32-old in
    let n = c.next_entry in
    let w = c.with_body in
    λ t k v m up l.
    put_over a.table.now t k a.key.now v a.place.left a.place.at q.result.left q.result.at a.rec.entry_size a.len a.rec m up l
    q.ensures b.result b.ensures c.if-has_key.true o.result o.ensures.0 n.result w.result n.ensures.value w.ensures

pub returns-else-has_key : goal.returns-else-has_key
returns-else-has_key c =
    let a = c.args in
    let q = c.seek-found in
    let b = c.has_key in
    let w = c.with_entry in
    λ t k v m up l.
    put_fresh a.table.now t k a.key.now v a.place.left a.place.at q.result.left q.result.at a.rec.entry_size a.len a.rec m up l
    q.ensures b.result b.ensures c.if-has_key.false w.result w.ensures
