-- `record_without` meets its contract: the entry at the place has the key, and the record is less by it, or the key has no entry.
use native.Mathlib.Omega.{arith}
use Rattle.table_remove.proofs.Removes.{not_there, head_fits, in_record, taken_out}
use Rattle.table_remove.proofs.record_without.Goals as goal

pub le32-body_len-requires : goal.le32-body_len-requires
le32-body_len-requires c =
    let a = c.args in
    let f = head_fits a.table.now a.rec a.key.now a.place.left a.place.at c.requires.rec_value c.requires.sought c.has_key.result c.has_key.ensures c.if-has_key.true in
    omega (arith, f)

pub without-requires : goal.without-requires
without-requires c =
    let a = c.args in
    let it = in_record a.table.now a.rec a.key.now a.place.left a.place.at c.requires.rec_value c.requires.sought c.has_key.result c.has_key.ensures
    c.if-has_key.true c.le32-body_len.result c.le32-body_len.ensures.0 in
    record { entry_size_bound = it.0; body_len_bound = it.1 }

pub returns-then-has_key : goal.returns-then-has_key
returns-then-has_key c =
    let a = c.args in
    taken_out a.table.now a.rec a.key.now a.place.left a.place.at c.requires.rec_value c.requires.sought c.has_key.result c.has_key.ensures
    c.if-has_key.true c.le32-body_len.result c.le32-body_len.ensures.0 c.without.result c.without.ensures

pub returns-else-has_key : goal.returns-else-has_key
returns-else-has_key c =
    let a = c.args in
    not_there a.table.now a.rec a.key.now a.place.left a.place.at c.requires.rec_value c.requires.sought c.has_key.result c.has_key.ensures c.if-has_key.false
