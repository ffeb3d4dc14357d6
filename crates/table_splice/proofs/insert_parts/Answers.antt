-- `insert_parts` meets its contract: the new table is begun with the content that the found entry has, and finished.
use Rattle.std.proofs.Common.{◌∙◌, ap, length, Err, arith}
use Rattle.std.proofs.lemmas.Result.{err_from_is_err_and}
use Rattle.model.specs.Map.{put}
use Rattle.model.specs.Tree.{own, Table}
use Rattle.model.specs.Table.{encode, padded, table_in}
use Rattle.model.specs.Content.{spliced}
use Rattle.table_insert.specs.Insert.{insertion}
use Rattle.table_insert.proofs.Inserts.{same_used}
use Rattle.table_splice.proofs.Begins.{fitting}
use Rattle.table_splice.proofs.Places.{some_there, put_there}
use Rattle.table_splice.proofs.insert_parts.Goals as goal

pub entry_body-content-requires-clause-left_nonzero : goal.entry_body-content-requires-clause-left_nonzero
entry_body-content-requires-clause-left_nonzero c =
    let a = c.args in
    let p = c.requires in
    some_there a.table.now a.rec a.key.now a.place.left a.place.at p.rec_value p.sought p.key_value_2

pub returns-in_err-begun-clause-by_index : goal.returns-in_err-begun-clause-by_index
returns-in_err-begun-clause-by_index c =
    let a = c.args in
    let p = c.requires in
    let n = length a.table.now in
    let e = err_from_is_err_and c.from_residual.result c.from_residual.ensures.1 in
    λ m b l. e.1 ∙ ap Err e.2 ∙ c.in_err-begun.ensures.judged
    ∙ ap (λ (t : Table). insertion a.rec.entry_size a.limit n t)
    (put_there a.table.now a.rec a.key.now a.place.left a.place.at p.rec_value p.sought p.key_value_2 c.entry_body-content.result.now a.«data».now a.mtime a.offset c.entry_body-content.ensures m b l)

pub finish-requires : goal.finish-requires
finish-requires c =
    let a = c.args in
    let s = a.table.now in
    let t = put a.key.now (own a.mtime (spliced a.offset a.«data».now c.entry_body-content.result.now)) (table_in s a.rec) in
    let b = c.in_ok-begun in
    let f = fitting s c.write_spliced.new.work a.rec a.limit t a.key.now b.begun c.requires.rec_value b.ensures.judged b.ensures.merged b.ensures.end in
    let l = c.write_spliced.auto.work in
    let h = c.requires.data_bound.1 in
    record { at_le_used = f.0; at_in_bounds = (f.1, omega arith) }

pub returns-clause-by_index : goal.returns-clause-by_index
returns-clause-by_index c =
    let a = c.args in
    let p = c.requires in
    let n = length a.table.now in
    λ m b l. c.in_ok-begun.ensures.judged
    ∙ ap (λ (t : Table). insertion a.rec.entry_size a.limit n t)
    (put_there a.table.now a.rec a.key.now a.place.left a.place.at p.rec_value p.sought p.key_value_2 c.entry_body-content.result.now a.«data».now a.mtime a.offset c.entry_body-content.ensures m b l)

pub returns-clause-by_index_2 : goal.returns-clause-by_index_2
returns-clause-by_index_2 c =
    let a = c.args in
    let p = c.requires in
    let s = a.table.now in
    let b = c.in_ok-begun in
    let new = put a.key.now (own a.mtime (spliced a.offset a.«data».now c.entry_body-content.result.now)) (table_in s a.rec) in
    let u = same_used s a.rec b.begun.merge.left b.begun.merge.at p.rec_value b.ensures.end in
    λ m x l. c.finish.ensures.table_after new a.key.now b.ensures.merged u
    ∙ ap (λ (t : Table). padded (length s) (encode t))
    (put_there s a.rec a.key.now a.place.left a.place.at p.rec_value p.sought p.key_value_2 c.entry_body-content.result.now a.«data».now a.mtime a.offset c.entry_body-content.ensures m x l)
