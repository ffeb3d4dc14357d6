-- `insert_appended` meets its contract: what is put holds what the file held, and the data.
use mathlib.Core.Path.{ap, sym, ◌∙◌}
use mathlib.Core.List.{[], ◌++◌}
use Rattle.model.specs.Bytes.{Bytes}
use Rattle.model.specs.Table.{table_in}
use Rattle.model.specs.Content.{appended}
use Rattle.model.specs.Outcome.{shown_in}
use Rattle.model.proofs.Contents.{lent_content}
use Rattle.call_content.proofs.Owns.{own_read, own_there, as_content}
use Rattle.call_content.proofs.insert_appended.Goals as goal

pub append_file-requires-clause-path_value_2 : goal.append_file-requires-clause-path_value_2
append_file-requires-clause-path_value_2 c =
    let a = c.args in
    let s = a.table.now in
    let p = a.path.now in
    let f = c.first_entry-first in
    let g = c.get_from-got in
    let w = c.is_own in
    (own_there [] s a.rec p (sym (own_read [] s a.rec p f.result f.ensures.value g.result.entry g.ensures.result_value w.result w.ensures) ∙ c.if-is_own.true)).file

pub returns-then-is_own : goal.returns-then-is_own
returns-then-is_own c =
    let a = c.args in
    let s = a.table.now in
    let p = a.path.now in
    let f = c.first_entry-first in
    let g = c.get_from-got in
    let w = c.is_own in
    let i = c.append_file in
    let d = a.«data».now in
    λ l z.
    let e = own_there l s a.rec p (sym (own_read l s a.rec p f.result f.ensures.value g.result.entry g.ensures.result_value w.result w.ensures) ∙ c.if-is_own.true) in
    as_content a.rec.entry_size a.limit s a.work.now (table_in s a.rec) p a.mtime (e.content ++ d) (appended (shown_in l s a.rec p) d a.lent.now)
    (ap (λ (x : Bytes). x ++ d) (sym (e.holds a.lent.now))) i.result i.new.table i.new.work (i.ensures e.mtime e.content e.is)

pub returns : goal.returns
returns c =
    let a = c.args in
    let s = a.table.now in
    let p = a.path.now in
    let f = c.first_entry-first in
    let g = c.get_from-got in
    let w = c.is_own in
    let i = c.insert_lent in
    let d = a.«data».now in
    let n = a.lent.now in
    λ l z.
    as_content a.rec.entry_size a.limit s a.work.now (table_in s a.rec) p a.mtime (n ++ d) (appended (shown_in l s a.rec p) d n)
    (ap (λ (x : Bytes). x ++ d) (sym (lent_content (shown_in l s a.rec p) n (sym (own_read l s a.rec p f.result f.ensures.value g.result.entry g.ensures.result_value w.result w.ensures) ∙ c.if-is_own.false) z))) i.result i.new.table i.new.work
    (record { answer = i.ensures.value; bytes = i.ensures.table_after; buffer = i.ensures.work_after })
