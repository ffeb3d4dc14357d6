-- `write_file_at_admitted` meets its contract: refused by its checks, or as the insertion answers.
use mathlib.Core.Path.{refl, sym, ap}
use mathlib.Core.List.{[]}
use Rattle.model.specs.Table.{table_in}
use Rattle.model.specs.Content.{content_of, spliced}
use Rattle.model.specs.Outcome.{shown_in}
use Rattle.call_content.proofs.Owns.{own_there, as_content}
use Rattle.call_content.proofs.Calls.{inside_refused, inside_own, inside_range, inside_inserted}
use Rattle.call_content.proofs.write_file_at_admitted.Goals as goal

pub returns-in-Err : goal.returns-in-Err
returns-in-Err c =
    let a = c.args in
    inside_refused a.listing.now a.table.now a.rec a.work.now a.path.now a.mtime a.limit c.requires.given c.requires.table_in_bounds a.offset a.«data».now
    _ (c.in-Err.ensures.result_value a.listing.now a.«data».now refl) _ c.refused.ensures

pub insert_parts-inserted-requires-clause-data_bound : goal.insert_parts-inserted-requires-clause-data_bound
insert_parts-inserted-requires-clause-data_bound c =
    let a = c.args in
    (inside_range a.listing.now a.table.now a.rec a.work.now a.path.now a.mtime a.limit c.requires.given c.requires.table_in_bounds a.offset a.«data».now (c.in-Ok.ensures.result_value a.listing.now a.«data».now refl), c.requires.table_in_bounds)

pub insert_parts-inserted-requires-clause-key_value_2 : goal.insert_parts-inserted-requires-clause-key_value_2
insert_parts-inserted-requires-clause-key_value_2 c =
    let a = c.args in
    (own_there a.listing.now a.table.now a.rec a.path.now (inside_own a.listing.now a.table.now a.rec a.work.now a.path.now a.mtime a.limit c.requires.given c.requires.table_in_bounds a.offset a.«data».now (c.in-Ok.ensures.result_value a.listing.now a.«data».now refl))).file

pub returns-in-Ok : goal.returns-in-Ok
returns-in-Ok c =
    let a = c.args in
    let s = a.table.now in
    let p = a.path.now in
    let d = a.«data».now in
    let u = c.in-Ok.ensures.result_value a.listing.now d refl in
    let i = c.insert_parts-inserted in
    let v = shown_in a.listing.now s a.rec p in
    let e = own_there a.listing.now s a.rec p (inside_own a.listing.now s a.rec a.work.now p a.mtime a.limit c.requires.given c.requires.table_in_bounds a.offset d u) in
    let x = as_content a.rec.entry_size a.limit s a.work.now (table_in s a.rec) p a.mtime (spliced a.offset d e.content) (spliced a.offset d (content_of v []))
    (ap (spliced a.offset d) (sym (e.holds []))) i.result i.new.table i.new.work
    (record { answer = i.ensures.by_index e.mtime e.content e.is; bytes = i.ensures.by_index_2 e.mtime e.content e.is; buffer = i.ensures.work_after }) in
    inside_inserted a.listing.now s a.rec a.work.now p a.mtime a.limit c.requires.given c.requires.table_in_bounds a.offset d u i.result i.new.table i.new.work x _ c.answered.ensures
