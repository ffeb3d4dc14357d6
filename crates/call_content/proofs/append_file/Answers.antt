-- `append_file` meets its contract: data at the content's end stands behind it.
use mathlib.Core.Path.{ap, ◌∙◌}
use mathlib.Core.List.{◌++◌}
use lib.ListN.{length}
use Rattle.model.specs.Table.{table_in}
use Rattle.model.specs.Content.{spliced}
use Rattle.table_splice.proofs.Places.{some_there, body_there}
use Rattle.call_content.proofs.Owns.{as_content, at_end}
use Rattle.call_content.proofs.append_file.Goals as goal

pub entry_body-content-requires-clause-left_nonzero : goal.entry_body-content-requires-clause-left_nonzero
entry_body-content-requires-clause-left_nonzero c =
    let a = c.args in
    some_there a.table.now a.rec a.path.now a.place.left a.place.at c.requires.rec_value c.requires.sought c.requires.path_value_2

pub returns : goal.returns
returns c =
    let a = c.args in
    let s = a.table.now in
    let p = a.path.now in
    let d = a.«data».now in
    let x = c.entry_body-content in
    let n = length x.result.now in
    let i = c.insert_parts in
    λ m k l.
    as_content a.rec.entry_size a.limit s a.work.now (table_in s a.rec) p a.mtime (spliced n d k) (k ++ d)
    (at_end n d k (ap length x.ensures ∙ ap length (body_there s a.rec p a.place.left a.place.at c.requires.rec_value c.requires.sought c.requires.path_value_2 m k l))) i.result i.new.table i.new.work
    (record { answer = i.ensures.by_index m k l; bytes = i.ensures.by_index_2 m k l; buffer = i.ensures.work_after })
