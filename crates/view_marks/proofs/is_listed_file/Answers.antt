-- `is_listed_file` meets its contract: of a reference with the listed mtime and size it was asked whether it holds its
-- own path.
use Rattle.model.specs.Table.{entry_at}
use Rattle.view_marks.proofs.Marked.{tells_listed_file}
use Rattle.view_marks.proofs.is_listed_file.Goals as goal

pub returns-then-fields-size : goal.returns-then-fields-size
returns-then-fields-size c =
    let f = c.entry_fields-fields in
    let a = c.args in
    tells_listed_file (entry_at a.own.now a.entries.at) _ _ _ a.mtime a.size _ _ _ _ f.ensures.kind_value f.ensures.mtime_value f.ensures.size_value
    c.entry_body-body.ensures c.entry_key-key.ensures c.is_same-held.ensures c.if-fields-eq-REFERENCE.true c.if-fields-mtime.true c.if-fields-size.true
