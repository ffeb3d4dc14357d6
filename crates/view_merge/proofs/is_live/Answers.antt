-- `is_live` meets its contract: only a deleted entry has kind 4.
use Rattle.model.specs.Table.{entry_at}
use Rattle.view_merge.proofs.Told.{live}
use Rattle.view_merge.proofs.is_live.Goals as goal

pub returns : goal.returns
returns c =
    let a = c.args in
    let f = c.entry_fields-fields in
    live (entry_at a.own.now a.entries.at) f.result.kind f.ensures.kind_value
