-- `foretell` meets its contract: the checks before it give what the measuring asks for.
use Rattle.model.specs.Listing.{tree_in}
use Rattle.model.specs.Table.{table_in}
use Rattle.rename_checks.proofs.Passed.{apart_paths}
use Rattle.rename_settle.proofs.Settling.{top_length, source_of}
use Rattle.rename_settle.proofs.foretell.Goals as goal

pub projected_move-requires-clause-source : goal.projected_move-requires-clause-source
projected_move-requires-clause-source c =
    let a = c.args in
    source_of (table_in a.table.now a.rec) (tree_in a.listing.now) a.source.now a.destination.now c.requires.early_passed a.whole
    c.requires.source_value_2

pub projected_move-requires-clause-e_len : goal.projected_move-requires-clause-e_len
projected_move-requires-clause-e_len c =
    let a = c.args in
    top_length (table_in a.table.now a.rec) (tree_in a.listing.now) a.source.now c.first_len-len.result c.first_len-len.ensures

pub projected_move-requires-clause-q_value : goal.projected_move-requires-clause-q_value
projected_move-requires-clause-q_value c =
    let a = c.args in
    apart_paths (table_in a.table.now a.rec) (tree_in a.listing.now) a.source.now a.destination.now c.requires.early_passed
