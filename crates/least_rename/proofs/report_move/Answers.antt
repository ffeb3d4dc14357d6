-- `report_move` meets its contract: what plan and walk need, and what the call leaves, give the two numbers.
use Rattle.model.specs.Listing.{tree_in}
use Rattle.model.specs.Table.{table_in}
use Rattle.model.proofs.Codec.{decoded}
use Rattle.view_at.specs.Sight.{visible_kind}
use Rattle.rename_checks.proofs.Passed.{kind_whole}
use Rattle.least_rename.proofs.Reporting.{move_stopped, move_known}
use Rattle.least_rename.proofs.report_move.Goals as goal

pub directory_need-requires-clause-source_value_2 :
    goal.directory_need-requires-clause-source_value_2
directory_need-requires-clause-source_value_2 c =
    let a = c.args in
    kind_whole (table_in a.table.now a.rec) (tree_in a.listing.now) a.source.now a.destination.now c.requires.early_passed
    (visible_kind c.visible_at-visible.result) c.visible_at-visible.ensures c.is_directory-whole.result c.is_directory-whole.ensures

pub returns-in_err-need : goal.returns-in_err-need
returns-in_err-need c =
    let a = c.args in
    rw c.from_residual.ensures
    (move_stopped a.rec.entry_size (table_in a.table.now a.rec) (tree_in a.listing.now) a.source.now a.destination.now a.rec.used c.requires.early_passed c.in_err-need.ensures.needed_for)

pub foretell-projected-requires-clause-source_value_2 :
    goal.foretell-projected-requires-clause-source_value_2
foretell-projected-requires-clause-source_value_2 c =
    let a = c.args in
    kind_whole (table_in a.table.now a.rec) (tree_in a.listing.now) a.source.now a.destination.now c.requires.early_passed
    (visible_kind c.visible_at-visible.result) c.visible_at-visible.ensures c.is_directory-whole.result c.is_directory-whole.ensures

pub returns : goal.returns
returns c =
    let a = c.args in
    let f = c.foretell-projected in
    move_known a.rec.entry_size (table_in a.table.now a.rec) (tree_in a.listing.now) a.source.now a.destination.now a.rec.used c.requires.early_passed
    (decoded a.table.now a.rec c.requires.given.table_is).size_most c.in_ok-need.need c.in_ok-need.ensures.needed_for c.in_ok-need.ensures.at_most
    f.result f.ensures c.report_of.result c.report_of.ensures
