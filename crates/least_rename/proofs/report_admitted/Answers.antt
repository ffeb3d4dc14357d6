-- `report_admitted` meets its contract: what the checks before the plan refuse, nothing lets through.
use Rattle.std.proofs.Common.{sym, ◌∙◌}
use Rattle.model.specs.Listing.{tree_in}
use Rattle.model.specs.Table.{table_in}
use Rattle.call_answer.specs.Meets.{stored}
use Rattle.least_need.proofs.Buffers.{used_is, used_most}
use Rattle.least_rename.proofs.Reporting.{both_passed, itself_known}
use Rattle.least_rename.proofs.report_admitted.Goals as goal

pub returns-then-is_onto_itself : goal.returns-then-is_onto_itself
returns-then-is_onto_itself c =
    let a = c.args in
    let s = stored a.table.now a.rec in
    itself_known a.rec.entry_size (table_in a.table.now a.rec) (tree_in a.listing.now) a.source.now a.destination.now a.rec.used (sym c.is_onto_itself.ensures ∙ c.if-is_onto_itself.true) c.in-Ok.ensures
    (used_is s c.requires.given.table_is) (used_most s c.requires.given.table_is)

pub report_move-requires-clause-early_passed : goal.report_move-requires-clause-early_passed
report_move-requires-clause-early_passed c =
    let a = c.args in
    both_passed a.rec.entry_size (table_in a.table.now a.rec) (tree_in a.listing.now) a.source.now a.destination.now a.rec.used (sym c.is_onto_itself.ensures ∙ c.if-is_onto_itself.false) c.in-Ok.ensures
    c.in-Ok-check_types.ensures
