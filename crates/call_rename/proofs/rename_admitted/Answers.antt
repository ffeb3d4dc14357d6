-- `rename_admitted` meets its contract: refused by 3 or by a path by itself, accepted as it stands where it is a move onto itself, or as the move answers.
use Rattle.std.proofs.Common.{sym, ◌∙◌}
use Rattle.call_rename.proofs.Verdicts.{paths_refused, itself_meets}
use Rattle.call_rename.proofs.rename_admitted.Goals as goal

pub returns-in-Err : goal.returns-in-Err
returns-in-Err c =
    let a = c.args in
    paths_refused a.listing.now a.table.now a.rec a.work.now a.source.now a.destination.now a.limit c.requires.given c.requires.table_in_bounds
    _ c.in-Err.ensures _ c.refused.ensures

pub returns-then-is_onto_itself : goal.returns-then-is_onto_itself
returns-then-is_onto_itself c =
    let a = c.args in
    let i = c.is_onto_itself in
    itself_meets a.listing.now a.table.now a.rec a.work.now a.source.now a.destination.now a.limit c.requires.given c.requires.table_in_bounds
    c.in_default.ensures (sym c.if-is_onto_itself.true ∙ i.ensures) c.zero_from.new.t c.zero_from.ensures
