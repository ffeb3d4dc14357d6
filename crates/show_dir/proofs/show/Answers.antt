-- `show` meets its contract: refused by the checks from 1 to 7, or as `show_admitted` answers.
use Rattle.show_dir.proofs.Verdicts.{show_refused, show_given, show_fitted}
use Rattle.show_dir.proofs.show.Goals as goal

pub returns-in_err-may_show : goal.returns-in_err-may_show
returns-in_err-may_show c =
    let a = c.args in
    let it = show_refused a.listing.now a.table.now a.rec a.path.now a.output.now _ _ c.from_residual.ensures.1 c.in_err-may_show.ensures in
    record { result_value = it.0; output_after = it.1 }

pub show_admitted-requires : goal.show_admitted-requires
show_admitted-requires c =
    let a = c.args in
    show_given a.listing.now a.table.now a.rec a.path.now a.output.now c.in_ok-may_show.ensures

pub returns : goal.returns
returns c =
    let a = c.args in
    let x = c.show_admitted in
    let it = show_fitted a.listing.now a.table.now a.rec a.path.now a.output.now c.in_ok-may_show.ensures _ _ x.ensures.result_value x.ensures.output_after in
    record { result_value = it.0; output_after = it.1 }
