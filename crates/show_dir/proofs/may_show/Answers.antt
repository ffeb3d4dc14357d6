-- `may_show` meets its contract: 1, 2 and 3 refuse, or the path's checks decide.
use Rattle.std.proofs.Common.{refl, length, ◌∙◌}
use Rattle.check_judged.proofs.Thens.{told_at}
use Rattle.show_dir.proofs.Verdicts.{lent_refused, lent_given, path_checked}
use Rattle.show_dir.proofs.may_show.Goals as goal

pub returns-in_err-ready : goal.returns-in_err-ready
returns-in_err-ready c =
    let a = c.args in
    told_at _ _ c.from_residual.ensures.1
    ∙ lent_refused a.listing.now a.table.now a.rec a.path.now (length a.table.now) refl _ c.in_err-ready.ensures

pub check_shown-requires : goal.check_shown-requires
check_shown-requires c =
    let a = c.args in
    let it = lent_given a.listing.now a.table.now a.rec a.path.now (length a.table.now) refl c.in_ok-ready.ensures in
    record { given = it.0; path_value = it.1 }

pub returns : goal.returns
returns c =
    let a = c.args in
    path_checked a.listing.now a.table.now a.rec a.path.now (length a.table.now) refl c.in_ok-ready.ensures _ c.check_shown.ensures
