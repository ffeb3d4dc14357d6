-- `report_rename` meets its contract: 1, 2 and 3 refuse, and behind them what is known is what is to be reported.
use Rattle.std.proofs.Common.{sym}
use native.Mathlib.Omega.{arith}
use Rattle.std.proofs.lemmas.Result.{err_from_is_err_and}
use Rattle.base_fields.proofs.Pieces.{bytes_of}
use Rattle.check_lent.proofs.Firsts.{both_paths}
use Rattle.least_rename.proofs.Reporting.{not_admitted, admitted, not_formed, reported}
use Rattle.least_rename.proofs.report_rename.Goals as goal

pub returns-in_err-admitted : goal.returns-in_err-admitted
returns-in_err-admitted c =
    let a = c.args in
    let e = err_from_is_err_and c.from_residual.result c.from_residual.ensures.1 in
    rw (e.1, e.2) (not_admitted a.listing.now a.table.now a.rec a.source.now a.destination.now _ c.in_err-admitted.ensures)

pub returns-in_err-check_paths : goal.returns-in_err-check_paths
returns-in_err-check_paths c =
    let a = c.args in
    let q = c.from_residual-in_err-check_paths in
    let e = err_from_is_err_and q.result q.ensures.1 in
    rw (e.1, e.2) (not_formed a.listing.now a.table.now a.rec a.source.now a.destination.now c.in_ok-admitted.ensures _ c.in_err-check_paths.ensures)

pub report_admitted-requires-clause-given : goal.report_admitted-requires-clause-given
report_admitted-requires-clause-given c =
    let a = c.args in
    admitted a.listing.now a.table.now a.rec a.source.now a.destination.now c.in_ok-admitted.ensures

pub report_admitted-requires-clause-source_value : goal.report_admitted-requires-clause-source_value
report_admitted-requires-clause-source_value c = both_paths c.args.source.now c.args.destination.now (sym c.in_ok-check_paths.ensures)

pub returns : goal.returns
returns c =
    let a = c.args in
    reported a.listing.now a.table.now a.rec a.source.now a.destination.now c.in_ok-admitted.ensures c.in_ok-check_paths.ensures
    (bytes_of a.table.now (λ i. omega (arith, c.type_inv.table i))) c.report_admitted.result c.report_admitted.ensures
