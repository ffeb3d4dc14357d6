-- `ready` meets its contract: 1 and 2, then 3.
use Rattle.std.proofs.Common.{◌∙◌}
use Rattle.model.specs.Checks.{◌then◌, form}
use Rattle.check_judged.proofs.Thens.{then_assoc, stops_at, goes_on}
use Rattle.check_lent.proofs.Firsts.{table_form, listing_form}
use Rattle.check_lent.proofs.ready.Goals as goal

pub returns-in_err-admitted : goal.returns-in_err-admitted
returns-in_err-admitted c =
    let a = c.args in
    let t = table_form a.table.now a.rec a.room in
    let l = listing_form a.listing.now in
    stops_at (t then l) (form 0 a.path.now) _ _ c.from_residual.ensures.1 c.in_err-admitted.ensures
    ∙ then_assoc t l (form 0 a.path.now)

pub returns : goal.returns
returns c =
    let a = c.args in
    let t = table_form a.table.now a.rec a.room in
    let l = listing_form a.listing.now in
    goes_on (t then l) (form 0 a.path.now) _ c.in_ok-admitted.ensures c.check_path.ensures
    ∙ then_assoc t l (form 0 a.path.now)
