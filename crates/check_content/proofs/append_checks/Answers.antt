-- `append_checks` meets its contract: a write's checks, then the count of lent bytes.
use lib.Dec.{eqb}
use lib.ListN.{length}
use Rattle.model.specs.Checks.{unless, write_checks}
use Rattle.model.specs.Content.{needed}
use Rattle.model.specs.Outcome.{shown_in}
use Rattle.check_judged.proofs.Thens.{stops_at, goes_on}
use Rattle.check_content.proofs.Owned.{count_right, count_wrong}
use Rattle.check_content.proofs.append_checks.Goals as goal

pub returns-in_err-change_checks : goal.returns-in_err-change_checks
returns-in_err-change_checks c =
    let a = c.args in
    let f = shown_in a.listing.now a.table.now a.rec in
    λ s z.
    stops_at (write_checks f a.path.now) (unless 17 (eqb (length s) (needed (f a.path.now)))) _ _
    c.from_residual.ensures.1 c.in_err-change_checks.ensures

pub returns-then-lent-needed_bytes : goal.returns-then-lent-needed_bytes
returns-then-lent-needed_bytes c =
    let a = c.args in
    let p = a.path.now in
    let f = shown_in a.listing.now a.table.now a.rec in
    let n = c.needed_bytes in
    λ s z.
    goes_on (write_checks f p) (unless 17 (eqb (length s) (needed (f p)))) _ c.in_ok-change_checks.ensures
    (count_wrong (f p) a.lent n.result n.ensures s z c.if-lent-needed_bytes.true)

pub returns : goal.returns
returns c =
    let a = c.args in
    let p = a.path.now in
    let f = shown_in a.listing.now a.table.now a.rec in
    let n = c.needed_bytes in
    λ s z.
    goes_on (write_checks f p) (unless 17 (eqb (length s) (needed (f p)))) _ c.in_ok-change_checks.ensures
    (count_right (f p) a.lent n.result n.ensures s z c.if-lent-needed_bytes.false)
