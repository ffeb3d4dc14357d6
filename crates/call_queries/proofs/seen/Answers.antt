-- `seen` meets its contract: as 1, 2 and 3 refuse, or by what is visible.
use Rattle.std.proofs.Common.{refl, length}
use Rattle.check_lent.proofs.Firsts.{known}
use Rattle.call_queries.proofs.Asks.{ask_refused, ask_answered}
use Rattle.call_queries.proofs.seen.Goals as goal

pub returns-in_err-ready : goal.returns-in_err-ready
returns-in_err-ready c =
    let a = c.args in
    λ q.
    ask_refused a.listing.now a.table.now a.rec (length a.table.now) a.path.now refl _ refl q _ _
    c.from_residual.ensures.1 c.in_err-ready.ensures

pub visible_at-requires : goal.visible_at-requires
visible_at-requires c =
    let a = c.args in
    let k = known a.listing.now a.table.now a.rec (length a.table.now) a.path.now c.in_ok-ready.ensures in
    record { listing_value = k.2; rec_value = k.0 }

pub returns : goal.returns
returns c =
    let a = c.args in
    λ q.
    ask_answered a.listing.now a.table.now a.rec (length a.table.now) a.path.now refl _ refl q _
    c.in_ok-ready.ensures c.visible_at.ensures
