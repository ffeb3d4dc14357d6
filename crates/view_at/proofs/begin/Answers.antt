-- `begin` meets its contract: with both cursors at the start all is ahead.
use Rattle.view_at.proofs.Sights.{sees_all}
use Rattle.view_at.proofs.begin.Goals as goal

pub returns : goal.returns
returns c =
    let a = c.args in
    let f = c.first_entry-place in
    sees_all a.listing.now a.table.now a.rec (record { place = f.result; walk = c.new-walk.result }) c.requires.listing_value c.requires.rec_value c.new-walk.ensures
    f.ensures.standing f.ensures.value
