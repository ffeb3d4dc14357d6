-- `look` meets its contract: the prefix is found from both cursors on, and they go on behind it.
use mathlib.Core.Path.{sym}
use lib.Seq.{length-take-le}
use borrow.Author.Rules.{rules}
use Rattle.view_at.specs.Sight.{visible_kind}
use Rattle.view_at.proofs.Sights.{seen_kind, sees_next}
use Rattle.view_at.proofs.look.Goals as goal

pub slice_bounds-key-end : goal.slice_bounds-key-end
slice_bounds-key-end c =
    let a = c.args in
    sym (length-take-le a.end a.path.now (search rules))

pub step_once-stepped-requires : goal.step_once-stepped-requires
step_once-stepped-requires c = (c.requires.sees.listing, c.requires.sees.walks, c.requires.end_nonzero.0, c.requires.end_nonzero.1, c.requires.end_nonzero.2)

pub returns : goal.returns
returns c =
    let o = c.over in
    let t = c.step_once-stepped in
    let g = c.get_from-got in
    let a = c.args in
    record {
      visible_value = seen_kind a.listing.now a.table.now a.rec a.path.now a.sight a.end c.requires.sees c.requires.end_nonzero.0 c.requires.end_nonzero.1 g.result.place
          g.ensures.sought (visible_kind o.result) g.result.entry t.result.target g.ensures.result_value t.ensures.found o.ensures;
      sees_2 = sees_next a.listing.now a.table.now a.rec a.path.now a.sight a.end c.requires.sees c.requires.end_nonzero.0 c.requires.end_nonzero.1 g.result.place
          g.ensures.sought t.result.walk t.ensures.goes_on;
    }
