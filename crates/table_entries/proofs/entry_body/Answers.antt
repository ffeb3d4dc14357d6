-- `entry_body` meets its contract: the body is the part of the table behind the entry's key.
use native.Mathlib.Omega.{arith}
use Rattle.table_entries.proofs.Entries.{entry_inside}
use Rattle.table_entries.proofs.Says.{body_here}
use Rattle.table_entries.proofs.entry_body.Goals as goal

pub le32-requires : goal.le32-requires
le32-requires c = omega (arith, entry_inside _ _ _ c.requires.standing c.requires.left_nonzero)

pub slice_bounds-result-end : goal.slice_bounds-result-end
slice_bounds-result-end c = omega (arith, entry_inside _ _ _ c.requires.standing c.requires.left_nonzero, c.le16.ensures.0, c.le32.ensures.0)

pub returns : goal.returns
returns c =
    let n = c.le16 in
    let m = c.le32 in
    body_here c.args.table.now c.args.place.left c.args.place.at n.result m.result c.requires.left_nonzero c.requires.standing n.ensures.0 m.ensures.0
