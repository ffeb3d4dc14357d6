-- `entry_at` meets its contract: the kind decides, as in the definition.
use native.Mathlib.Omega.{arith}
use Rattle.table_entries.proofs.Entries.{entry_inside}
use Rattle.table_entries.proofs.entry_at.Goals as goal

pub le32-len-requires : goal.le32-len-requires
le32-len-requires c = omega (arith, entry_inside _ _ _ c.requires.standing c.requires.left_nonzero)

pub le16-requires : goal.le16-requires
le16-requires c = omega (arith, entry_inside _ _ _ c.requires.standing c.requires.left_nonzero)

pub mtime_at-requires : goal.mtime_at-requires
mtime_at-requires c = omega (arith, entry_inside _ _ _ c.requires.standing c.requires.left_nonzero)

pub mtime_at-requires-in-2 : goal.mtime_at-requires-in-2
mtime_at-requires-in-2 c = omega (arith, entry_inside _ _ _ c.requires.standing c.requires.left_nonzero)

pub le64-requires : goal.le64-requires
le64-requires c = omega (arith, entry_inside _ _ _ c.requires.standing c.requires.left_nonzero)

pub mtime_at-requires-in-3 : goal.mtime_at-requires-in-3
mtime_at-requires-in-3 c = omega (arith, entry_inside _ _ _ c.requires.standing c.requires.left_nonzero)
