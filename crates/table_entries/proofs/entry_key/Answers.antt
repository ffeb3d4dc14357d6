-- `entry_key` meets its contract: the key is the part of the table behind the entry's head.
use native.Mathlib.Omega.{arith}
use Rattle.table_entries.proofs.Entries.{entry_inside}
use Rattle.table_entries.proofs.entry_key.Goals as goal

pub slice_bounds-result-end : goal.slice_bounds-result-end
slice_bounds-result-end c = omega (arith, entry_inside _ _ _ c.requires.standing c.requires.left_nonzero, c.le16.ensures.0)
