-- `entry_fields` meets its contract: the numbers in the entry's head are the entry's own.
use native.Mathlib.Omega.{arith}
use mathlib.Core.Path.{◌∙◌}
use Rattle.table_entries.proofs.Entries.{entry_inside, stands_here}
use Rattle.table_entries.proofs.entry_fields.Goals as goal

pub le64-requires : goal.le64-requires
le64-requires c = omega (arith, entry_inside _ _ _ c.requires.standing c.requires.left_nonzero)

pub le64-requires-2 : goal.le64-requires-2
le64-requires-2 c = omega (arith, entry_inside _ _ _ c.requires.standing c.requires.left_nonzero)

pub returns : goal.returns
returns c =
    let k = stands_here c.args.table.now c.args.place.left c.args.place.at c.requires.left_nonzero c.requires.standing in
    record { kind_value = c.le16.ensures.0 ∙ k.type; mtime_value = c.le64.ensures ∙ k.mtime; size_value = c.le64-2.ensures ∙ k.size }
