-- `next_entry` meets its contract: the key and the body are as long as the entry's head says.
use native.Mathlib.Omega.{arith}
use mathlib.Core.Path.{ap₂}
use Prim.Native.Nat.{ℕ, ◌+◌, ◌-◌}
use Rattle.table_entries.proofs.Seeks.{stands_next}
use Rattle.table_entries.proofs.Entries.{entry_inside}
use Rattle.table_entries.proofs.next_entry.Goals as goal

pub le32-m-requires : goal.le32-m-requires
le32-m-requires c = omega (arith, entry_inside _ _ _ c.requires.standing c.requires.left_nonzero)

pub returns : goal.returns
returns c =
    let s = c.args.table.now in
    let at = c.args.place.at in
    let left = c.args.place.left in
    let n = c.le16-n in
    let m = c.le32-m in
    record { value = ap₂ (λ (a b : ℕ). record { at = at + 24 + a + b; left = left - 1 }) n.ensures.0 m.ensures.0; standing_2 = stands_next s left at c.requires.left_nonzero c.requires.standing n.result n.ensures.0 m.result m.ensures.0 }
