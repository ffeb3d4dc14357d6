-- `is_visible_child` meets its contract: the key is the entry's, and kind 4 is that of a deleted entry.
use mathlib.Core.Path.{ap, sym, ◌∙◌}
use mathlib.Core.Bool.{Bool, not, ◌&&◌}
use lib.Dec.{eqb}
use native.Mathlib.Omega.{arith}
use Rattle.table_entries.proofs.Entries.{entry_inside}
use Rattle.table_below.proofs.Children.{visible_here}
use Rattle.table_below.proofs.is_visible_child.Goals as goal

pub le16-kind-requires : goal.le16-kind-requires
le16-kind-requires c = omega (arith, entry_inside _ _ _ c.requires.standing c.requires.left_nonzero)

pub returns-then-is_child : goal.returns-then-is_child
returns-then-is_child c =
    let k = c.le16-kind in
    let q = c.entry_key-key in
    ap (λ (b : Bool). b && not (eqb k.result 4)) (sym c.if-is_child.true)
    ∙ visible_here _ _ _ c.requires.left_nonzero c.requires.standing _ _ k.ensures.0 _ q.ensures _ c.is_child.ensures
