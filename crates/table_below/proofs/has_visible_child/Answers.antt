-- `has_visible_child` meets its contract: each entry that is no such child is passed.
use Rattle.table_entries.proofs.Entries.{left_some}
use Rattle.table_below.proofs.Children.{look_start, look_found, look_on, look_end}
use Rattle.table_below.proofs.has_visible_child.Goals as goal

pub loop-i-init : goal.loop-i-init
loop-i-init c = look_start _ _ _ c.requires

pub is_visible_child-requires : goal.is_visible_child-requires
is_visible_child-requires c = record { standing = c.loop-i.invariant.stand; left_nonzero = left_some _ _ c.loop-i-test.true }

pub returns-then-is_visible_child : goal.returns-then-is_visible_child
returns-then-is_visible_child c = look_found _ _ _ _ _ c.loop-i.invariant c.loop-i-test.true _ c.is_visible_child.ensures c.if-is_visible_child.true

pub next_entry-at-requires : goal.next_entry-at-requires
next_entry-at-requires c = record { standing = c.loop-i.invariant.stand; left_nonzero = left_some _ _ c.loop-i-test.true }

pub loop-i-preserved : goal.loop-i-preserved
loop-i-preserved c =
    let q = c.next_entry-at in
    look_on _ _ _ _ _ c.loop-i.invariant c.loop-i-test.true _ c.is_visible_child.ensures c.if-is_visible_child.false
    q.result q.ensures.value q.ensures.standing_2

pub returns : goal.returns
returns c = look_end _ _ _ _ _ c.loop-i.invariant c.loop-i-test.false
