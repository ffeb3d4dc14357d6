-- `listed_without_entry` meets its contract: each record that is no such child is passed, and so are the entries before
-- it.
use mathlib.Core.Path.{◌≡◌, refl, sym, ◌∙◌}
use mathlib.Core.Bool.{false, ◌&&◌}
use Prim.Native.Nat.{◌+◌, ◌-◌}
use native.Mathlib.Omega.{arith}
use Rattle.model.specs.Path.{child}
use Rattle.model.specs.Map.{lookup, is_none}
use Rattle.model.specs.Table.{entries_at}
use Rattle.view_children.proofs.Searches.{search_found, search_on, none_of}
use Rattle.view_children.proofs.listed_without_entry.Goals.{else-is_child-via-then-is_child+else-is_absent, else-is_child-via-else-is_child}
use Rattle.view_children.proofs.listed_without_entry.Goals as goal

pub returns-then-is_absent : goal.returns-then-is_absent
returns-then-is_absent c =
    let a = c.args in
    let l = c.loop-i in
    let p = c.record_path-path in
    search_found a.part.now a.table.now a.dir.now a.count (entries_at a.table.now a.place.left a.place.at)
    (a.count - l.i) l.at l.entries.left l.entries.at l.invariant (omega arith)
    p.result.now p.ensures (sym c.is_child.ensures ∙ c.if-is_child.true)
    (sym (c.is_absent.ensures _ _ c.get_from-got.ensures.result_value) ∙ c.if-is_absent.true)

pub loop-i-preserved : goal.loop-i-preserved
loop-i-preserved c =
    let a = c.args in
    let l = c.loop-i in
    let p = c.record_path-path in
    let g = c.get_from-got in
    let n = c.next_record-at in
    let z : (child a.dir.now p.result.now && is_none (lookup (entries_at a.table.now l.entries.left l.entries.at) p.result.now)) ≡ false
    = elim c.else-is_child.branch [
      | else-is_child-via-then-is_child+else-is_absent w ↦
          none_of _ _ (sym (w.is_absent.ensures _ _ g.ensures.result_value) ∙ w.if-is_absent.false)
      | else-is_child-via-else-is_child w ↦ (let x = sym c.is_child.ensures ∙ w.if-is_child.false in rw x refl)
    ] in
    search_on a.part.now a.table.now a.dir.now a.count (entries_at a.table.now a.place.left a.place.at)
    (a.count - l.i) l.at l.entries.left l.entries.at l.invariant (omega arith)
    p.result.now p.ensures z n.result n.ensures.value n.ensures.standing_2 (a.count - (l.i + 1)) (omega arith)
    g.result.place.left g.result.place.at g.ensures.sought
