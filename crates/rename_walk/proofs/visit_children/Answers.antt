-- `visit_children` meets its contract: each record is visited if it is a child without an entry, and the entries before it are passed.
use mathlib.Core.Path.{◌≡◌, ap, ◌∙◌}
use mathlib.Core.Option.{Option, some}
use Prim.Native.Nat.{ℕ, ◌+◌, ◌-◌}
use native.Mathlib.Omega.{arith}
use Rattle.model.specs.Table.{entries_at}
use Rattle.model.specs.Rename.{sum, visits, children}
use Rattle.listing_records.specs.Place.{tree_at}
use Rattle.std.proofs.lemmas.Result.{err_from_is_err_and}
use Rattle.rename_walk.proofs.Visitings.{visit_on, visit_end, visit_ended, one_bare, one_passed, err_ended}
use Rattle.rename_walk.proofs.visit_children.Goals.{then-child+in_ok-sum, else-child}
use Rattle.rename_walk.proofs.visit_children.Goals as goal

pub loop-preserved : goal.loop-preserved
loop-preserved c =
    let a = c.args in
    let l = c.loop in
    let r = a.records.now in
    let b : Option ℕ = some a.budget.available in
    let t = entries_at a.table.now l.entries.left l.entries.at in
    let u = entries_at a.table.now a.place.left a.place.at in
    let x = c.bare_child-child in
    let n = c.next_record-here in
    let m = a.stretch.count - l.counter in
    let h = c.loop-test.true in
    let k : sum c.if-child.sum ≡ visits b (sum l.sum) (children t (tree_at r 1 l.here.at) a.dir.now)
    = elim c.if-child.branch [
      | then-child+in_ok-sum w ↦ ap sum w.sum-is
          ∙ one_bare r l.here.at t a.dir.now b (sum l.sum) x.result.bare x.ensures.bare_value w.if-child.true _ w.in_ok-sum.ensures
      | else-child w ↦ ap sum w.sum-is ∙ one_passed r l.here.at t a.dir.now b (sum l.sum) x.result.bare x.ensures.bare_value w.if-child.false
    ] in
    visit_on r a.table.now a.dir.now b u (visits b (sum a.total) (children u (tree_at r a.stretch.count a.stretch.at) a.dir.now))
    l.here.left m l.here.at l.entries.left l.entries.at (sum l.sum) l.invariant (omega arith) (sum c.if-child.sum) k
    n.result n.ensures.value n.ensures.standing_2 x.result.place.left x.result.place.at x.ensures.sought
    (a.stretch.count - (l.counter + 1)) (omega arith)

pub returns-in_err-sum : goal.returns-in_err-sum
returns-in_err-sum c =
    let a = c.args in
    let l = c.loop in
    let r = a.records.now in
    let b : Option ℕ = some a.budget.available in
    let t = entries_at a.table.now l.entries.left l.entries.at in
    let u = entries_at a.table.now a.place.left a.place.at in
    let x = c.bare_child-child in
    let m = a.stretch.count - l.counter in
    let h = c.loop-test.true in
    let p = err_from_is_err_and c.from_residual.result c.from_residual.ensures.1 in
    rw (p.1, p.2)
    (visit_ended r a.table.now a.dir.now b u (visits b (sum a.total) (children u (tree_at r a.stretch.count a.stretch.at) a.dir.now))
    l.here.left m l.here.at l.entries.left l.entries.at (sum l.sum) l.invariant (omega arith) _
    (one_bare r l.here.at t a.dir.now b (sum l.sum) x.result.bare x.ensures.bare_value c.if-child.true _ c.in_err-sum.ensures)
    (err_ended _))

pub returns : goal.returns
returns c =
    let a = c.args in
    let l = c.loop in
    let r = a.records.now in
    let b : Option ℕ = some a.budget.available in
    let u = entries_at a.table.now a.place.left a.place.at in
    let m = a.stretch.count - l.counter in
    let h = c.loop-test.false in
    visit_end r a.table.now a.dir.now b u (visits b (sum a.total) (children u (tree_at r a.stretch.count a.stretch.at) a.dir.now))
    l.here.left m l.here.at l.entries.left l.entries.at (sum l.sum) l.invariant (omega arith)
