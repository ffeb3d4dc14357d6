-- `append_memory` meets its contract: an own file passes, and for another path the budget decides.
use Rattle.model.specs.Map.{lookup}
use Rattle.model.specs.Listing.{tree_in}
use Rattle.model.specs.Table.{table_in}
use Rattle.model.specs.Outcome.{shown_in}
use Rattle.check_content.proofs.Owned.{listed_not_own}
use Rattle.call_content.proofs.Judges.{own_unasked, over_budget_lem}
use Rattle.call_content.proofs.append_memory.Goals as goal

pub returns-then-is_own : goal.returns-then-is_own
returns-then-is_own c =
    let a = c.args in
    let p = a.path.now in
    let t = table_in a.table.now a.rec in
    let w = c.is_own in
    λ l n v.
    own_unasked a.rec.entry_size a.limit t (shown_in l a.table.now a.rec p) n w.result
    (w.ensures a.table.now (lookup t p) (lookup (tree_in l) p) c.get-entry.ensures (listed_not_own l p)) c.if-is_own.true

pub returns : goal.returns
returns c =
    let a = c.args in
    let p = a.path.now in
    let t = table_in a.table.now a.rec in
    let w = c.is_own in
    let u = c.memory_usage-charge in
    let f = c.check_budget in
    λ l n v.
    over_budget_lem a.rec.entry_size a.limit t (shown_in l a.table.now a.rec p) n w.result
    (w.ensures a.table.now (lookup t p) (lookup (tree_in l) p) c.get-entry.ensures (listed_not_own l p)) c.if-is_own.false
    u.result a.len u.ensures v f.result f.ensures c.if-check_budget.false
