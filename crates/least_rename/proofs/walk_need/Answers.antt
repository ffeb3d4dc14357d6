-- `walk_need` meets its contract: what the walk comes to is one sum, whatever its order.
use Rattle.std.proofs.Common.{◌+◌, ◌*◌, length}
use native.Mathlib.Omega.{arith}
use Rattle.model.specs.Map.{lookup}
use Rattle.model.specs.Tree.{kind}
use Rattle.model.specs.Listing.{tree_in}
use Rattle.model.specs.Table.{table_in}
use Rattle.least_rename.proofs.Needing.{tree_fine, walk_stopped, walk_sums, sum_none, sum_some}
use Rattle.least_rename.proofs.walk_need.Goals as goal

pub returns-then-total-clause-needed_for : goal.returns-then-total-clause-needed_for
returns-then-total-clause-needed_for c =
    let a = c.args in
    let f = tree_fine a.listing.now (λ i. omega (arith, c.type_inv.listing i)) c.requires.given.listing_is in
    let r = c.reached_total-total in
    walk_stopped (table_in a.table.now a.rec) (tree_in a.listing.now) a.source.now f (kind (lookup (tree_in a.listing.now)) a.source.now) c.is_listed_directory.result
    c.is_listed_directory.ensures c.if-not-is_listed_directory.false r.result.stops r.ensures.stops_value c.if-total.true

pub returns-then-total-eq0-clause-needed_for : goal.returns-then-total-eq0-clause-needed_for
returns-then-total-eq0-clause-needed_for c =
    let a = c.args in
    let f = tree_fine a.listing.now (λ i. omega (arith, c.type_inv.listing i)) c.requires.given.listing_is in
    let r = c.reached_total-total in
    walk_sums (table_in a.table.now a.rec) (tree_in a.listing.now) a.source.now f (kind (lookup (tree_in a.listing.now)) a.source.now) c.is_listed_directory.result
    c.is_listed_directory.ensures c.if-not-is_listed_directory.false r.result.stops r.ensures.stops_value c.if-total.false
    r.result.sum r.ensures.sum_value 0 (sum_none (2 * length a.source.now + 1) r.result.sum c.if-total-eq0.true)

pub returns-clause-needed_for : goal.returns-clause-needed_for
returns-clause-needed_for c =
    let a = c.args in
    let f = tree_fine a.listing.now (λ i. omega (arith, c.type_inv.listing i)) c.requires.given.listing_is in
    let r = c.reached_total-total in
    walk_sums (table_in a.table.now a.rec) (tree_in a.listing.now) a.source.now f (kind (lookup (tree_in a.listing.now)) a.source.now) c.is_listed_directory.result
    c.is_listed_directory.ensures c.if-not-is_listed_directory.false r.result.stops r.ensures.stops_value c.if-total.false
    r.result.sum r.ensures.sum_value _ (sum_some (2 * length a.source.now + 1) r.result.sum c.if-total-eq0.false)
