-- `inside_checks` meets its contract: the entry decides over any listing, then the sum.
use native.Mathlib.Omega.{arith}
use borrow.Author.Rules.{rules}
use Rattle.model.specs.Map.{lookup}
use Rattle.model.specs.Listing.{tree_in}
use Rattle.model.specs.Table.{table_in}
use Rattle.check_content.proofs.Owned.{listed_not_own, not_own, too_far, in_range}
use Rattle.check_content.proofs.inside_checks.Goals as goal

pub returns-then-not-is_own : goal.returns-then-not-is_own
returns-then-not-is_own c =
    let a = c.args in
    let g = c.get in
    let w = c.is_own in
    λ l d z.
    not_own l a.table.now a.rec a.path.now c.requires w.result (w.ensures a.table.now (lookup (table_in a.table.now a.rec) a.path.now) (lookup (tree_in l) a.path.now) g.ensures (listed_not_own l a.path.now)) a.offset a.added d z (c.if-not-is_own.true)

pub returns-then-added-offset : goal.returns-then-added-offset
returns-then-added-offset c =
    let a = c.args in
    let g = c.get in
    let w = c.is_own in
    λ l d z.
    let x = c.if-added-offset.true in
    let q = c.ranges in
    too_far l a.table.now a.rec a.path.now c.requires w.result (w.ensures a.table.now (lookup (table_in a.table.now a.rec) a.path.now) (lookup (tree_in l) a.path.now) g.ensures (listed_not_own l a.path.now)) a.offset a.added d z (search rules) (omega arith)

pub returns : goal.returns
returns c =
    let a = c.args in
    let g = c.get in
    let w = c.is_own in
    λ l d z.
    let x = c.if-added-offset.false in
    let q = c.ranges in
    in_range l a.table.now a.rec a.path.now c.requires w.result (w.ensures a.table.now (lookup (table_in a.table.now a.rec) a.path.now) (lookup (tree_in l) a.path.now) g.ensures (listed_not_own l a.path.now)) a.offset a.added d z (c.if-not-is_own.false) (omega arith)
