-- `visible_at` meets its contract: the entry at the path, or what is listed there; the root apart.
use Rattle.model.specs.Table.{table_in}
use Rattle.model.specs.Listing.{tree_in}
use Rattle.model.specs.Tree.{shown}
use Rattle.listing_dir.proofs.Targets.{root_kind}
use Rattle.view_at.specs.Sight.{visible_kind}
use Rattle.view_at.proofs.Sights.{whole_kind}
use Rattle.view_at.proofs.visible_at.Goals as goal

pub returns-then-path-eq0 : goal.returns-then-path-eq0
returns-then-path-eq0 c =
    let a = c.args in
    root_kind (shown (table_in a.table.now a.rec) (tree_in a.listing.now)) a.path.now c.if-path-eq0.true

pub returns : goal.returns
returns c =
    let a = c.args in
    let g = c.get-entry in
    let t = c.kind_of-target in
    whole_kind a.listing.now a.table.now a.rec a.path.now c.if-path-eq0.false (visible_kind c.over.result) g.result
    t.result g.ensures t.ensures c.over.ensures
