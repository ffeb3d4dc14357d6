-- `has_visible_children` meets its contract: a visible child is in the table, or listed without an entry.
use mathlib.Core.Path.{◌∙◌}
use Rattle.model.specs.Listing.{tree_in}
use Rattle.view_children.proofs.Visibles.{in_table, in_listing}
use Rattle.view_children.proofs.has_visible_children.Goals as goal

pub returns-then-overlay_directory_has_children : goal.returns-then-overlay_directory_has_children
returns-then-overlay_directory_has_children c =
    let a = c.args in
    let o = c.overlay_directory_has_children in
    c.if-overlay_directory_has_children.true ∙ in_table a.table.now a.rec c.requires.rec_value (tree_in a.listing.now) a.dir.now o.result o.ensures c.if-overlay_directory_has_children.true

pub returns-else-overlay_directory_has_children : goal.returns-else-overlay_directory_has_children
returns-else-overlay_directory_has_children c =
    let a = c.args in
    let o = c.overlay_directory_has_children in
    let l = c.real_directory_has_visible_children in
    in_listing a.table.now a.rec c.requires.rec_value (tree_in a.listing.now) a.dir.now o.result o.ensures c.if-overlay_directory_has_children.false l.result
    l.ensures
