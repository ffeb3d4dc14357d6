-- `overlay_directory_has_children` meets its contract: the entries below the directory have all its children.
use mathlib.Core.Path.{ap, ◌∙◌}
use Rattle.model.specs.Table.{table_in}
use Rattle.table_below.specs.Parts.{visible_in}
use Rattle.view_children.proofs.Sublists.{visible_below}
use Rattle.view_children.proofs.overlay_directory_has_children.Goals as goal

pub returns : goal.returns
returns c =
    let a = c.args in
    c.has_visible_child.ensures
    ∙ ap (visible_in a.dir.now) c.below-part.ensures.are
    ∙ visible_below a.dir.now (table_in a.table.now a.rec)
