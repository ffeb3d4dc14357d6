-- `table_open::is_referring` meets its contract: one law for each exit.
use mathlib.Core.Path.{refl, ap, sym, ◌∙◌}
use mathlib.Core.Bool.{Bool, ◌&&◌}
use borrow.Author.Tests.{lt-ltb}
use Rattle.table_open.proofs.Steps.{is_reference, no_reference, empty_body}
use Rattle.table_open.proofs.is_referring.Goals as goal

pub returns-then-le16-ne-REFERENCE : goal.returns-then-le16-ne-REFERENCE
returns-then-le16-ne-REFERENCE c = no_reference _ _ _ c.le16.ensures.0 c.if-le16-ne-REFERENCE.true

pub returns-then-m-gt0 : goal.returns-then-m-gt0
returns-then-m-gt0 c =
    ap (λ (b : Bool). b && c.is_path.result) (sym (lt-ltb 0 c.le32-m.result c.if-m-gt0.true))
    ∙ is_reference _ _ _ c.le16-n.ensures.0 _ _ _ c.le16.ensures.0 c.if-le16-ne-REFERENCE.false c.le32-m.ensures.0 c.is_path.ensures

pub returns-else-m-gt0 : goal.returns-else-m-gt0
returns-else-m-gt0 c =
    empty_body c.le32-m.result c.if-m-gt0.false _ _ (is_reference c.args.table.now c.args.at c.le16-n.result c.le16-n.ensures.0 _ _ _
    c.le16.ensures.0 c.if-le16-ne-REFERENCE.false c.le32-m.ensures.0 refl)
