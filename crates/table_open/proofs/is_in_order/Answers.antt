-- `table_open::is_in_order` meets its contract: one law for each exit.
use mathlib.Core.Path.{◌≡◌, refl, sym, ◌∙◌}
use mathlib.Core.Bool.{◌&&◌}
use Rattle.model.specs.Path.{is_path}
use Rattle.model.specs.Table.{key_at}
use Rattle.table_open.specs.Pass.{headed, referring}
use Rattle.table_open.proofs.Steps.{fits_is, not_fitting, by_chain, then_next, else_next}
use Rattle.table_open.proofs.is_in_order.Goals as goal
use Rattle.table_open.proofs.is_in_order.Goals.{then-is_headed, else-is_headed, then-is_keyed, else-is_keyed}

pub returns-then-not-is_inside : goal.returns-then-not-is_inside
returns-then-not-is_inside c = not_fitting _ _ _ c.is_inside.ensures c.if-not-is_inside.true

pub is_headed-requires : goal.is_headed-requires
is_headed-requires c = (fits_is _ _ (sym c.is_inside.ensures ∙ c.if-not-is_inside.false)).0

pub is_keyed-requires : goal.is_keyed-requires
is_keyed-requires c = fits_is _ _ (sym c.is_inside.ensures ∙ c.if-not-is_inside.false)

pub is_referring-requires : goal.is_referring-requires
is_referring-requires c = fits_is _ _ (sym c.is_inside.ensures ∙ c.if-not-is_inside.false)

pub is_behind-requires-clause-at_in_bounds : goal.is_behind-requires-clause-at_in_bounds
is_behind-requires-clause-at_in_bounds c = fits_is _ _ (sym c.is_inside.ensures ∙ c.if-not-is_inside.false)

pub returns-then-is_referring : goal.returns-then-is_referring
returns-then-is_referring c =
    let s = c.args.table.now in
    let at = c.args.at in
    let e : c.if-is_headed.value ≡ (headed s at && is_path (key_at s at)) = elim c.if-is_headed.branch [
      | then-is_headed w ↦ then_next c.is_headed.ensures w.if-is_headed.true w.value-is w.is_keyed.ensures
      | else-is_headed w ↦ else_next c.is_headed.ensures w.if-is_headed.false (is_path (key_at s at)) w.value-is
    ] in
    let f : c.if-is_keyed.value ≡ ((headed s at && is_path (key_at s at)) && referring s at) = elim c.if-is_keyed.branch [
      | then-is_keyed w ↦ then_next e w.if-is_keyed.true w.value-is w.is_referring.ensures
      | else-is_keyed w ↦ else_next e w.if-is_keyed.false (referring s at) w.value-is
    ] in
    then_next f c.if-is_referring.true refl c.is_behind.ensures ∙ by_chain s at _ c.is_inside.ensures c.if-not-is_inside.false

pub returns-else-is_referring : goal.returns-else-is_referring
returns-else-is_referring c =
    let s = c.args.table.now in
    let at = c.args.at in
    let e : c.if-is_headed.value ≡ (headed s at && is_path (key_at s at)) = elim c.if-is_headed.branch [
      | then-is_headed w ↦ then_next c.is_headed.ensures w.if-is_headed.true w.value-is w.is_keyed.ensures
      | else-is_headed w ↦ else_next c.is_headed.ensures w.if-is_headed.false (is_path (key_at s at)) w.value-is
    ] in
    let f : c.if-is_keyed.value ≡ ((headed s at && is_path (key_at s at)) && referring s at) = elim c.if-is_keyed.branch [
      | then-is_keyed w ↦ then_next e w.if-is_keyed.true w.value-is w.is_referring.ensures
      | else-is_keyed w ↦ else_next e w.if-is_keyed.false (referring s at) w.value-is
    ] in
    else_next f c.if-is_referring.false _ refl ∙ by_chain s at _ c.is_inside.ensures c.if-not-is_inside.false
