-- `views::show` meets its contract: where nothing is asked for it gives true; and what is shown was checked.
use mathlib.Core.Path.{refl, sym, ◌∙◌}
use mathlib.Core.Bool.{◌||◌}
use Rattle.prog_variant.proofs.Arguments.{asked_both}
use mathlib.Core.Path.{ap}
use mathlib.Core.Bool.{not}
use Rattle.prog_variant.proofs.views.show.Goals as goal

pub returns-then-not-asked : goal.returns-then-not-asked
returns-then-not-asked g c = λ h. refl

pub returns-in_err-text : goal.returns-in_err-text
returns-in_err-text g c =
    let a = c.args.asked in
    λ h. absurd (asked_both (a.tree || a.changes) (ap not c.if-not-asked.false) h)

pub returns-then-not-check : goal.returns-then-not-check
returns-then-not-check g c =
    let a = c.args.asked in
    λ h. absurd (asked_both (a.tree || a.changes) (ap not c.if-not-asked.false) h)

pub show_checked-requires : goal.show_checked-requires
show_checked-requires g c =
    let l = c.check in
    let t = c.check-2 in (
      sym l.ensures ∙ c.if-not-check.false,
      sym t.ensures ∙ c.if-not-check-2.false,
    )

pub returns-in_err-text-2 : goal.returns-in_err-text-2
returns-in_err-text-2 g c =
    let a = c.args.asked in
    λ h. absurd (asked_both (a.tree || a.changes) (ap not c.if-not-asked.false) h)
