-- `judge` meets its contract: one law for each exit.
use mathlib.Core.Path.{sym, ◌∙◌}
use native.Mathlib.Omega.{arith}
use Rattle.kept_write.proofs.Verdicts.{small}
use Rattle.kept_write.proofs.judge.Goals as goal

pub overflow_add-len-4 : goal.overflow_add-len-4
overflow_add-len-4 c =
    let a = c.args in
    omega (
      arith,
      small a.listing.now a.table.now a.rec (sym c.check.ensures ∙ c.if-not-check.false)
          (sym c.check-2.ensures ∙ c.if-not-check-2.false),
    )
