-- `is_below` meets its contract: the directory's bytes are all in common, and a slash follows.
use mathlib.Core.Path.{◌∙◌}
use mathlib.Core.Logic.{inl, inr}
use native.Mathlib.Omega.{arith}
use borrow.Author.Tests.{le-ltb, ne_eqb}
use Rattle.base_paths.proofs.Related.{below_apart, below_over, below_next}
use Rattle.base_paths.proofs.relations.is_below.Goals as goal
use Rattle.base_paths.proofs.relations.is_below.Goals.{then-n-dir, else-n-dir}

pub returns-then-n-path : goal.returns-then-n-path
returns-then-n-path c =
    let n = c.shared-n in
    below_next c.args.dir.now c.args.path.now n.result n.ensures.value (omega arith) c.if-n-path.true.1

pub returns-else-n-path : goal.returns-else-n-path
returns-else-n-path c =
    let n = c.shared-n in
    let d = c.args.dir.now in
    let q = c.args.path.now in
    elim c.if-n-dir.branch [
      | then-n-dir w ↦ elim c.if-n-path.either [
        | inl h ↦ w.t-5-is ∙ le-ltb _ _ h.1 ∙ below_over d q (omega (arith, n.ensures.value, h.1))
        | inr h ↦ absurd (h w.if-n-dir.true)
      ]
      | else-n-dir w ↦ w.t-5-is ∙ ne_eqb _ _ w.if-n-dir.false ∙ below_apart d q (omega (arith, n.ensures.value, n.ensures.within, w.if-n-dir.false))
    ]
