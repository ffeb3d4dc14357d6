-- `table_open::is_ruled` meets its contract: each type has its row of the rule.
use mathlib.Core.Path.{◌≡◌, refl}
use mathlib.Core.Bool.{Bool, true, false, ◌||◌}
use native.Mathlib.Omega.{arith}
use borrow.Author.Tests.{ne_eqb}
use Rattle.table_open.specs.Pass.{type_rule}
use borrow.Author.Rules.{rules}
use Rattle.table_open.proofs.is_ruled.Goals as goal
use Rattle.table_open.proofs.is_ruled.Goals.{then-body-eq0-2, else-body-eq0-2}

or_off : (a : Bool) → a ≡ (a || false)
or_off true = refl
or_off false = refl

or_off_twice : (a : Bool) → a ≡ ((a || false) || false)
or_off_twice true = refl
or_off_twice false = refl

or_off_thrice : (a : Bool) → a ≡ (((a || false) || false) || false)
or_off_thrice true = refl
or_off_thrice false = refl

pub returns-in-1 : goal.returns-in-1
unfolding type_rule
returns-in-1 c = rw c.in-1.is (or_off_thrice _)

pub returns-in-2 : goal.returns-in-2
unfolding type_rule
returns-in-2 c = rw c.in-2.is (or_off_twice _)

pub returns-then-body-eq0 : goal.returns-then-body-eq0
unfolding type_rule
returns-then-body-eq0 c = rw (c.in-3.is, c.if-body-eq0.true) (or_off _)

pub returns-else-body-eq0 : goal.returns-else-body-eq0
unfolding type_rule
returns-else-body-eq0 c = rw (c.in-3.is, ne_eqb _ _ c.if-body-eq0.false)

pub returns-then-size-eq0 : goal.returns-then-size-eq0
unfolding type_rule
returns-then-size-eq0 c = rw (c.in-4.is, c.if-size-eq0.true.0, c.if-size-eq0.true.1) refl

pub returns-else-size-eq0 : goal.returns-else-size-eq0
unfolding type_rule
returns-else-size-eq0 c =
    rw c.in-4.is (elim c.if-body-eq0-2.branch [
      | then-body-eq0-2 w ↦ search rules
      | else-body-eq0-2 w ↦ search rules
    ])

pub returns-in_default : goal.returns-in_default
unfolding type_rule
returns-in_default c =
    rw (ne_eqb c.args.kind 1 (λ e. omega arith), ne_eqb c.args.kind 2 (λ e. omega arith), ne_eqb c.args.kind 3 (λ e. omega arith), ne_eqb c.args.kind 4 (λ e. omega arith))
