-- `is_child` meets its contract: the path lies below the directory, and no slash stands behind the first.
use mathlib.Core.Path.{◌≡◌, sym, ap, ◌∙◌}
use mathlib.Core.Bool.{Bool, true, not, ◌&&◌}
use Prim.Native.Nat.{ℕ, ◌+◌, ◌≤◌}
use native.Mathlib.Omega.{arith}
use lib.Dec.{eqb}
use lib.ListN.{length, drop}
use borrow.Author.Rules.{rules}
use Rattle.std.specs.List.{list_any}
use Rattle.std.proofs.lemmas.Slice.{between_to_end}
use Rattle.model.specs.Path.{below, slashless}
use Rattle.base_paths.proofs.Related.{below_long, child_below, none_any}
use Rattle.base_paths.proofs.relations.is_child.Goals as goal

pub slice_bounds-contains-count : goal.slice_bounds-contains-count
slice_bounds-contains-count c = omega (arith, below_long c.args.dir.now c.args.path.now (sym c.is_below.ensures ∙ c.if-is_below.true))

pub slice_bounds-contains-start : goal.slice_bounds-contains-start
slice_bounds-contains-start c =
    let e = below_long c.args.dir.now c.args.path.now (sym c.is_below.ensures ∙ c.if-is_below.true) in
    search rules

pub returns-then-is_below : goal.returns-then-is_below
returns-then-is_below c =
    let d = c.args.dir.now in
    let q = c.args.path.now in
    let k : ℕ = length d + 1 in
    let n : length q ≤ length q = omega arith in
    let b : below d q ≡ true = sym c.is_below.ensures ∙ c.if-is_below.true in
    let e : c.contains.result ≡ list_any (λ (y : ℕ). eqb y 47) (drop k q)
    = c.contains.ensures.value ∙ ap (list_any (λ (y : ℕ). eqb y 47)) (between_to_end q k (length q) n) in
    ap not e ∙ none_any (drop k q) ∙ sym (child_below d q ∙ ap (λ (t : Bool). t && slashless (drop k q)) b)

pub returns-else-is_below : goal.returns-else-is_below
returns-else-is_below c = rw (child_below c.args.dir.now c.args.path.now, ← c.is_below.ensures, c.if-is_below.false)
