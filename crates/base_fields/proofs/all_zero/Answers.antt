-- `base_fields::all_zero` meets its contract: what is folded is whether all bytes are 0.
use Rattle.std.proofs.Common.{rules, tests, ◌∙◌, length, ◌≤◌, arith}
use mathlib.Core.Bool.{Bool, true, ◌&&◌}
use Prim.Native.Nat.{ℕ}
use lib.Dec.{eqb}
use lib.ListN.{drop}
use Rattle.std.proofs.lemmas.Iterator.{YieldsList-from_slice}
use Rattle.std.proofs.lemmas.Iterator.Consumers.{fold_from_yields_List}
use Rattle.std.proofs.lemmas.Slice.{between_to_end}
use Rattle.base_fields.proofs.Zeros.{folded}
use Rattle.base_fields.proofs.all_zero.Goals as goal

pub returns-else-s-from : goal.returns-else-s-from
returns-else-s-from c =
    let s = c.args.s.now in
    let from = c.args.from in
    let n : length s ≤ length s = omega arith in
    let rest = YieldsList-from_slice (drop from s) (c.iter.ensures.rest ∙ between_to_end s from (length s) n) in
    fold_from_yields_List _ (λ (a : Bool) (b : ℕ). a && eqb b 0) true _ c.fold.ensures.ran rest
    (λ a x b q k. search (rules, tests))
    ∙ folded (drop from s)
