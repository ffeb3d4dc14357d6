-- `component_count` meets its contract: each slash begins one more component.
use mathlib.Core.Path.{◌≡◌, ap, ◌∙◌}
use Prim.Native.Nat.{ℕ, ◌+◌}
use lib.Dec.{eqb}
use Rattle.std.specs.List.{count_by}
use borrow.Author.Rules.{rules}
use Rattle.base_paths.proofs.Components.{counted_slashes}
use Rattle.base_paths.proofs.sizes.component_count.Goals as goal

pub returns : goal.returns
returns c =
    let s = c.args.path.now in
    let e : c.count.result ≡ count_by (λ (b : ℕ). eqb b 47) s = search rules in
    ap (λ (n : ℕ). 1 + n) e ∙ counted_slashes s
