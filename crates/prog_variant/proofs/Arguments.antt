-- Something is to be shown, or nothing.
use mathlib.Core.Path.{◌≡◌}
use mathlib.Core.Bool.{Bool, false, not}
use borrow.Author.Tests.{not-false}
use Rattle.model.proofs.Orders.{bot}

-- something is to be shown, and nothing is
pub asked_both : (b : Bool) → not b ≡ false → b ≡ false → ⊥
asked_both b h g = let e = not-false b h in bot (cc)
