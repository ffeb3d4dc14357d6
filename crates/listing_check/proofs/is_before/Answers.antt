-- `listing_check::is_before` meets its contract: the bytes behind those in common decide.
use mathlib.Core.Path.{◌≡◌, sym}
use Prim.Native.Nat.{ℕ, ◌<◌, ◌≤◌}
use native.Mathlib.Omega.{arith}
use lib.Dec.{ltb}
use lib.ListN.{length}
use borrow.Author.Rules.{rules}
use borrow.Author.Tests.{ltb-true, ltb-false}
use Rattle.model.specs.Bytes.{Bytes, before}
use Rattle.model.proofs.Orders.{yea, nay, test}
use Rattle.base_fields.specs.Read.{common}
use Rattle.base_fields.proofs.Common.{order_first_ends, before_ended, before_apart}
use Rattle.listing_check.proofs.is_before.Goals as goal

-- where one of the two has no bytes but those in common, a is before b if b has more
front : (a b : Bytes) (n : ℕ) → n ≡ common a b → (n < length b → length a ≤ n) → ltb n (length b) ≡ before a b
front a b n e h = elim (test (ltb n (length b))) [
  | yea t ↦ (let l : n < length b = ltb-true n (length b) t in cc (order_first_ends a b n e (h l) l))
  | nay t ↦ cc (before_ended a b n e (ltb-false n (length b) t))
]

pub returns-then-n-b : goal.returns-then-n-b
returns-then-n-b c =
    let a = c.args in
    sym (before_apart a.a.now a.b.now a.n c.requires (search rules) (search rules))

pub returns-else-n-a : goal.returns-else-n-a
returns-else-n-a c =
    let a = c.args in
    front a.a.now a.b.now a.n c.requires (λ l. omega (arith, c.else-n-a.either))
