-- What opening answers and leaves, for an entry size and a buffer in their limits and for others.
use mathlib.Core.Path.{◌≡◌, refl, sym, ◌∙◌}
use mathlib.Core.Bool.{Bool, true, not}
use mathlib.Core.List.{[]}
use Prim.Native.Nat.{ℕ}
use lib.ListN.{length}
use borrow.Author.Tests.{not-true}
use Rattle.model.specs.Bytes.{Bytes}
use Rattle.model.specs.Table.{record_of, sized}
use Rattle.model.specs.Answer.{refused}
use Rattle.model.specs.Outcome.{opened}

module _ (E : ℕ) (t : Bytes) {b : Bool} (e : b ≡ sized E (length t)) where
  pub not_opened : not b ≡ true
      → (refused 1 0 0 ≡ (opened E t).reply) × ((record_of E [] ≡ (opened E t).store.rec) × (t ≡ (opened E t).store.table))
  not_opened z = rw (sym e ∙ not-true b z) (refl, (refl, refl))
