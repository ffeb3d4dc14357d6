-- `base_fields::copy_in` meets its contract. The invariant: t is t₀ with the first i bytes of src written over it.
use mathlib.Core.Path.{◌≡◌}
use Prim.Native.Nat.{◌≤◌}
use lib.ListN.{length}
use lib.Seq.{paste}
use Rattle.base_fields.proofs.copy_in.Given as goal

abbrev pub invariant-loop-i : goal.invariant-loop-i
invariant-loop-i l = (l.i ≤ length l.src) × (l.t ≡ paste l.initial.t l.at l.src l.i)
