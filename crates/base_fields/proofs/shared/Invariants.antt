-- `base_fields::shared` meets its contract. The invariant: what is in common from i on, and i, are what is in common.
-- The measure is what is left of the shorter one.
use mathlib.Core.Path.{◌≡◌}
use Prim.Native.Nat.{◌+◌, ◌-◌, ◌≤◌}
use lib.ListN.{length, drop}
use Rattle.base_fields.specs.Read.{common}
use Rattle.base_fields.proofs.shared.Given as goal

abbrev pub invariant-loop-i : goal.invariant-loop-i
invariant-loop-i l = (l.i ≤ l.m) × (l.m ≤ length l.a) × (l.m ≤ length l.b) × (common l.a l.b ≡ l.i + common (drop l.i l.a) (drop l.i l.b))

abbrev pub decreases-loop-i : goal.decreases-loop-i
decreases-loop-i l = l.m - l.i
