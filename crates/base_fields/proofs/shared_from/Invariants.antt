-- `base_fields::shared_from` meets its contract. The invariant: what is in common from n on, and n, are what is in common.
use Rattle.std.proofs.Common.{◌≡◌, ◌+◌, ◌≤◌, length, drop}
use Rattle.base_fields.specs.Read.{common}
use Rattle.base_fields.proofs.shared_from.Given as goal

abbrev pub invariant-loop-x : goal.invariant-loop-x
invariant-loop-x l =
    (l.n ≡ l.from + length l.yielded) × (l.n ≤ length l.a) × (l.n ≤ length l.b) × (l.from + common (drop l.from l.a) (drop l.from l.b) ≡ l.n + common (drop l.n l.a) (drop l.n l.b))
