use Rattle.std.proofs.Common.{◌≡◌, ◌-◌, length}
use Rattle.prog_listing.proofs.family.Given as goal

abbrev pub invariant-loop-d : goal.invariant-loop-d
invariant-loop-d l = length l.s ≡ length l.initial.s

abbrev pub decreases-loop-d : goal.decreases-loop-d
decreases-loop-d l = 200 - l.d
