use Rattle.std.proofs.Common.{◌≡◌, ◌-◌, length}
use Rattle.prog_listing.proofs.many.Given as goal

abbrev pub invariant-loop-i : goal.invariant-loop-i
invariant-loop-i l = length l.s ≡ length l.initial.s

abbrev pub decreases-loop-i : goal.decreases-loop-i
decreases-loop-i l = l.n - l._i
