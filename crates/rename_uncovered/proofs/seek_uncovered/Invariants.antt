-- `seek_uncovered` meets its contract: each record that is covered is passed, and so are the entries before it.
use Rattle.rename_uncovered.proofs.Passes.{Seeking}
use Rattle.rename_uncovered.proofs.seek_uncovered.Given as goal

abbrev pub invariant-loop-here : goal.invariant-loop-here
invariant-loop-here l = Seeking l.part l.table l.source l.initial.flags l.initial.here.left l.initial.here.at l.initial.place.left l.initial.place.at l.flags l.here.left l.here.at l.place.left l.place.at

abbrev pub decreases-loop-here : goal.decreases-loop-here
decreases-loop-here l = l.here.left
