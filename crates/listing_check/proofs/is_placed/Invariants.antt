-- `listing_check::is_placed` meets its contract: the ancestors from the i-th byte on are left.
use mathlib.Core.Bool.{Bool}
use mathlib.Core.Path.{◌≡◌}
use Rattle.model.specs.Path.{Path, ancestors}
use Rattle.model.specs.Bytes.{every}
use Rattle.base_paths.specs.Ancestors.{ancestors_from}
use Rattle.listing_check.specs.Turn.{Agree}
use Rattle.listing_check.proofs.is_placed.Given as goal

abbrev pub invariant-loop-i : goal.invariant-loop-i
invariant-loop-i l = (f : Path → Bool) → Agree l.flags l.path f → every f (ancestors_from l.path l.i) ≡ every f (ancestors l.path)
