-- What the walk answers in code, as a walk of the definition.
use Rattle.std.specs.Prelude.{Bool, true, false, ℕ, Result, Ok, Err}
use Rattle.model.specs.Rename.{at_link, Walk, sum, over_budget, stopped}
use Rattle.model.specs.Rename as rename
use Rattle.rename_walk.specs.declared.Stop.{Stop}
use Rattle.rename_walk.specs.declared.Stop.TheVariants as stop
use Rattle.rename_walk.specs.declared.Ended.{Ended}
use Rattle.rename_walk.specs.declared.Ended.TheVariants as early

-- what has stopped it, as a stop of the definition
abbrev pub stop_of : Stop → rename.Stop
stop_of stop.AtLink = at_link

abbrev pub walk_of : Result ℕ Ended → Walk
walk_of (Ok n) = sum n
walk_of (Err early.OverBudget) = over_budget
walk_of (Err (early.Stopped x n)) = stopped (stop_of x) n

-- nothing is added to a walk that has ended
abbrev pub ended : Walk → Bool
ended (sum n) = false
ended over_budget = true
ended (stopped x n) = true
