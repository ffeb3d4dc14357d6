-- `ensure_parent_exists` meets its contract. The loop's invariant: the parents from the cursor on give what all give.
-- The measure is how many bytes are to come.
use mathlib.Core.Path.{◌≡◌}
use Prim.Native.Nat.{◌-◌, ◌≤◌}
use lib.ListN.{length}
use Rattle.model.specs.Tree.{shown, kind}
use Rattle.model.specs.Listing.{tree_in}
use Rattle.model.specs.Table.{table_in}
use Rattle.model.specs.Checks.{parent_checks, parents_in}
use Rattle.base_paths.specs.Ancestors.{ancestors_from}
use Rattle.check_parents.proofs.Parents.{Along}
use Rattle.check_parents.proofs.ensure_parent_exists.Given as goal

abbrev pub invariant-loop-at : goal.invariant-loop-at
invariant-loop-at l = (l.at ≤ length l.path)
    × Along l.listing l.table l.rec l.path l.sight l.at
    × (parents_in l.which (length l.path) (kind (shown (table_in l.table l.rec) (tree_in l.listing))) (ancestors_from l.path l.at)
    ≡ parent_checks l.which (shown (table_in l.table l.rec) (tree_in l.listing)) l.path)

abbrev pub decreases-loop-at : goal.decreases-loop-at
decreases-loop-at l = length l.path - l.at
