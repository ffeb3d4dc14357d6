-- `overlay_dirs_to_create` meets its contract. The loop's invariant: the ancestors from the cursor on are judged as all are, and the missing ones
-- among them follow the ends found so far. The measure is how many bytes are to come.
use Prim.Native.Nat.{◌-◌, ◌≤◌}
use lib.ListN.{length}
use Rattle.model.specs.Tree.{shown, kind}
use Rattle.model.specs.Listing.{tree_in}
use Rattle.model.specs.Table.{table_in}
use Rattle.base_paths.specs.Dirs.{ends_of}
use Rattle.check_parents.proofs.Parents.{Along}
use Rattle.check_parents.proofs.Missing.{Going}
use Rattle.check_parents.proofs.overlay_dirs_to_create.Given as goal

abbrev pub invariant-loop-end : goal.invariant-loop-end
invariant-loop-end l = (l.end ≤ length l.path)
    × Along l.listing l.table l.rec l.path l.sight l.end
    × Going (kind (shown (table_in l.table l.rec) (tree_in l.listing))) l.path l.end (ends_of l.dirs) l.dirs.count

abbrev pub decreases-loop-end : goal.decreases-loop-end
decreases-loop-end l = length l.path - l.end
