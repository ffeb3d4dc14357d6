-- `has_link_on_way` meets its contract. The loop's invariant: whether a link is among the ancestors from the cursor on
-- is whether one is among all. The measure is how many bytes are to come.
use mathlib.Core.Path.{◌≡◌}
use Prim.Native.Nat.{◌-◌, ◌≤◌}
use lib.ListN.{length}
use Rattle.model.specs.Listing.{tree_in}
use Rattle.show_names.specs.Names.{link_on_way}
use Rattle.show_checks.proofs.Ways.{Down, link_from}
use Rattle.show_checks.proofs.has_link_on_way.Given as goal

abbrev pub invariant-loop-at : goal.invariant-loop-at
invariant-loop-at l = (l.at ≤ length l.path) × Down l.listing l.path l.walk l.at × (link_from l.listing l.path l.at ≡ link_on_way (tree_in l.listing) l.path)

abbrev pub decreases-loop-at : goal.decreases-loop-at
decreases-loop-at l = length l.path - l.at
