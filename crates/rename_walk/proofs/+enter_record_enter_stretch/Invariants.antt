-- The measures of `enter_record` and `enter_stretch`: a level more is more than all the records of a listing.
use Rattle.std.proofs.Common.{◌+◌, ◌*◌}
use Rattle.rename_walk.proofs.+enter_record_enter_stretch.Given as goal

abbrev pub decreases-enter_record : goal.decreases-enter_record
decreases-enter_record l = l.depth * 33554432

abbrev pub decreases-enter_stretch : goal.decreases-enter_stretch
decreases-enter_stretch l = l.depth * 33554432 + l.stretch.count
