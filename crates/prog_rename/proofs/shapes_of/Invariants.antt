-- `shapes_of` meets its contract: each shape keeps the buffers' lengths.
use Rattle.std.proofs.Common.{◌≡◌, length}
use Rattle.prog_rename.proofs.shapes_of.Given as goal

abbrev pub invariant-loop-number : goal.invariant-loop-number
invariant-loop-number g l = (length l.s ≡ length l.initial.s) × (length l.table ≡ length l.initial.table) × (length l.work ≡ length l.initial.work)
