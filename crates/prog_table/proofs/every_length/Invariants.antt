-- `every_length` is safe: the counts stay below the length, and the buffers keep theirs.
use Rattle.std.proofs.Common.{◌≡◌, ◌≤◌, length}
use Rattle.prog_table.proofs.every_length.Given as goal

abbrev pub invariant-loop-n : goal.invariant-loop-n
invariant-loop-n g l = (length l.table ≡ length l.initial.table) × (length l.work ≡ length l.initial.work) × (l.exact ≤ l.n) × (l.more ≤ l.n)
