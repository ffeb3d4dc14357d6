-- `enter_files` meets its contract: each entry is put within the table, and the numbers rise by at most 2.
use Rattle.std.proofs.Common.{◌≡◌, ◌+◌, ◌*◌, ◌≤◌, length}
use Rattle.prog_rename.proofs.enter_files.Given as goal

abbrev pub invariant-loop-i : goal.invariant-loop-i
invariant-loop-i l = (length l.t ≡ length l.initial.t) × (l.number ≤ 2 * l.i + 1) × (l.i ≤ l.count)
