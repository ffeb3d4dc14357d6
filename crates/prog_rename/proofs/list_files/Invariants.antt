-- `list_files` meets its contract: each record is put within the listing, and the numbers rise by at most 2.
use Rattle.std.proofs.Common.{◌≡◌, ◌*◌, ◌≤◌, length}
use Rattle.prog_rename.proofs.list_files.Given as goal

abbrev pub invariant-loop-i : goal.invariant-loop-i
invariant-loop-i l = (length l.s ≡ length l.initial.s) × (l.number ≤ 2 * l.i) × (l.i ≤ l.count)
