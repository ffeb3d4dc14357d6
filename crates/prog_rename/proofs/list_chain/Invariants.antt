-- `list_chain` meets its contract: a record's path has at most 55 bytes, and so a record at most 74.
use Rattle.std.proofs.Common.{◌≡◌, ◌+◌, ◌*◌, ◌≤◌, length}
use Rattle.prog_rename.proofs.list_chain.Given as goal

abbrev pub invariant-loop-i : goal.invariant-loop-i
invariant-loop-i l = (length l.s ≡ length l.initial.s) × (l.next ≤ l.at + 74 * l.i)
