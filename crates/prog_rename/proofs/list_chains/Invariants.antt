-- `list_chains` meets its contract: each chain ends at most 1,850 bytes behind its start.
use Rattle.std.proofs.Common.{◌≡◌, ◌+◌, ◌*◌, ◌≤◌, length}
use Rattle.prog_rename.proofs.list_chains.Given as goal

abbrev pub invariant-loop-i : goal.invariant-loop-i
invariant-loop-i l = (length l.s ≡ length l.initial.s) × (l.at ≤ 29 + l.i * 1850) × (l.i ≤ l.count)
