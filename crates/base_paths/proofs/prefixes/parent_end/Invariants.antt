-- `parent_end` meets its contract: no slash stands in what was searched back.
use Rattle.std.proofs.Common.{◌≡◌, ℕ, ◌<◌, ◌≤◌, false, eqb, length, get_or}
use Rattle.base_paths.proofs.prefixes.parent_end.Given as goal

abbrev pub invariant-loop-end : goal.invariant-loop-end
invariant-loop-end l =
    (l.from < l.end) × (l.end ≤ length l.path) × ((j : ℕ) → l.end ≤ j → j < length l.path → eqb (get_or l.path j 0) 47 ≡ false)
