-- How many paths were counted.
use Rattle.std.specs.Prelude.{ℕ, ◌+◌}
use Rattle.test_lines.specs.declared.counts.Counts.{Counts}

abbrev pub total : Counts → ℕ
total c = c.same + c.new + c.gone + c.changed
