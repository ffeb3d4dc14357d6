-- `base_paths::next_ancestor` meets its contract. The loop's invariant: from the cursor on is found what is found from the start.
use Rattle.std.proofs.Common.{◌≡◌}
use Rattle.base_paths.specs.Ancestors.{next_slash}
use Rattle.base_paths.proofs.prefixes.next_ancestor.Given as goal

abbrev pub invariant-loop-i : goal.invariant-loop-i
invariant-loop-i l = next_slash l.path l.i ≡ next_slash l.path l.from
