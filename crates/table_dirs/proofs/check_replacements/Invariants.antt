-- Each turn of `check_replacements` measures one directory more, whatever its mtime.
use Prim.Native.Nat.{ℕ}
use Rattle.model.specs.Tree.{directory}
use Rattle.table_dirs.proofs.Passing.{Measuring}
use Rattle.table_dirs.proofs.check_replacements.Given as goal

abbrev pub invariant-loop-end : goal.invariant-loop-end
invariant-loop-end l = (m : ℕ) → Measuring (directory m) l.table l.path l.end-items l.rec l.end-index l.place l.after
