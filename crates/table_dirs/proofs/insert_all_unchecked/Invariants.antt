-- Each turn of `insert_all_unchecked` writes up to one directory more.
use Rattle.model.specs.Tree.{directory}
use Rattle.table_dirs.proofs.Merging.{Merging}
use Rattle.table_dirs.proofs.insert_all_unchecked.Given as goal

abbrev pub invariant-loop-end : goal.invariant-loop-end
invariant-loop-end l = Merging (directory l.mtime) l.table l.initial.work l.path l.end-items l.rec l.end-index l.work l.merge
