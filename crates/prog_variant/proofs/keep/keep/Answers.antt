-- `keep::keep` is safe: the output is the work buffer's part that it names.
use mathlib.Core.Path.{sym}
use lib.Seq.{length-take-le}
use borrow.Author.Rules.{rules}
use Rattle.prog_variant.proofs.keep.keep.Goals as goal

pub slice_bounds-write_kept-end-2 : goal.slice_bounds-write_kept-end-2
slice_bounds-write_kept-end-2 g c = sym (length-take-le _ _ (search rules))
