-- `kept_read::is_marked` meets its contract: one law for each exit.
use mathlib.Core.Path.{sym}
use native.Mathlib.Omega.{arith}
use lib.Seq.{length-take-le}
use borrow.Author.Rules.{rules}
use Rattle.base_fields.proofs.Pieces.{bytes_of}
use Rattle.kept_read.proofs.Frames.{headless, by_mark}
use Rattle.kept_read.proofs.is_marked.Goals as goal

pub returns-then-file-lt-HEAD : goal.returns-then-file-lt-HEAD
returns-then-file-lt-HEAD c = headless c.args.file.now (search rules)

pub slice_bounds-mark-end : goal.slice_bounds-mark-end
slice_bounds-mark-end c = sym (length-take-le 3 c.args.file.now (omega arith))

pub returns : goal.returns
returns c =
    let s = c.args.file.now in
    by_mark s (bytes_of s (λ i. omega (arith, c.type_inv.file i))) (search rules) c.is_same.ensures
    c.le16.ensures.0
