-- `is_marked` meets its contract: one law for each exit.
use borrow.Author.Rules.{rules}
use mathlib.Core.Path.{sym}
use native.Mathlib.Omega.{arith}
use lib.Seq.{length-take-le}
use Rattle.run_script.proofs.Steps.{too_short, by_mark}
use Rattle.run_script.proofs.is_marked.Goals as goal

pub returns-then-script-lt-SCRIPT_HEAD : goal.returns-then-script-lt-SCRIPT_HEAD
returns-then-script-lt-SCRIPT_HEAD c = too_short c.args.script.now (search rules)

pub slice_bounds-mark-end : goal.slice_bounds-mark-end
slice_bounds-mark-end c = sym (length-take-le 4 c.args.script.now (omega arith))

pub returns : goal.returns
returns c =
    let a = c.args in
    let one = c.is_same-one in
    by_mark a.script.now (search rules) one.result c.is_two.result one.ensures c.is_two.ensures
