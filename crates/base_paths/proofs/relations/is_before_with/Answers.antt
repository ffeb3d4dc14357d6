-- `is_before_with` meets its contract: the bytes in common, and what stands behind them, decide.
use borrow.Author.Rules.{rules}
use Rattle.base_paths.proofs.Related.{with_over, with_apart, with_next}
use Rattle.base_paths.proofs.relations.is_before_with.Goals as goal

pub returns-then-n-key : goal.returns-then-n-key
returns-then-n-key c =
    let a = c.args in
    let n = c.shared-n in
    with_over a.key.now a.dir.now a.b n.result n.ensures.value (search rules)

pub returns-then-n-dir : goal.returns-then-n-dir
returns-then-n-dir c =
    let a = c.args in
    let n = c.shared-n in
    with_apart a.key.now a.dir.now a.b n.result n.ensures.value (search rules) (search rules)

pub returns-else-n-dir : goal.returns-else-n-dir
returns-else-n-dir c =
    let a = c.args in
    let n = c.shared-n in
    with_next a.key.now a.dir.now a.b n.result n.ensures.value (search rules) (search rules)
