-- `has_key` meets its contract: with an entry left, the test of its key is the test of the first.
use borrow.Author.Rules.{rules}
use Rattle.table_measure.proofs.Steps.{key_test}
use Rattle.table_measure.proofs.has_key.Goals as goal

pub returns-then-place-ne0 : goal.returns-then-place-ne0
returns-then-place-ne0 c =
    let a = c.args in
    let q = c.entry_key in
    key_test a.table.now a.key.now a.place.left a.place.at (search rules) q.result.now c.is_same.result q.ensures c.is_same.ensures
