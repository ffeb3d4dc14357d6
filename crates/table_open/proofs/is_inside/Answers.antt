-- `table_open::is_inside` meets its contract: one law for each exit.
use borrow.Author.Rules.{rules}
use Rattle.table_open.proofs.Steps.{no_head, by_end}
use Rattle.table_open.proofs.is_inside.Goals as goal

pub returns-then-table-at : goal.returns-then-table-at
returns-then-table-at c =
    let a = c.args in
    no_head a.table.now a.at (search rules)

pub returns : goal.returns
returns c =
    let a = c.args in
    let n = c.le16-n in
    by_end a.table.now a.at n.result c.le32-m.result (search rules) n.ensures.0 c.le32-m.ensures.0
