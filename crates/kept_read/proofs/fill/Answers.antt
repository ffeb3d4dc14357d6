-- `kept_read::fill` meets its contract: two writes, one behind the other.
use borrow.Author.Rules.{rules}
use Rattle.kept_read.proofs.Answers.{filled_up}
use Rattle.kept_read.proofs.fill.Goals as goal

pub returns : goal.returns
returns c =
    let a = c.args in
    filled_up a.table.now c.copy_in.new.t c.zero_from.new.t a.entries.now (search rules)
    c.copy_in.ensures c.zero_from.ensures
