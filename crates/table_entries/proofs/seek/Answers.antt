-- `seek` meets its contract: the test is whether a key is before the key.
use borrow.Author.Rules.{rules}
use Rattle.table_entries.proofs.seek.Goals as goal

pub returns : goal.returns
returns c = c.seek_while.ensures c.args.key.now (λ q b p. search rules)
