-- `seek_with` meets its contract: the test is whether a key is before the path with its byte.
use mathlib.Core.List.{[], ◌∷◌, ◌++◌}
use borrow.Author.Rules.{rules}
use Rattle.table_below.proofs.seek_with.Goals as goal

pub returns : goal.returns
returns c = c.seek_while.ensures (c.args.dir.now ++ (c.args.b ∷ [])) (λ q b p. search rules)
