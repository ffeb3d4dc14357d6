-- `put_moves` meets its contract: the step asks of an item that it has room, and room for its new key.
use Rattle.std.proofs.Common.{rules}
use Rattle.rename_write.specs.Stretch.{move}
use Rattle.rename_write.proofs.put_moves.Goals as goal

pub returns : goal.returns
returns c = c.put_all.ensures (move c.args.source.now c.args.destination.now) (λ w d h x y v e. search rules)
