-- `base_paths::utf8::next_tail` meets its contract: a later byte of a character by whether it is in its range.
use Rattle.base_paths.proofs.Tails.{passed}
use Rattle.base_paths.proofs.utf8.next_tail.Goals as goal

pub returns-then-t-b : goal.returns-then-t-b
returns-then-t-b c s = rw c.tail_of.ensures (passed _ _ _ s c.if-t-eq0.false c.if-t-b.true)
