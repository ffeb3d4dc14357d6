-- `seek_while` meets its contract: an entry whose key passes the test is passed, and the first other one is where it ends.
use Prim.Native.Nat.{◌-◌}
use mathlib.Core.Path.{◌≡◌}
use Rattle.model.specs.Bytes.{before}
use Rattle.table_entries.proofs.Seeks.{Passing}
use Rattle.table_entries.proofs.seek_while.Given as goal

abbrev pub invariant-loop-i : goal.invariant-loop-i
invariant-loop-i g l = Passing (λ k. (q : _) (b : _) → goal.F-post g l.is_low q b → b ≡ before q.now k) l.table l.place.left l.place.at (l.place.left - l.i) l.at
