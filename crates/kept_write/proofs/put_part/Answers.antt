-- `put_part` meets its contract: the length, and the part right behind it.
use mathlib.Core.Path.{refl}
use Prim.Native.Nat.{◌+◌}
use lib.ListN.{length}
use borrow.Author.Rules.{rules}
use Rattle.model.specs.Bytes.{bytes}
use Rattle.base_fields.proofs.Writes.{two_writes}
use Rattle.kept_write.proofs.put_part.Goals as goal

pub returns : goal.returns
returns c =
    let a = c.args in
    let n = length a.part.now in
    record { output_after = two_writes a.output.now _ _ (bytes 4 n) a.part.now a.at (a.at + 4) (search rules) refl c.put32.ensures c.copy_in.ensures; value = refl }
