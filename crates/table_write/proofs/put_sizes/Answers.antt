-- `table_write::put_sizes` meets its contract: three numbers are written in a row.
use Prim.Native.Nat.{◌+◌}
use native.Mathlib.Omega.{arith}
use Rattle.model.specs.Bytes.{bytes}
use Rattle.base_fields.proofs.Writes.{three_writes}
use borrow.Author.Rules.{rules}
use Rattle.table_write.proofs.put_sizes.Goals as goal

pub returns : goal.returns
returns c =
    let a = c.args in
    three_writes a.work.now _ _ _ (bytes 2 a.n) (bytes 2 a.kind) (bytes 4 a.m) a.at (a.at + 2) (a.at + 4) (search rules) (omega arith) (omega arith)
    c.put16.ensures c.put16-2.ensures c.put32.ensures
