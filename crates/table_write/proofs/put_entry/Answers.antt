-- `table_write::put_entry` meets its contract: the head, and the body behind it.
use mathlib.Core.Path.{refl}
use native.Mathlib.Omega.{arith}
use Rattle.table_write.proofs.Merges.{entry_put}
use Rattle.table_write.proofs.put_entry.Goals as goal

pub returns : goal.returns
returns c =
    let a = c.args in
    let h = c.requires.body_in_bounds in
    entry_put a.work.now _ _ a.key.now a.body.now a.kind a.mtime a.size a.at _ c.requires.written (omega arith) refl c.put_head.ensures
    c.copy_in.ensures
