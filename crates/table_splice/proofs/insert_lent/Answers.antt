-- `insert_lent` meets its contract: what is left of the old table fits behind what is written.
use Rattle.std.proofs.Common.{length, arith}
use Rattle.model.specs.Map.{put}
use Rattle.model.specs.Tree.{own}
use Rattle.model.specs.Table.{table_in}
use Rattle.model.specs.Content.{spliced}
use Rattle.table_splice.proofs.Begins.{fitting}
use Rattle.table_splice.proofs.insert_lent.Goals as goal

pub finish-requires : goal.finish-requires
finish-requires c =
    let a = c.args in
    let s = a.table.now in
    let t = put a.key.now (own a.mtime (spliced (length a.lent.now) a.«data».now a.lent.now)) (table_in s a.rec) in
    let b = c.in_ok-begun in
    let f = fitting s c.write_spliced.new.work a.rec a.limit t a.key.now b.begun c.requires.rec_value b.ensures.judged b.ensures.merged b.ensures.end in
    let l = c.write_spliced.auto.work in
    let h = c.requires.table_in_bounds in
    record { at_le_used = f.0; at_in_bounds = (f.1, omega arith) }
