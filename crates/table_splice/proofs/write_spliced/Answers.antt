-- `write_spliced` meets its contract: what is refused writes nothing, and what is done is written up to the entry.
use Rattle.std.proofs.Common.{sym, refl, [], length, arith}
use Rattle.model.specs.Map.{put}
use Rattle.model.specs.Tree.{own}
use Rattle.model.specs.Table.{table_in}
use Rattle.model.specs.Content.{spliced}
use Rattle.table_entries.proofs.Entries.{table_stands}
use Rattle.table_write.proofs.Merges.{merge_begun}
use Rattle.table_insert.proofs.Inserts.{room, fits_done}
use Rattle.table_splice.proofs.write_spliced.Goals as goal

pub put_next_spliced-merge-requires-clause-standing : goal.put_next_spliced-merge-requires-clause-standing
put_next_spliced-merge-requires-clause-standing c = table_stands c.args.table.now c.args.rec c.requires.rec_value

pub put_next_spliced-merge-requires-clause-content_in_bounds : goal.put_next_spliced-merge-requires-clause-content_in_bounds
put_next_spliced-merge-requires-clause-content_in_bounds c =
    let a = c.args in
    let t = table_in a.table.now a.rec in
    let n = length a.table.now in
    let v = own a.mtime (spliced a.offset a.«data».now a.content.now) in
    let j = c.in_ok-after.ensures v (sym (c.spliced_len-len.ensures a.content.now a.«data».now refl refl)) in
    let f = room a.key.now v t n (fits_done a.rec.entry_size a.limit n (put a.key.now v t) c.in_ok-after.after j) in
    let h = c.requires.data_bound.1 in
    omega arith

pub returns-clause-merged : goal.returns-clause-merged
returns-clause-merged c =
    let a = c.args in
    let s = a.table.now in
    c.put_next_spliced-merge.ensures.merged (table_in s a.rec) [] (merge_begun s a.work.now a.rec c.requires.rec_value) c.requires.key_value.0
