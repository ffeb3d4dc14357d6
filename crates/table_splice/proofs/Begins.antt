-- A new table that is begun and not refused: what is left of the old one fits behind what is written.
use Rattle.std.proofs.Common.{◌≡◌, true, ℕ, ◌+◌, ◌-◌, ◌≤◌, length, Ok}
use Rattle.model.specs.Bytes.{Bytes}
use Rattle.model.specs.Path.{Path}
use Rattle.model.specs.Tree.{Table}
use Rattle.model.specs.Table.{is_table}
use Rattle.model.specs.declared.Record.{Record}
use Rattle.table_entries.specs.Place.{end_of}
use Rattle.table_write.specs.Merge.{Merged}
use Rattle.table_insert.specs.Insert.{insertion}
use Rattle.table_insert.proofs.Inserts.{rest_fits, fits_done}
use Rattle.table_splice.specs.declared.Begun.{Begun}

pub fitting : (s w : Bytes) (r : Record) (limit : ℕ) (t : Table) (k : Path) (x : Begun) → is_table s r ≡ true
    → Ok x.after ≡ insertion r.entry_size limit (length s) t → Merged s w t k x.merge.left x.merge.at x.merge.out
    → end_of s x.merge.left x.merge.at ≡ end_of s r.count 0
    → ((x.merge.at ≤ r.used) × (r.used ≤ length s)) × (x.merge.out + (r.used - x.merge.at) ≤ length s)
fitting s w r limit t k x h j m e =
    rest_fits s w r t k x.merge.left x.merge.at x.merge.out h m e (fits_done r.entry_size limit (length s) t x.after j)
