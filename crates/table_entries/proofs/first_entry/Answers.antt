-- `first_entry` meets its contract: a table's entries stand from its first byte on.
use mathlib.Core.Path.{refl}
use Rattle.table_entries.proofs.Entries.{table_stands}
use Rattle.table_entries.proofs.first_entry.Goals as goal

pub returns : goal.returns
returns c = record { value = refl; standing = table_stands c.args.table.now c.args.rec c.requires }
