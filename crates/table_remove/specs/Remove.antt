-- The record that removing an entry leaves.
use Rattle.std.specs.Prelude.{ℕ, ◌+◌, ◌-◌}
use Rattle.model.specs.declared.Record.{Record}
use Rattle.table_charge.specs.Charge.{charge_by}

-- the record with one entry less, of n bytes of key and m of body
abbrev pub lessened : Record → ℕ → ℕ → Record
lessened r n m = record {
  used = r.used - (24 + n + m);
  count = r.count - 1;
  charge = r.charge - charge_by r.entry_size n m;
  entry_size = r.entry_size;
}
