-- A table changed by one pass over its bytes: entries are put with ascending keys, and what stands between them stays.
use Rattle.std.specs.Prelude.{◌≡◌, Bool, true, false, [], ◌∷◌, ◌++◌, ℕ, ◌+◌, ◌-◌, ◌≤◌, length}
use Rattle.model.specs.Bytes.{Bytes, every, same, before}
use Rattle.model.specs.Path.{Path}
use Rattle.model.specs.Tree.{Table}
use Rattle.model.specs.Table.{encode, body_charge, charge_sum, record_of, entries_at}
use Rattle.model.specs.declared.Record.{Record}
use Rattle.table_charge.specs.Charge.{charge_by}
use Rattle.table_entries.specs.Place.{Standing}

-- the first entry has the key k
abbrev pub starts_at : Path → Table → Bool
starts_at k [] = false
starts_at k (x ∷ xs) = same x.0 k

-- the record with one entry more, of n bytes of key and m of body; and with a body of m bytes in the place of one of
-- `old`
abbrev pub added : Record → ℕ → ℕ → Record
added r n m = record {
  used = r.used + 24 + n + m;
  count = r.count + 1;
  charge = r.charge + charge_by r.entry_size n m;
  entry_size = r.entry_size;
}

abbrev pub replaced : Record → ℕ → ℕ → Record
replaced r old m = record {
  used = r.used + m - old;
  count = r.count;
  charge = r.charge + body_charge m - body_charge old;
  entry_size = r.entry_size;
}

-- the table t is `done`, with keys up to k, and behind it what stands in the old table's bytes s from `at` on
pub record Passed (s : Bytes) (t : Table) (k : Path) (left at : ℕ) : Type 0 where
  pub stand : Standing s left at
  pub done : Table
  pub whole : t ≡ done ++ entries_at s left at
  pub low : (q : Path) → before k q ≡ true → every (λ x. before x.0 q) done ≡ true

-- and r is its record, with the entry size E
pub record Measured (s : Bytes) (t : Table) (k : Path) (left at E : ℕ) (r : Record) : Type 0 where
  pub passed : Passed s t k left at
  pub agrees : r ≡ record_of E t

-- the record r counts what stands from `at` on, and one entry more can be added to its numbers
pub record Counts (s : Bytes) (left at : ℕ) (r : Record) : Type 0 where
  pub stand : Standing s left at
  pub bytes : length (encode (entries_at s left at)) ≤ r.used
  pub charged : charge_sum r.entry_size (entries_at s left at) ≤ r.charge
  pub used_small : r.used ≤ 0x4000_0000_0000_0000
  pub count_small : r.count ≤ 0x4000_0000_0000_0000
  pub charge_small : r.charge ≤ 0x4000_0000_0000_0000
  pub size_small : r.entry_size ≤ 4096
