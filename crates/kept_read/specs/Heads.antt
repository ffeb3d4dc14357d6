-- The counting pass: what the heads of the entries say of their count and charge. Where the bytes are entries it is
-- what `summed` has; elsewhere a head can name a body that its entry's kind does not have, and only the check tells.
use Rattle.std.specs.Prelude.{cond, ℕ, zero, suc, ◌+◌, leb, length, Option, Some, None}
use Rattle.model.specs.Bytes.{Bytes, number_at}
use Rattle.model.specs.Table.{entry_end}
use Rattle.model.specs.declared.Record.{Record}
use Rattle.table_charge.specs.Charge.{charge_by}
use Rattle.table_open.specs.Pass.{fits}
use Rattle.kept_file.specs.Kept.{summed, is_entries}

-- the record of n entries that fill s, with the charge c
abbrev pub filled_by : ℕ → Bytes → ℕ → ℕ → Record
filled_by E s n c = record { used = length s; count = n; charge = c; entry_size = E }

-- the entries from `at` up to the end of s, at most `left` of them, behind n entries with the charge c
abbrev pub heads_from : ℕ → Bytes → ℕ → ℕ → ℕ → ℕ → Option Record
heads_from E s zero at n c = Some (filled_by E s n c)
heads_from E s (suc left) at n c =
    cond (leb (length s) at) (Some (filled_by E s n c)) (cond (fits s at)
    (heads_from E s left (entry_end s at) (n + 1) (c + charge_by E (number_at s at 2) (number_at s (at + 4) 4)))
    None)

abbrev pub heads : ℕ → Bytes → Option Record
heads E s = heads_from E s (length s) 0 0 0

-- the record of entries that are a table and fill s
abbrev pub record_in : ℕ → Bytes → Option Record
record_in E s = cond (is_entries E s) (Some (summed E s)) None
