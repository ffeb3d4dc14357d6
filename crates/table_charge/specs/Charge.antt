-- What an entry is charged, by lengths alone: a head in a table tells the lengths of its key and its body.
use Rattle.std.specs.Prelude.{ℕ, ◌+◌}
use Rattle.model.specs.Table.{body_charge}

-- an entry with a key of n bytes: without its body, and with one of m bytes
abbrev pub base_charge : ℕ → ℕ → ℕ
base_charge E n = 256 + n + E

abbrev pub charge_by : ℕ → ℕ → ℕ → ℕ
charge_by E n m = base_charge E n + body_charge m
