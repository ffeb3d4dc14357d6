-- Places in a table's bytes: the entries from a place on.
use Rattle.std.specs.Prelude.{◌≡◌, true, [], ◌++◌, ℕ, ◌+◌, ◌≤◌, length, drop}
use Rattle.model.specs.Bytes.{Bytes, every}
use Rattle.model.specs.Path.{Path}
use Rattle.model.specs.Map.{ascends}
use Rattle.model.specs.Table.{encode, entries_at, formed_entry}
use Rattle.table_entries.specs.Cut.{up_to, since}

-- n entries stand in the bytes s from `at` on, each as its encoding, with `rest` behind them; their keys ascend, and
-- they are in form
pub record Standing (s : Bytes) (n at : ℕ) : Type 0 where
  pub small : length s ≤ 16777216
  pub within : at ≤ length s
  pub rest : Bytes
  pub bytes : drop at s ≡ encode (entries_at s n at) ++ rest
  pub up : ascends [] (entries_at s n at) ≡ true
  pub formed : every formed_entry (entries_at s n at) ≡ true

-- where they end
abbrev pub end_of : Bytes → ℕ → ℕ → ℕ
end_of s n at = at + length (encode (entries_at s n at))

-- of the n entries from `at` on, the m from `to` on are those from the key k on
pub record Sought (s : Bytes) (k : Path) (n at m to : ℕ) : Type 0 where
  pub stand : Standing s m to
  pub are : entries_at s m to ≡ since k (entries_at s n at)
  pub there : to ≡ at + length (encode (up_to k (entries_at s n at)))
