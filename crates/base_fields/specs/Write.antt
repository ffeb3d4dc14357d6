-- What a write leaves in a buffer.
use Rattle.std.specs.Prelude.{◌++◌, ℕ, ◌+◌, length, take, drop}
use Rattle.model.specs.Bytes.{Bytes}

-- t, with bs in the place of the bytes from `at` on
abbrev pub overwritten : Bytes → ℕ → Bytes → Bytes
overwritten t at bs = take at t ++ bs ++ drop (at + length bs) t
