-- The rows of a report: their length, and how they are written.
use mathlib.Core.Path.{◌≡◌, refl, ap, sym, ◌∙◌}
use mathlib.Core.List.{◌++◌}
use Prim.Native.Nat.{ℕ, ◌+◌, ◌≤◌}
use native.Mathlib.Omega.{arith}
use lib.ListN.{length}
use Rattle.model.specs.Bytes.{Bytes, bytes}
use Rattle.base_fields.specs.Write.{overwritten}
use Rattle.base_fields.proofs.Writes.{overwritten_twice}
use Rattle.base_fields.proofs.Writes.{two_writes}
use Rattle.call_values.specs.declared.Row.{Row}
use Rattle.run_calls.specs.Runs.{row_bytes}

pub row_length : (r : Row) (c : ℕ) → length (row_bytes r c) ≡ 32
unfolding row_bytes
row_length r c = refl

-- four numbers, two by two
pub row_put : (t t₁ t₂ : Bytes) (at : ℕ) (r : Row) {r' : Row} → r ≡ r' → (c : ℕ) → at + 32 ≤ length t
    → t₁ ≡ overwritten t at (bytes 8 r.number ++ bytes 8 r.path) → t₂ ≡ overwritten t₁ (at + 16) (bytes 8 r.len ++ bytes 8 c)
    → t₂ ≡ overwritten t at (row_bytes r' c)
unfolding row_bytes
row_put t t₁ t₂ at r g c h e f =
    two_writes t t₁ t₂ (bytes 8 r.number ++ bytes 8 r.path) (bytes 8 r.len ++ bytes 8 c) at (at + 16) (omega arith) refl e f
    ∙ ap (λ (x : Row). overwritten t at (row_bytes x c)) g

-- a row, and the rows behind it
pub row_then : (t : Bytes) (at : ℕ) (r : Row) (c : ℕ) (more : Bytes) → at + 32 ≤ length t
    → overwritten (overwritten t at (row_bytes r c)) (at + 32) more ≡ overwritten t at (row_bytes r c ++ more)
row_then t at r c more h =
    let l = row_length r c in
    ap (λ (n : ℕ). overwritten (overwritten t at (row_bytes r c)) (at + n) more) (sym l) ∙ overwritten_twice t at (row_bytes r c) (omega arith) more
