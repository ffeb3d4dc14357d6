-- A content with data written at an offset: its length by the lengths, and its parts written in a row.
use mathlib.Core.Path.{◌≡◌, refl, sym, subst}
use mathlib.Core.Bool.{true}
use Prim.Native.Nat.{ℕ, ◌+◌, ◌≤◌}
use native.Mathlib.Omega.{arith}
use lib.ListN.{length, take, drop}
use Rattle.model.specs.Bytes.{Bytes, before}
use Rattle.model.specs.Path.{Path}
use Rattle.model.specs.Map.{put}
use Rattle.model.specs.Tree.{Entry, own, Table}
use Rattle.model.specs.Table.{entry_bytes, encode, padded, entries_at}
use Rattle.model.specs.Content.{spliced}
use Rattle.model.proofs.Splices.{front_length, spliced_length}
use Rattle.base_fields.specs.Write.{overwritten}
use Rattle.base_fields.proofs.Writes.{three_writes}
use Rattle.table_entries.specs.Cut.{up_to}
use Rattle.table_write.specs.Merge.{head_bytes, Written, Merged, Copied}
use Rattle.table_write.proofs.Merges.{entry_put, next_put}

-- the three parts, written in a row
pub content_put : (w w₁ w₂ w₃ c d : Bytes) (at o : ℕ) → at + length (spliced o d c) ≤ length w
    → w₁ ≡ overwritten w at (take o (padded o c)) → w₂ ≡ overwritten w₁ (at + o) d
    → w₃ ≡ overwritten w₂ (at + (o + length d)) (drop (o + length d) c) → w₃ ≡ overwritten w at (spliced o d c)
content_put w w₁ w₂ w₃ c d at o h e₁ e₂ e₃ =
    let l = spliced_length o d c in
    let f = front_length o c in
    three_writes w w₁ w₂ w₃ (take o (padded o c)) d (drop (o + length d) c) at (at + o) (at + (o + length d)) (omega arith) (omega arith) (omega arith) e₁ e₂ e₃

-- an own file's entry, by its head and its content
pub own_written : (m : ℕ) (b : Bytes) → Written 1 m 0 b
own_written m b = record { type = refl; time = refl; long = refl; content = refl }

pub spliced_put : (w w₁ w₂ k c d : Bytes) (m at o n : ℕ) → at + 24 + length k ≤ length w → n ≡ length (spliced o d c)
    → w₁ ≡ overwritten w at (head_bytes k 1 m 0 n) → w₂ ≡ overwritten w₁ (at + 24 + length k) (spliced o d c)
    → w₂ ≡ overwritten w at (entry_bytes k (own m (spliced o d c)))
spliced_put w w₁ w₂ k c d m at o n h l e₁ e₂ = entry_put w w₁ w₂ k (spliced o d c) 1 m 0 at n (own_written m (spliced o d c)) h l e₁ e₂

-- `put_next_spliced`: the entry is written behind what is copied, up to `end`
pub spliced_next : (s w w₁ w₂ q c d : Bytes) (m o left at out left' at' out' end : ℕ)
    → out + length (encode (up_to q (entries_at s left at))) + (24 + length q + length (spliced o d c)) ≤ length w
    → Copied s w w₁ q left at out left' at' out' → w₂ ≡ overwritten w₁ out' (entry_bytes q (own m (spliced o d c)))
    → end ≡ out' + 24 + length q + length (spliced o d c)
    → (t : Table) (k : Path) → Merged s w t k left at out → before k q ≡ true → Merged s w₂ (put q (own m (spliced o d c)) t) q left' at' end
spliced_next s w w₁ w₂ q c d m o left at out left' at' out' end fits y e z t k g up =
    let v : Entry = own m (spliced o d c) in
    subst (λ (n : ℕ). Merged s w₂ (put q v t) q left' at' n) (sym z)
    (next_put s w w₁ w₂ q v left at out left' at' out' (length (spliced o d c)) refl fits y e t k g up)
