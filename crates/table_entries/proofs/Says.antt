-- What the code reads at a place is the entry's: its key, its body, and what its kind makes of the rest.
use mathlib.Core.Path.{◌≡◌, sym, ◌∙◌}
use mathlib.Core.Bool.{false}
use mathlib.Core.Option.{some}
use Prim.Native.Nat.{ℕ, ◌+◌, ◌-◌, ◌<◌}
use native.Mathlib.Nat.{add-sub_cancel_left}
use lib.Dec.{eqb}
use lib.Ieee.{Float, of_bits, binary64}
use lib.ListN.{length, take, drop}
use borrow.Author.Tests.{ne_eqb}
use Rattle.model.specs.Bytes.{Bytes, number_at}
use Rattle.model.specs.Table.{body_of, key_at, body_at, entry_of, entry_at}
use Rattle.model.proofs.Orders.{test, yea, nay}
use Rattle.table_entries.specs.Place.{Standing}
use Rattle.table_entries.specs.Said.{said, said_by}
use Rattle.table_entries.specs.declared.OverlayEntry.TheVariants.{RealFileRef, Directory}
use Rattle.table_entries.proofs.Entries.{stands_here}

-- the key, as the code cuts it out
pub key_here : (s : Bytes) (at n : ℕ) → n ≡ number_at s at 2 → take (at + 24 + n - (at + 24)) (drop (at + 24) s) ≡ key_at s at
key_here s at n e = rw (add-sub_cancel_left (at + 24) n, e)

-- the body: an entry that holds none has a body of length 0
body_of_lem : (t m z n : ℕ) (l : Bytes) → n ≡ length (body_of (entry_of t m z (take n l))) → take n l ≡ body_of (entry_of t m z (take n l))
body_of_lem t m z n l h =
    elim (test (eqb t 1)) [
      | yea a ↦ rw a
      | nay a ↦ elim (test (eqb t 2)) [
        | yea b ↦ rw (a, b)
        | nay b ↦ elim (test (eqb t 3)) [
          | yea d ↦ (let z : n ≡ 0 = rw (a, b, d) at h in rw (a, b, d) (rw z))
          | nay d ↦ (let z : n ≡ 0 = rw (a, b, d) at h in rw (a, b, d) (rw z))
        ]
      ]
    ]

pub body_here : (s : Bytes) (left at n m : ℕ) → 0 < left → Standing s left at → n ≡ number_at s at 2 → m ≡ number_at s (at + 4) 4
    → take (at + 24 + n + m - (at + 24 + n)) (drop (at + 24 + n) s) ≡ body_of (entry_at s at)
body_here s left at n m h w e f =
    let k = stands_here s left at h w in
    let b : take (at + 24 + n + m - (at + 24 + n)) (drop (at + 24 + n) s) ≡ body_at s at = rw (add-sub_cancel_left (at + 24 + n) m, e, f) in
    b ∙ body_of_lem (number_at s (at + 2) 2) (number_at s (at + 8) 8) (number_at s (at + 16) 8) (number_at s (at + 4) 4) (drop (at + 24 + number_at s at 2) s) k.body_length

-- what is said of the entry, by its kind
module _ (s : Bytes) (at k : ℕ) (e : k ≡ number_at s (at + 2) 2) where
  no : (j : ℕ) → (k ≡ j → ⊥) → eqb (number_at s (at + 2) 2) j ≡ false
  no j h = ne_eqb (number_at s (at + 2) 2) j (λ f. h (e ∙ f))

  pub is_reference : k ≡ 2 → (n m : ℕ) → n ≡ number_at s at 2 → m ≡ number_at s (at + 4) 4
      → (x : Float) (z : ℕ) → x ≡ of_bits binary64 (number_at s (at + 8) 8) → z ≡ number_at s (at + 16) 8
      → said_by s (RealFileRef x z (at + 24 + n) m) ≡ said (some (entry_at s at))
  is_reference h n m f g x z p q = rw (sym e ∙ h, p, q, f, g)

  pub is_directory_lem : k ≡ 3 → (x : Float) → x ≡ of_bits binary64 (number_at s (at + 8) 8)
      → said_by s (Directory x) ≡ said (some (entry_at s at))
  is_directory_lem h x p = rw (sym e ∙ h, p)
