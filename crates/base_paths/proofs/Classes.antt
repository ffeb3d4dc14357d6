-- The classes of bytes: one computed test compares each entry of the code's table with its row in RFC 3629's grammar, a second one
-- compares the class of each of the 256 bytes. And by the row, the ranges of the bytes that follow.
use mathlib.Core.Path.{◌≡◌, refl, subst}
use mathlib.Core.Bool.{Bool, true, cond}
use mathlib.Core.List.{List, [], ◌∷◌, ◌++◌}
use mathlib.Core.Logic.{◌⊎◌, inl, inr}
use Prim.Native.Nat.{ℕ, zero, suc, ◌+◌, ◌-◌, ◌<◌, ◌≤◌}
use native.Mathlib.Nat.{le_of_suc-le-suc, not-suc-le-zero}
use native.Mathlib.Omega.{arith}
use lib.Dec.{eqb, ltb}
use lib.ListN.{length, get_or, replicate}
use borrow.Author.Tests.{eqb-true, lt-ltb, le-ltb}
use Rattle.model.specs.Utf8.{within, Row, rows, nowhere, after_in}
use Rattle.model.proofs.Orders.{yea, nay, test}
use Rattle.base_paths.specs.Classes.{row_in, after_row}
use Rattle.base_paths.proofs.Table.{each, from, each_below, below}

-- the table of the code, from byte C0 on, in runs of one class
abbrev from_e0 : List ℕ
from_e0 = 2 ∷ (replicate 0xC 3 ++ (4 ∷ 5 ∷ 5 ∷ 6 ∷ 7 ∷ 7 ∷ 7 ∷ 8 ∷ replicate 0xB 9))

abbrev pub classes : List ℕ
classes = replicate 2 9 ++ (replicate 0x1E 1 ++ from_e0)

abbrev right : ℕ → ℕ → Bool
right b k = eqb k (row_in rows b)

-- the test of the whole table
pub all_right : each right 0xC0 classes ≡ true
all_right = refl

-- the class of a byte as the code finds it: below the table by comparison
abbrev pub class_of : ℕ → ℕ
class_of b = cond (ltb b 0x80) 0 (cond (ltb b 0xC0) 9 (get_or classes (b - 0xC0) 0))

abbrev right_byte : ℕ → Bool
right_byte b = right b (class_of b)

-- the test of all 256 bytes
pub every_right : each_below right_byte 0x100 ≡ true
every_right = refl

-- the rule, for every byte
pub class_row : (b : ℕ) → b < 0x100 → class_of b ≡ row_in rows b
class_row b h = eqb-true (class_of b) (row_in rows b) (below right_byte 0x100 every_right b h)

-- and so for each of the code's three answers
pub ascii_row : (b : ℕ) → b < 0x80 → 0 ≡ row_in rows b
ascii_row b h = cc (lt-ltb b 0x80 h, class_row b (omega arith))

pub low_row : (b : ℕ) → 0x80 ≤ b → b < 0xC0 → 9 ≡ row_in rows b
low_row b l h = cc (le-ltb b 0x80 l, lt-ltb b 0xC0 h, class_row b (omega arith))

pub table_row : (b : ℕ) → 0xC0 ≤ b → b < 0x100 → get_or classes (b - 0xC0) 0 ≡ row_in rows b
table_row b l h =
    let k = b - 0xC0 in
    let at : 0xC0 + k ≡ b = omega arith in
    eqb-true (get_or classes k 0) (row_in rows b)
    (subst (λ (n : ℕ). right n (get_or classes k 0) ≡ true) at (from right classes 0xC0 all_right k (omega arith)))

row_le : (rs : List Row) (b : ℕ) → row_in rs b ≤ length rs
row_le [] b = omega arith
row_le (r ∷ rs) b =
    let ih = row_le rs b in
    elim (test (within r.first b)) [ yea e ↦ rw e (omega arith) | nay e ↦ rw e (omega arith) ]

pub row_below : (b k : ℕ) → k ≡ row_in rows b → k < 10
row_below b k e = omega (arith, e, row_le rows b)

-- by its row, what follows a byte
after_row_lem : (rs : List Row) (b : ℕ) → after_row rs (row_in rs b) ≡ after_in rs b
after_row_lem [] b = refl
after_row_lem (r ∷ rs) b = let ih = after_row_lem rs b in elim (test (within r.first b)) [ yea e ↦ cc | nay e ↦ cc ]

-- and in the last arm, which has no row
no_row : (rs : List Row) (k : ℕ) → length rs ≤ k → nowhere ∷ [] ≡ after_row rs k
no_row [] k h = refl
no_row (r ∷ rs) zero h = absurd (not-suc-le-zero h)
no_row (r ∷ rs) (suc k) h = no_row rs k (le_of_suc-le-suc h)

first_past : (k : ℕ) → (k ≡ 0 → ⊥) → 1 ≤ k
first_past k e = omega arith

past : (k n : ℕ) → n ≤ k → (k ≡ n → ⊥) → n + 1 ≤ k
past k n h e = omega arith

pub at_none : (k : ℕ) → (k ≡ 0 → ⊥) → (k ≡ 1 → ⊥) → (k ≡ 2 → ⊥) → ((k ≡ 3) ⊎ (k ≡ 5) → ⊥) → (k ≡ 4 → ⊥)
    → (k ≡ 6 → ⊥) → (k ≡ 7 → ⊥) → (k ≡ 8 → ⊥) → nowhere ∷ [] ≡ after_row rows k
at_none k n0 n1 n2 n35 n4 n6 n7 n8 =
    let from3 : 3 ≤ k = past k 2 (past k 1 (first_past k n0) n1) n2 in
    let from6 : 6 ≤ k = past k 5 (past k 4 (past k 3 from3 (λ e. n35 (inl e))) n4) (λ e. n35 (inr e)) in
    no_row rows k (past k 8 (past k 7 (past k 6 from6 n6) n7) n8)
