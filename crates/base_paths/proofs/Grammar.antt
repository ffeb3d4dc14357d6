-- `utf8`, which reads a byte at a time and takes the first row that begins with it, is the grammar of RFC 3629: bytes are UTF-8 exactly if
-- they are characters one behind the other, each of which fits some row.
use mathlib.Core.Path.{◌≡◌, refl, sym, ap, subst, ◌∙◌}
use mathlib.Core.Bool.{Bool, true, false, ◌&&◌}
use mathlib.Core.List.{List, [], ◌∷◌, ◌++◌}
use Prim.Native.Nat.{ℕ, ◌<◌, ◌≤◌}
use native.Mathlib.Omega.{arith}
use lib.Dec.{ltb, leb}
use borrow.Author.Tests.{ltb-true, leb-true, lt-leb}
use Rattle.model.specs.Bytes.{Bytes}
use Rattle.model.specs.Utf8.{Range, within, Row, rows, nowhere, after_in, characters, utf8}
use Rattle.model.proofs.Orders.{bot, yea, nay, test, and_true}
use Rattle.base_paths.specs.Grammar.{in_ranges, Among, here, there, Octets, none, char}
use Rattle.base_paths.proofs.Tails.{stuck}

-- the rows' first ranges ascend, so that no byte is in two
abbrev above : ℕ → List Row → Bool
above n [] = true
above n (r ∷ rs) = ltb n r.first.low && above n rs

abbrev ascend : List Row → Bool
ascend [] = true
ascend (r ∷ rs) = above r.first.high rs && ascend rs

higher : (n : ℕ) (r : Row) (rs : List Row) → above n rs ≡ true → Among r rs → n < r.first.low
higher n r (q ∷ rs) h here = ltb-true n r.first.low (and_true (ltb n r.first.low) (above n rs) h).0
higher n r (q ∷ rs) h (there m) = higher n r rs (and_true (ltb n q.first.low) (above n rs) h).1 m
higher n r [] h x'' = elim x'' [ ]

too_high : (r : Range) (b : ℕ) → r.high < b → within r b ≡ false
too_high r b h = elim (test (leb r.low b)) [ yea e ↦ cc (lt-leb b r.high h) | nay e ↦ cc ]

-- of a byte that begins a row, what follows is the row's
row_after : (r : Row) (rs : List Row) (b : ℕ) → ascend rs ≡ true → Among r rs → within r.first b ≡ true → after_in rs b ≡ r.after
row_after r (q ∷ rs) b h here w = cc
row_after r (q ∷ rs) b h (there m) w =
    let a = and_true (above q.first.high rs) (ascend rs) h in
    let l : q.first.high < r.first.low = higher q.first.high r rs a.0 m in
    let k : r.first.low ≤ b = leb-true r.first.low b (and_true (leb r.first.low b) (leb b r.first.high) w).0 in
    cc (too_high q.first b (omega arith), row_after r rs b a.1 m w)
row_after r [] b h x3 w = elim x3 [ ]

-- ranges that the bytes lie in are used up
passed : (rs : List Range) (c s : Bytes) → in_ranges rs c ≡ true → characters rs (c ++ s) ≡ utf8 s
passed [] [] s h = refl
passed [] (b ∷ c) s h = absurd (bot (cc))
passed (r ∷ rs) [] s h = absurd (bot (cc))
passed (r ∷ rs) (b ∷ c) s h = let a = and_true (within r b) (in_ranges rs c) h in cc (a.0, passed rs c s a.1)

one_char : (r : Row) (c s : Bytes) → Among r rows → in_ranges (r.first ∷ r.after) c ≡ true → utf8 (c ++ s) ≡ utf8 s
one_char r [] s m h = absurd (bot (cc))
one_char r (b ∷ c) s m h =
    let a = and_true (within r.first b) (in_ranges r.after c) h in
    ap (λ (rs : List Range). characters rs (c ++ s)) (row_after r rows b refl m a.0) ∙ passed r.after c s a.1

pub sound : (s : Bytes) → Octets s → utf8 s ≡ true
sound s none = refl
sound s (char r c t m h u) = one_char r c t m h ∙ sound t u

-- bytes in the ranges rs, and characters behind them
record Goes (rs : List Range) (s : Bytes) : Type 0 where
  front : Bytes
  back : Bytes
  is : s ≡ front ++ back
  fits : in_ranges rs front ≡ true
  rest : Octets back

-- b begins a row of rs, or none
data Begins (rs : List Row) (b : ℕ) : Type 0 where
  no_row : after_in rs b ≡ nowhere ∷ [] → Begins rs b
  a_row : (r : Row) → Among r rs → within r.first b ≡ true → after_in rs b ≡ r.after → Begins rs b

begins : (rs : List Row) (b : ℕ) → Begins rs b
begins [] b = no_row refl
begins (r ∷ rs) b = elim (test (within r.first b)) [
  | yea w ↦ a_row r here w (cc)
  | nay w ↦ elim (begins rs b) [
    | no_row e ↦ no_row (cc)
    | a_row q m v e ↦ a_row q (there m) v (cc)
  ]
]

goes_on : (b : ℕ) (s : Bytes) → characters (after_in rows b) s ≡ true → Goes (after_in rows b) s → Octets (b ∷ s)
goes_on b s h g = elim (begins rows b) [
  | no_row e ↦ absurd (bot (cc (stuck s)))
  | a_row r m w e ↦
      let f : in_ranges (r.first ∷ r.after) (b ∷ g.front) ≡ true = cc g.fits in
      subst Octets (ap (λ (t : Bytes). b ∷ t) (sym g.is)) (char r (b ∷ g.front) g.back m f g.rest)
]

goes : (s : Bytes) (rs : List Range) → characters rs s ≡ true → Goes rs s
goes [] [] h = record { front = []; back = []; is = refl; fits = refl; rest = none }
goes [] (r ∷ rs) h = absurd (bot (cc))
goes (b ∷ s) [] h =
    let u = goes_on b s h (goes s (after_in rows b) h) in
    record { front = []; back = b ∷ s; is = refl; fits = refl; rest = u }
goes (b ∷ s) (r ∷ rs) h =
    let a = and_true (within r b) (characters rs s) h in
    let g = goes s rs a.1 in
    record { front = b ∷ g.front; back = g.back; is = ap (λ (t : Bytes). b ∷ t) g.is; fits = cc g.fits; rest = g.rest }

pub complete : (s : Bytes) → utf8 s ≡ true → Octets s
complete [] h = none
complete (b ∷ s) h = goes_on b s h (goes s (after_in rows b) h)
