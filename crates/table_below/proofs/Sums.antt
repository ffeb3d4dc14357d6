-- The plan's sum over the entries of a part, key by key.
use mathlib.Core.Path.{◌≡◌, ap, sym, ◌∙◌, subst}
use mathlib.Core.Bool.{true}
use mathlib.Core.List.{[], ◌∷◌}
use Prim.Native.Nat.{ℕ, zero, suc, ◌+◌, ◌-◌, ◌*◌, ◌<◌, ◌≤◌}
use native.Mathlib.Omega.{arith}
use lib.Dec.{eqb}
use lib.ListN.{length, drop, length-append, length-drop}
use Rattle.model.specs.Bytes.{Bytes, every, number_at}
use Rattle.model.specs.Path.{Path, below}
use Rattle.model.specs.Map.{keys}
use Rattle.model.specs.Tree.{Entry, Table}
use Rattle.model.specs.Table.{key_at, entry_at, entry_end, entries_at}
use Rattle.model.specs.Rename.{new_key, planned}
use Rattle.model.proofs.Orders.{bot, and_true}
use Rattle.table_entries.specs.Place.{Standing}
use Rattle.table_entries.proofs.Entries.{first_entry, stands_here, left_some, left_next, left_none}

-- what is below a path is longer
longer : (a k : Path) → below a k ≡ true → length a ≤ length k
longer [] k h = omega arith
longer (x ∷ a) [] h = absurd (bot (cc))
longer (x ∷ a) (c ∷ k) h = let l = longer a k (and_true (eqb x c) (below a k) h).1 in omega arith

new_length : (a b k : Path) → length (new_key a b k) ≡ length b + (length k - length a)
new_length a b k = let l = length-append b (drop (length a) k) in let d = length-drop (length a) k in omega arith

-- what the first key adds to the plan
first_planned : (a b k : Path) (e : Entry) (t : Table) → every (below a) (keys ((k, e) ∷ t)) ≡ true
    → (length a ≤ length k) × ((every (below a) (keys t) ≡ true)
    × (planned a b ((k, e) ∷ t) ≡ 2 * length k + (length b + (length k - length a)) + 256 + planned a b t))
first_planned a b k e t h =
    let g = and_true (below a k) (every (below a) (keys t)) h in
    let l = new_length a b k in
    (longer a k g.0, (g.1, rw g.0 (omega arith)))

-- of the n entries from the start on, the m from `at` on are left, and the others add up to `sum`
pub record Summing (s : Bytes) (from to n m at sum : ℕ) : Type 0 where
  pub stand : Standing s m at
  pub few : sum ≤ 96 * at
  pub are : (a b : Path) → length a ≡ from → length b ≡ to → every (below a) (keys (entries_at s n 0)) ≡ true
      → (every (below a) (keys (entries_at s m at)) ≡ true) × (sum + planned a b (entries_at s m at) ≡ planned a b (entries_at s n 0))

pub sum_start : (s : Bytes) (from to n : ℕ) → Standing s n 0 → Summing s from to n (n - 0) 0 0
sum_start s from to n w = subst (λ (m : ℕ). Summing s from to n m 0 0) (omega arith) (record { stand = w; few = omega arith; are = λ a b f g h. (h, omega arith) })

ended : (s : Bytes) (from to n m at sum : ℕ) → Summing s from to n m at sum → m ≤ 0
    → (a b : Path) → length a ≡ from → length b ≡ to → every (below a) (keys (entries_at s n 0)) ≡ true → sum ≡ planned a b (entries_at s n 0)
ended s from to n zero at sum w h a b f g z = let e = (w.are a b f g z).1 in omega arith
ended s from to n (suc m) at sum w h a b f g z = absurd (omega arith)

pub sum_end : (s : Bytes) (from to n i at sum : ℕ) → Summing s from to n (n - i) at sum → n ≤ i
    → (a b : Path) → length a ≡ from → length b ≡ to → every (below a) (keys (entries_at s n 0)) ≡ true → sum ≡ planned a b (entries_at s n 0)
sum_end s from to n i at sum w h = ended s from to n (n - i) at sum w (left_none n i h)

module _ (s : Bytes) (from to n m at sum : ℕ) (w : Summing s from to n m at sum) (h : 0 < m) (i : ℕ) (e : i ≡ number_at s at 2)
    (j : ℕ) (f : j ≡ number_at s (at + 4) 4) (v : ℕ) (g : from ≤ i → v ≡ 2 * i + (to + (i - from)) + 256) (l : v ≤ 2304) where
  abbrev others : Table
  others = entries_at s (m - 1) (entry_end s at)

  added : (a b : Path) → length a ≡ from → length b ≡ to → every (below a) (keys (entries_at s n 0)) ≡ true
      → (every (below a) (keys others) ≡ true) × (sum + v + planned a b others ≡ planned a b (entries_at s n 0))
  added a b p q z =
      let x = w.are a b p q z in
      let o = first_entry s m at h in
      let y = first_planned a b (key_at s at) (entry_at s at) others (sym (ap (λ (t : Table). every (below a) (keys t)) o) ∙ x.0) in
      let u = ap (planned a b) o ∙ y.1.1 in
      let k = e ∙ (stands_here s m at h w.stand).key_length in
      let c : length (key_at s at) ≡ i = sym k in
      let r = y.0 in
      let d = g (omega arith) in
      let t = x.1 in
      (y.1.0, omega arith)

  summed : Summing s from to n (m - 1) (at + 24 + i + j) (sum + v)
  summed =
      let k = w.few in
      rw (e, f) (record { stand = (stands_here s m at h w.stand).next; few = omega arith; are = added })

pub sum_on : (s : Bytes) (from to n p at sum : ℕ) → Summing s from to n (n - p) at sum → p < n → (i : ℕ) → i ≡ number_at s at 2
    → (j : ℕ) → j ≡ number_at s (at + 4) 4 → (v : ℕ) → (from ≤ i → v ≡ 2 * i + (to + (i - from)) + 256) → v ≤ 2304
    → Summing s from to n (n - (p + 1)) (at + (24 + i + j)) (sum + v)
sum_on s from to n p at sum w h i e j f v g l =
    let a : at + 24 + i + j ≡ at + (24 + i + j) = omega arith in
    let x = summed s from to n (n - p) at sum w (left_some n p h) i e j f v g l in
    subst (λ (m : ℕ). Summing s from to n m (at + (24 + i + j)) (sum + v)) (left_next n p)
    (subst (λ (to_here : ℕ). Summing s from to n (n - p - 1) to_here (sum + v)) a x)
