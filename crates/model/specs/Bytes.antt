-- Lists of bytes: the numbers in them, their order, and tests over lists.
-- A byte is a number below 256; nothing here assumes it.
use Rattle.std.specs.Prelude.{Bool, true, false, cond, ◌&&◌, ◌||◌, List, [], ◌∷◌, take, drop}
use Prim.Native.Nat.{ℕ, zero, suc, ◌+◌, ◌*◌, ◌/◌, ◌%◌, compare, Ordering}
use Rattle.std.proofs.Math.Dec.{compare_is_eq}

abbrev pub Bytes : Type 0
Bytes = List ℕ

module _ {A : Type 0} where
  -- every element passes the test; some element does
  abbrev pub every : (A → Bool) → List A → Bool
  every f [] = true
  every f (x ∷ xs) = f x && every f xs

  abbrev pub some? : (A → Bool) → List A → Bool
  some? f [] = false
  some? f (x ∷ xs) = f x || some? f xs

  -- xs, with x before it where the test passed
  abbrev pub cons_if : Bool → A → List A → List A
  cons_if b x xs = cond b (x ∷ xs) xs

  -- one of three, by how two things compare
  abbrev pub by_order : Ordering → A → A → A → A
  by_order Ordering.lt less equal greater = less
  by_order Ordering.eq less equal greater = equal
  by_order Ordering.gt less equal greater = greater

-- "All numbers are little-endian."
abbrev pub number : Bytes → ℕ
number [] = 0
number (b ∷ s) = b + 256 * number s

-- the number in the n bytes from `at` on
abbrev pub number_at : Bytes → ℕ → ℕ → ℕ
number_at s at n = number (take n (drop at s))

-- v in n bytes
abbrev pub bytes : ℕ → ℕ → Bytes
bytes zero v = []
bytes (suc n) v = v % 256 ∷ bytes n (v / 256)

-- "by bytes": the first byte that differs decides, and what ends first comes first
abbrev pub order : Bytes → Bytes → Ordering
order [] [] = Ordering.eq
order [] (b ∷ t) = Ordering.lt
order (a ∷ s) [] = Ordering.gt
order (a ∷ s) (b ∷ t) = let o = order s t in by_order (compare a b) Ordering.lt o Ordering.gt

abbrev pub same : Bytes → Bytes → Bool
same s t = compare_is_eq (order s t)

abbrev pub before : Bytes → Bytes → Bool
before s t = by_order (order s t) true false false
