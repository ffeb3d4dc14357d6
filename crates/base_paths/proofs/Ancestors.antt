-- The cursor over the proper ancestors of a path: its answers are, one after the other, the ends of `ancestors`, from the top.
use mathlib.Core.Path.{◌≡◌, refl, sym, ap, ◌∙◌}
use mathlib.Core.Bool.{true}
use mathlib.Core.List.{List, [], ◌∷◌, ◌++◌, map}
use Prim.Native.Nat.{ℕ, zero, suc, ◌+◌, ◌<◌, ◌≤◌}
use native.Mathlib.Omega.{arith}
use native.Mathlib.Nat.{add-zero, zero-add}
use native.Mathlib.Numerals.{add-one}
use lib.Dec.{eqb, ltb}
use lib.ListN.{length, get_or, take, drop, drop_of_length-le}
use lib.Seq.{drop-cons}
use borrow.Author.Tests.{eqb-true, eqb-false, eq-eqb, ne_eqb, ltb-true, ltb-false}
use Rattle.model.specs.Bytes.{Bytes}
use Rattle.model.specs.Path.{Path, ancestors, below}
use Rattle.model.proofs.Orders as Orders
use Rattle.model.proofs.Orders.{yea, nay, test}
use Rattle.base_paths.specs.Ancestors.{slashes_in, slashes_from, first_or, next_slash, ancestors_from}

module _ (p : Path) (i : ℕ) where
  -- at i stands a slash; another byte; nothing
  here : i < length p → get_or p i 0 ≡ 47 → slashes_from p i ≡ i ∷ slashes_from p (i + 1)
  here h e = rw (add-one i, drop-cons p i 0 h, eq-eqb (get_or p i 0) 47 e)

  past : i < length p → (get_or p i 0 ≡ 47 → ⊥) → slashes_from p i ≡ slashes_from p (i + 1)
  past h n = rw (add-one i, drop-cons p i 0 h, ne_eqb (get_or p i 0) 47 n)

  over : length p ≤ i → slashes_from p i ≡ []
  over h = rw (drop_of_length-le p h)

  -- so the next slash
  pub next_here : i < length p → get_or p i 0 ≡ 47 → next_slash p i ≡ i
  next_here h e = rw (here h e)

  pub next_past : i < length p → (get_or p i 0 ≡ 47 → ⊥) → next_slash p i ≡ next_slash p (i + 1)
  next_past h n = ap (first_or (length p)) (past h n)

  pub next_over : length p ≤ i → next_slash p i ≡ length p
  next_over h = rw (over h)

-- the slashes from i on: none, or the first and those behind it
data Found (p : Path) (i : ℕ) : Type 0 where
  nothing : slashes_from p i ≡ [] → Found p i
  slash : (k : ℕ) → k < length p → get_or p k 0 ≡ 47 → slashes_from p i ≡ k ∷ slashes_from p (k + 1) → Found p i

find : (n : ℕ) (p : Path) (i : ℕ) → length p ≤ i + n → Found p i
find zero p i h = nothing (over p i (omega arith))
find (suc n) p i h = elim (test (ltb i (length p))) [
  | nay e ↦ nothing (over p i (ltb-false i (length p) e))
  | yea e ↦ let l = ltb-true i (length p) e in elim (test (eqb (get_or p i 0) 47)) [
    | yea w ↦ let s = eqb-true (get_or p i 0) 47 w in slash i l s (here p i l s)
    | nay w ↦ let m = past p i l (eqb-false (get_or p i 0) 47 w) in elim (find n p (i + 1) (omega arith)) [
      | nothing e ↦ nothing (m ∙ e)
      | slash k b s e ↦ slash k b s (m ∙ e)
    ]
  ]
]

-- what the cursor's answer r says: nothing is left, or at r stands the first slash
data Answer (p : Path) (i r : ℕ) : Type 0 where
  none_left : r ≡ length p → slashes_from p i ≡ [] → Answer p i r
  at_slash : r < length p → get_or p r 0 ≡ 47 → slashes_from p i ≡ r ∷ slashes_from p (r + 1) → Answer p i r

answer : (p : Path) (i r : ℕ) → r ≡ next_slash p i → Answer p i r
answer p i r e = elim (find (length p) p i (omega arith)) [
  | nothing f ↦ none_left (e ∙ ap (first_or (length p)) f) f
  | slash k b s f ↦ let z : r ≡ k = e ∙ ap (first_or (length p)) f in at_slash (omega arith) (cc) (cc)
]

-- the law of the cursor: where it answers r, the slashes from i on are r and those behind r; where it answers the length, there are none
module _ (p : Path) (i r : ℕ) (e : r ≡ next_slash p i) where
  pub next_slash_lem : r < length p → (get_or p r 0 ≡ 47) × (slashes_from p i ≡ r ∷ slashes_from p (r + 1))
  next_slash_lem h = elim (answer p i r e) [ none_left z f ↦ absurd (omega arith) | at_slash b s f ↦ (s, f) ]

  pub no_slash_lem : length p ≤ r → slashes_from p i ≡ []
  no_slash_lem h = elim (answer p i r e) [ none_left z f ↦ f | at_slash b s f ↦ absurd (omega arith) ]

  -- from the answer on is found what is found from i on, the answer first
  pub settled : r ≡ next_slash p r
  settled = elim (answer p i r e) [
    | none_left z f ↦ z ∙ sym (next_over p r (omega arith))
    | at_slash b s f ↦ sym (next_here p r b s)
  ]

  pub onward : slashes_from p i ≡ slashes_from p r
  onward = elim (answer p i r e) [
    | none_left z f ↦ f ∙ sym (over p r (omega arith))
    | at_slash b s f ↦ f ∙ sym (here p r b s)
  ]

-- the slashes of a part that stands one place further
moved : (i : ℕ) (s : Bytes) → slashes_in (suc i) s ≡ map suc (slashes_in i s)
moved i [] = refl
moved i (b ∷ s) = let ih = moved (suc i) s in elim (test (eqb b 47)) [ yea e ↦ cc | nay e ↦ cc ]

longer : (b : ℕ) (p : Path) (ks : List ℕ)
    → map (λ (k : ℕ). take k (b ∷ p)) (map suc ks) ≡ map (λ (q : Path). b ∷ q) (map (λ (k : ℕ). take k p) ks)
longer b p [] = refl
longer b p (k ∷ ks) = ap (λ (qs : List Path). (b ∷ take k p) ∷ qs) (longer b p ks)

-- the ancestors from the start on are all the proper ancestors, from the top
pub all_ancestors : (p : Path) → ancestors p ≡ ancestors_from p 0
all_ancestors [] = refl
all_ancestors (b ∷ p) =
    let ih = all_ancestors p in
    let e = longer b p (slashes_from p 0) in
    let f = moved 0 p in
    elim (test (eqb b 47)) [
      | yea w ↦ rw (w, ih, f) (ap (λ (qs : List Path). [] ∷ qs) (sym e))
      | nay w ↦ rw (w, ih, f) (sym e)
    ]

lengths_cons : (b : ℕ) (qs : List Path) → map length (map (λ (q : Path). b ∷ q) qs) ≡ map suc (map length qs)
lengths_cons b [] = refl
lengths_cons b (q ∷ qs) = ap (λ (ks : List ℕ). suc (length q) ∷ ks) (lengths_cons b qs)

-- and the places of the slashes are their lengths
pub all_lengths : (p : Path) → map length (ancestors p) ≡ slashes_from p 0
all_lengths [] = refl
all_lengths (b ∷ p) =
    let e = lengths_cons b (ancestors p) ∙ ap (map suc) (all_lengths p) ∙ sym (moved 0 p) in
    elim (test (eqb b 47)) [
      | yea w ↦ rw w (ap (λ (ks : List ℕ). 0 ∷ ks) e)
      | nay w ↦ rw w e
    ]

-- from a place i on they are the rest of all, behind those that end before i
parted : (j i : ℕ) (s : Bytes) → slashes_in j s ≡ slashes_in j (take i s) ++ slashes_in (j + i) (drop i s)
parted j zero s = rw add-zero
parted j (suc i) [] = refl
parted j (suc i) (b ∷ s) =
    let ih = parted (suc j) i s in
    let e : suc j + i ≡ j + suc i = omega arith in
    elim (test (eqb b 47)) [ yea w ↦ cc | nay w ↦ cc ]

pub rest_of_all : (p : Path) (i : ℕ) → slashes_from p 0 ≡ slashes_in 0 (take i p) ++ slashes_from p i
rest_of_all p i = parted 0 i p ∙ ap (λ (n : ℕ). slashes_in 0 (take i p) ++ slashes_in n (drop i p)) (zero-add i)

-- A loop over the ancestors: k = next_ancestor(p, 0), while k < p.len(), and k = next_ancestor(p, k + 1) at the end of a turn. At its
-- start all are to come, each turn takes the next, and at its end none is left.
ends : (p : Path) {ks js : List ℕ} → ks ≡ js → map (λ (k : ℕ). take k p) ks ≡ map (λ (k : ℕ). take k p) js
ends p e = ap (map (λ (k : ℕ). take k p)) e

pub begin : (p : Path) (k : ℕ) → k ≡ next_slash p 0 → (k ≡ next_slash p k) × (ancestors p ≡ ancestors_from p k)
begin p k e = (settled p 0 k e, all_ancestors p ∙ ends p (onward p 0 k e))

pub turn : (p : Path) (k r : ℕ) → k ≡ next_slash p k → k < length p → r ≡ next_slash p (k + 1)
    → (r ≡ next_slash p r) × (ancestors_from p k ≡ take k p ∷ ancestors_from p r)
turn p k r e h f =
    let more = ap (λ (ks : List ℕ). k ∷ ks) (onward p (k + 1) r f) in
    (settled p (k + 1) r f, ends p ((next_slash_lem p k k e h).1 ∙ more))

pub done : (p : Path) (k : ℕ) → length p ≤ k → ancestors_from p k ≡ []
done p k h = ends p (over p k h)

-- the path lies below what stands before a slash of it, which is then a path too (`path_ancestor` of model)
pub before_slash : (p : Path) (k : ℕ) → k < length p → get_or p k 0 ≡ 47 → below (take k p) p ≡ true
before_slash [] k h e = absurd (omega arith)
before_slash (b ∷ p) zero h e = eq-eqb b 47 e
before_slash (b ∷ p) (suc k) h e = cc (Orders.eqb_true b, before_slash p k (omega arith) e)
