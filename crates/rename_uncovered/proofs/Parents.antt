-- The parent of a path, by the last slash: a path below a is uncovered by its own entry and its parent.
use mathlib.Core.Path.{◌≡◌, refl, sym, ap, ap₂, ◌∙◌}
use mathlib.Core.Bool.{Bool, true, false, not, ◌&&◌, ◌||◌}
use mathlib.Core.List.{List, [], ◌∷◌, ◌++◌, map}
use mathlib.Core.Logic.{◌⊎◌, inl, inr}
use Prim.Native.Nat.{ℕ, zero, suc, ◌<◌}
use native.Mathlib.Omega.{arith}
use lib.Dec.{eqb}
use lib.ListN.{length, get_or, take}
use borrow.Author.Tests.{eqb-true, eq-eqb}
use Rattle.model.specs.Bytes.{every}
use Rattle.model.specs.Path.{Path, ancestors, below}
use Rattle.model.specs.Map.{is_none, lookup}
use Rattle.model.specs.Tree.{Table}
use Rattle.model.specs.Rename.{uncovered}
use Rattle.model.proofs.Orders.{bot, yea, nay, test, and_true, same_refl, Split, split, mem, mem_ancestors, below_irrefl, below_trans}
use Rattle.base_paths.specs.Ancestors.{Parted}

-- a path without a slash has no proper ancestor but the root
no_ancestors : (p : Path) → ((j : ℕ) → j < length p → eqb (get_or p j 0) 47 ≡ false) → ancestors p ≡ []
no_ancestors [] h = refl
no_ancestors (b ∷ p) h = rw (h 0 (omega arith), no_ancestors p (λ j l. h (suc j) (omega arith)))

map-append : (b : ℕ) (ps qs : List Path) → map (λ (q : Path). b ∷ q) (ps ++ qs) ≡ map (λ (q : Path). b ∷ q) ps ++ map (λ (q : Path). b ∷ q) qs
map-append b [] qs = refl
map-append b (p ∷ ps) qs = ap (λ (rs : List Path). (b ∷ p) ∷ rs) (map-append b ps qs)

-- the last proper ancestor is what stands before the last slash, and the others are its own
pub last_ancestor : (p : Path) (i : ℕ) → i < length p → get_or p i 0 ≡ 47 → ((j : ℕ) → i < j → j < length p → eqb (get_or p j 0) 47 ≡ false)
    → ancestors p ≡ ancestors (take i p) ++ (take i p ∷ [])
last_ancestor [] i h e n = absurd (omega arith)
last_ancestor (b ∷ p) zero h e n = rw (eq-eqb b 47 e, no_ancestors p (λ j l. n (suc j) (omega arith) (omega arith)))
last_ancestor (b ∷ p) (suc i) h e n =
    let ih = last_ancestor p i (omega arith) e (λ j k l. n (suc j) (omega arith) (omega arith)) in
    let m = map-append b (ancestors (take i p)) (take i p ∷ []) in
    elim (test (eqb b 47)) [ yea z ↦ rw (z, ih, m) | nay z ↦ rw (z, ih, m) ]

every_append : (f : Path → Bool) (ps qs : List Path) → every f (ps ++ qs) ≡ (every f ps && every f qs)
every_append f [] qs = refl
every_append f (p ∷ ps) qs = let ih = every_append f ps qs in elim (test (f p)) [ yea z ↦ rw z ih | nay z ↦ rw z ]

pub every_all : (f : Path → Bool) (ps : List Path) → ((q : Path) → mem q ps ≡ true → f q ≡ true) → every f ps ≡ true
every_all f [] h = refl
every_all f (p ∷ ps) h =
    rw (h p (rw (same_refl p))) (every_all f ps (λ q m. h q (elim (split p q) [ Split.eq e w ↦ rw w | Split.ne e w ↦ rw w m ])))

-- below a begins with it, and goes on with a slash
below_front : (a q : Path) → below a q ≡ true → take (length a) q ≡ a
below_front [] q h = refl
below_front (b ∷ a) [] h = absurd (bot (cc))
below_front (b ∷ a) (c ∷ q) h =
    let e = and_true (eqb b c) (below a q) h in
    ap₂ ◌∷◌ (sym (eqb-true b c e.0)) (below_front a q e.1)

below_slash : (a q : Path) → below a q ≡ true → get_or q (length a) 0 ≡ 47
below_slash [] [] h = absurd (bot (cc))
below_slash [] (c ∷ q) h = eqb-true c 47 h
below_slash (b ∷ a) [] h = absurd (bot (cc))
below_slash (b ∷ a) (c ∷ q) h = below_slash a q (and_true (eqb b c) (below a q) h).1

-- a front that is longer than a is below a too
pub below_longer_front : (a q : Path) (i : ℕ) → below a q ≡ true → length a < i → below a (take i q) ≡ true
below_longer_front a q zero h l = absurd (omega arith)
below_longer_front [] [] (suc i) h l = absurd (bot (cc))
below_longer_front [] (c ∷ q) (suc i) h l = h
below_longer_front (b ∷ a) [] (suc i) h l = absurd (bot (cc))
below_longer_front (b ∷ a) (c ∷ q) (suc i) h l =
    let e = and_true (eqb b c) (below a q) h in
    rw e.0 (below_longer_front a q i e.1 (omega arith))

module _ (t : Table) (a : Path) where
  abbrev free : Path → Bool
  free p = not (below a p) || is_none (lookup t p)

  -- neither a nor what a lies below is below a
  not_below : (q : Path) → mem q (ancestors a) ≡ true → free q ≡ true
  not_below q m = elim (test (below a q)) [
    | yea z ↦ absurd (below_irrefl a (below_trans a q a z (sym (mem_ancestors a q) ∙ m)))
    | nay z ↦ rw z
  ]

  free_self : free a ≡ true
  free_self = elim (test (below a a)) [ yea z ↦ absurd (below_irrefl a z) | nay z ↦ rw z ]

  module _ (q : Path) (i : ℕ) (h : below a q ≡ true) (w : Parted q (length a) i) where
    pub slash_there : get_or q i 0 ≡ 47
    slash_there = go w.here
      where
        go : (i ≡ length a) ⊎ (get_or q i 0 ≡ 47) → get_or q i 0 ≡ 47
        go (inl e) = rw e (below_slash a q h)
        go (inr e) = e

    parts : every free (ancestors q) ≡ (every free (ancestors (take i q)) && (free (take i q) && true))
    parts =
        ap (every free) (last_ancestor q i w.high slash_there w.behind)
        ∙ every_append free (ancestors (take i q)) (take i q ∷ [])

    -- a child of a is uncovered if it has no entry
    pub child_uncovered : i ≡ length a → uncovered t a q ≡ (is_none (lookup t q) && true)
    child_uncovered e =
        let u : take i q ≡ a = ap (λ (k : ℕ). take k q) e ∙ below_front a q h in
        let v : (every free (ancestors (take i q)) && (free (take i q) && true)) ≡ true
        = rw u (rw (every_all free (ancestors a) not_below, free_self)) in
        ap (λ (b : Bool). is_none (lookup t q) && b) (parts ∙ v)

    -- and any other path if its parent is uncovered besides
    pub other_uncovered : length a < i → uncovered t a q ≡ (is_none (lookup t q) && uncovered t a (take i q))
    other_uncovered l =
        let b = below_longer_front a q i h l in
        let v : (every free (ancestors (take i q)) && (free (take i q) && true)) ≡ uncovered t a (take i q)
        = ap (λ (x : Bool). every free (ancestors (take i q)) && ((not x || is_none (lookup t (take i q))) && true)) b
        ∙ turned (every free (ancestors (take i q))) (is_none (lookup t (take i q))) in
        ap (λ (b : Bool). is_none (lookup t q) && b) (parts ∙ v)
      where
        turned : (x y : Bool) → (x && (y && true)) ≡ (y && x)
        turned true true = refl
        turned true false = refl
        turned false true = refl
        turned false false = refl
