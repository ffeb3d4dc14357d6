-- Lists of names in parts, and the one name or none of a path with what is visible there.
use mathlib.Core.Path.{◌≡◌, refl, ap, sym, ◌∙◌}
use mathlib.Core.List.{List, [], ◌∷◌, ◌++◌, append_assoc}
use mathlib.Core.Bool.{Bool, true, false, not, ◌&&◌}
use mathlib.Core.Option.{Option, none, some}
use Prim.Native.Nat.{ℕ, suc, ◌+◌, ◌≤◌}
use native.Mathlib.Omega.{arith}
use lib.Dec.{eqb}
use lib.ListN.{length, drop, length-drop}
use borrow.Author.Tests.{eq-eqb, ne_eqb}
use Rattle.model.specs.Bytes.{Bytes, every, cons_if, bytes}
use Rattle.model.specs.Path.{Path, slashless, below, child}
use Rattle.model.specs.Map.{keys}
use Rattle.model.specs.Tree.{Node, Tree, kind_of}
use Rattle.model.specs.Calls.{exists, says}
use Rattle.model.proofs.Orders.{bot, and_true, yea, nay, test}
use Rattle.base_paths.specs.Ancestors.{slashes_in, first_or, next_slash}
use Rattle.view_merge.specs.Merges.{tree_of}
use Rattle.show_names.specs.Names.{child_of, name_start, is_link, names, name_bytes}
use Rattle.show_names.proofs.Children.{shows_node}
use Rattle.show_write.specs.Sizes.{inside}

-- names of a tree in two parts, their bytes, and what lies inside
pub names_parts : (p : Path) (xs ys : Tree) → names p (xs ++ ys) ≡ names p xs ++ names p ys
names_parts p [] ys = refl
names_parts p (x ∷ xs) ys = elim (test (child_of p x.0 && not (is_link (kind_of (some x.1))))) [
  | yea e ↦ rw e (ap (λ (ns : List Bytes). drop (name_start p) x.0 ∷ ns) (names_parts p xs ys))
  | nay e ↦ rw e (names_parts p xs ys)
]

append_three : (a b c d : Bytes) → a ++ (b ++ (c ++ d)) ≡ a ++ (b ++ c) ++ d
append_three a b c d = ap (λ (s : Bytes). a ++ s) (sym (append_assoc b c d)) ∙ sym (append_assoc a (b ++ c) d)

pub bytes_parts : (ns ms : List Bytes) → name_bytes (ns ++ ms) ≡ name_bytes ns ++ name_bytes ms
bytes_parts [] ms = refl
bytes_parts (n ∷ ns) ms =
    ap (λ (s : Bytes). bytes 2 (length n) ++ (n ++ s)) (bytes_parts ns ms)
    ∙ append_three (bytes 2 (length n)) n (name_bytes ns) (name_bytes ms)

pub inside_parts : (p : Path) (xs ys : Tree) → every (inside p) (keys (xs ++ ys)) ≡ true
    → (every (inside p) (keys xs) ≡ true) × (every (inside p) (keys ys) ≡ true)
inside_parts p [] ys h = (refl, h)
inside_parts p (x ∷ xs) ys h =
    let e = and_true (inside p x.0) (every (inside p) (keys (xs ++ ys))) h in
    let ih = inside_parts p xs ys e.1 in
    (rw e.0 ih.0, ih.1)

-- a child's name by where it begins
below_child : (p k : Path) → below p k ≡ true → (child p k ≡ slashless (drop (suc (length p)) k)) × (suc (length p) ≤ length k)
below_child [] [] h = absurd (bot (cc))
below_child [] (c ∷ k) h = (rw h, omega arith)
below_child (a ∷ p) [] h = absurd (bot (cc))
below_child (a ∷ p) (c ∷ k) h =
    let e = and_true (eqb a c) (below p k) h in
    let ih = below_child p k e.1 in
    let s = ih.1 in
    (rw e.0 ih.0, omega arith)

module _ (p k : Path) where
  pub inside_child : inside p k ≡ true → (child_of p k ≡ slashless (drop (name_start p) k)) × (name_start p ≤ length k)
  inside_child = go p
    where
      go : (p : Path) → inside p k ≡ true → (child_of p k ≡ slashless (drop (name_start p) k)) × (name_start p ≤ length k)
      go [] h = (refl, omega arith)
      go (c ∷ p) h = let e : length (c ∷ p) + 1 ≡ suc (length (c ∷ p)) = omega arith in rw e (below_child (c ∷ p) k h)

-- no slash from a place on, by where the next one is
slash_at : (n i : ℕ) (s : Bytes) → n ≡ i + length s → eqb (first_or n (slashes_in i s)) n ≡ slashless s
slash_at n i [] e = eq-eqb n n refl
slash_at n i (b ∷ s) e = elim (test (eqb b 47)) [
  | yea h ↦ rw h (ne_eqb i n (λ f. omega arith))
  | nay h ↦ rw h (slash_at n (suc i) s (omega arith))
]

pub no_slash_lem : (k : Path) (i : ℕ) → i ≤ length k → (r : ℕ) → r ≡ next_slash k i → eqb r (length k) ≡ slashless (drop i k)
no_slash_lem k i h r e =
    let l = length-drop i k in
    ap (λ (x : ℕ). eqb x (length k)) e ∙ slash_at (length k) i (drop i k) (omega arith)

-- the names of k alone, with what is visible there
module _ (p k : Path) where
  pub nothing_named : (o : Option Node) → says exists (kind_of o) ≡ false → names p (tree_of k o) ≡ []
  nothing_named none h = refl
  nothing_named (some n) h =
      let e : not (is_link (kind_of (some n))) ≡ false = shows_node n ∙ h in
      rw e (and_false (child_of p k))
    where
      and_false : (b : Bool) → cons_if (b && false) (drop (name_start p) k) [] ≡ []
      and_false true = refl
      and_false false = refl

  named_if : (n : Node) → says exists (kind_of (some n)) ≡ true → inside p k ≡ true
      → names p (tree_of k (some n)) ≡ cons_if (slashless (drop (name_start p) k)) (drop (name_start p) k) []
  named_if n h i =
      let e : not (is_link (kind_of (some n))) ≡ true = shows_node n ∙ h in
      let c = (inside_child p k i).0 in
      rw (e, c) (and_yes (slashless (drop (name_start p) k)))
    where
      and_yes : (b : Bool) → cons_if (b && true) (drop (name_start p) k) [] ≡ cons_if b (drop (name_start p) k) []
      and_yes true = refl
      and_yes false = refl

  -- something other than a link is visible, so k lies inside p, and its name begins at `name_start p`
  module _ (o : Option Node) (h : says exists (kind_of o) ≡ true) (u : every (inside p) (keys (tree_of k o)) ≡ true) where
    pub is_inside : inside p k ≡ true
    is_inside = go o h u
      where
        go : (o : Option Node) → says exists (kind_of o) ≡ true → every (inside p) (keys (tree_of k o)) ≡ true → inside p k ≡ true
        go none h u = absurd (bot (cc))
        go (some n) h u = (and_true (inside p k) true u).0

    names_of : names p (tree_of k o) ≡ cons_if (slashless (drop (name_start p) k)) (drop (name_start p) k) []
    names_of = go o h
      where
        go : (o : Option Node) → says exists (kind_of o) ≡ true
            → names p (tree_of k o) ≡ cons_if (slashless (drop (name_start p) k)) (drop (name_start p) k) []
        go none h = absurd (bot (cc))
        go (some n) h = named_if n h is_inside

    pub one_named : slashless (drop (name_start p) k) ≡ true → names p (tree_of k o) ≡ drop (name_start p) k ∷ []
    one_named e = names_of ∙ ap (λ (b : Bool). cons_if b (drop (name_start p) k) []) e

    pub none_named : slashless (drop (name_start p) k) ≡ false → names p (tree_of k o) ≡ []
    none_named e = names_of ∙ ap (λ (b : Bool). cons_if b (drop (name_start p) k) []) e
