-- The five rules of change request #112 are the invariant `Inv`, both ways; laws of `child`.
-- `rules_inv` assumes that the listing is closed and that no entry stands at the root; `inv_rules` assumes nothing.
use mathlib.Core.Path.{◌≡◌, refl, sym, ◌∙◌}
use mathlib.Core.Logic.{◌⊎◌, inl, inr}
use mathlib.Core.List.{[], ◌∷◌}
use mathlib.Core.Bool.{true, false}
use mathlib.Core.Option.{none, some}
use Prim.Native.Nat.{ℕ, zero, suc, ◌+◌, ◌≤◌, ◌<◌}
use native.Mathlib.Omega.{arith}
use lib.ListN.{length}
use lib.Dec.{eqb}
use Rattle.model.specs.Path.{Path, below, child, slashless}
use Rattle.model.specs.Map.{lookup}
use Rattle.model.specs.Tree.{Node, dir, file, link, Entry, own, reference, directory, deleted, Table, Tree}
use Rattle.model.specs.Tree.{view, shown, a_directory, kind_of, kind}
use Rattle.model.specs.Rules.{Rules}
use Rattle.model.proofs.Orders.{bot, yea, nay, test, has_none, is_some, opt, and_true, eqb_true}
use Rattle.model.proofs.Invariant.{Closed, Inv, kind_at, entry_at, at_none, at_own, at_reference, at_directory, at_deleted}
use Rattle.model.proofs.Invariant.{kind_is, nothing_is, directory_is, file_is, link_is, node_at, no_node, a_dir, file_node, link_node}

pub below_length : (k q : Path) → below k q ≡ true → length k < length q
below_length [] [] h = absurd (bot (cc))
below_length [] (c ∷ q) h = omega arith
below_length (a ∷ k) [] h = absurd (bot (cc))
below_length (a ∷ k) (c ∷ q) h = let ih = below_length k q (and_true (eqb a c) (below k q) h).1 in omega arith

pub child_below : (k q : Path) → child k q ≡ true → below k q ≡ true
child_below [] [] h = h
child_below [] (c ∷ q) h = (and_true (eqb c 47) (slashless q) h).0
child_below (a ∷ k) [] h = h
child_below (a ∷ k) (c ∷ q) h = let e = and_true (eqb a c) (child k q) h in cc (child_below k q e.1)

-- no child is the root
pub child_root : (k q : Path) → child k q ≡ true → q ≡ [] → ⊥
child_root [] [] h e = bot (cc)
child_root [] (c ∷ q) h e = bot (cc)
child_root (a ∷ k) [] h e = bot (cc)
child_root (a ∷ k) (c ∷ q) h e = bot (cc)

-- a path has one component, or its first one is above it
abbrev Front : Path → Type 0
Front q = (slashless q ≡ true) ⊎ ((u : Path) × (slashless u ≡ true) × (below u q ≡ true))

front : (q : Path) → Front q
front [] = inl refl
front (c ∷ q) = elim (test (eqb c 47)) [ yea e ↦ inr ([], refl, e) | nay e ↦ go (front q) e ]
  where
    go : Front q → eqb c 47 ≡ false → Front (c ∷ q)
    go (inl h) e = inl (cc)
    go (inr p) e = inr (c ∷ p.0, cc p.1, cc (p.2, eqb_true c))

-- from a path to one below it: it is a child, or there is a child on the way
pub way : (k q : Path) → below k q ≡ true → (child k q ≡ true) ⊎ ((c : Path) × (child k c ≡ true) × (below c q ≡ true))
way [] [] h = inl h
way [] (x ∷ q) h = go (front q)
  where
    go : Front q → (child [] (x ∷ q) ≡ true) ⊎ ((c : Path) × (child [] c ≡ true) × (below c (x ∷ q) ≡ true))
    go (inl e) = inl (cc)
    go (inr p) = inr (x ∷ p.0, cc p.1, cc (p.2, eqb_true x))
way (a ∷ k) [] h = inl h
way (a ∷ k) (x ∷ q) h = let e = and_true (eqb a x) (below k q) h in go e.0 (way k q e.1)
  where
    go : eqb a x ≡ true → (child k q ≡ true) ⊎ ((c : Path) × (child k c ≡ true) × (below c q ≡ true))
        → (child (a ∷ k) (x ∷ q) ≡ true) ⊎ ((c : Path) × (child (a ∷ k) c ≡ true) × (below c (x ∷ q) ≡ true))
    go e (inl h) = inl (cc)
    go e (inr p) = inr (a ∷ p.0, cc (p.1, eqb_true a), cc p.2)

module _ (t : Table) (l : Tree) (c : Closed (lookup l)) (r : Rules t l) (root : lookup t [] ≡ none) where
  rules_closed : Closed (shown t l)
  rules_closed q k n b h = elim (opt (lookup t k)) [
    | is_some e z ↦ r.parents k e n q z (cc) b
    | has_none z ↦ elim (kind_is (kind (shown t l) q)) [
      | directory_is y ↦ y
      | nothing_is y ↦ absurd (r.hidden k n q (cc) b (λ w. bot (cc)) z)
      | file_is y ↦ absurd (r.hidden k n q (cc) b (λ w. bot (cc)) z)
      | link_is y ↦ absurd (r.hidden k n q (cc) b (λ w. bot (cc)) z)
    ]
  ]

  -- the fifth rule, from children to all that is below; f bounds the way down
  rules_dirs : (f : ℕ) (k : Path) (m j : ℕ) (q : Path) (n : Node) → length q ≤ f + length k → lookup t k ≡ some (directory m)
      → lookup l k ≡ some (dir j) → below k q ≡ true → lookup l q ≡ some n → lookup t q ≡ none → ⊥
  rules_dirs zero k m j q n le h g b y z = let w = below_length k q b in omega arith
  rules_dirs (suc f) k m j q n le h g b y z = go (way k q b) (λ d m' j' le' h' g' b'. rules_dirs f d m' j' q n le' h' g' b' y z)
    where
      hid : (d : Path) (e : Entry) → (d ≡ [] → ⊥) → lookup t d ≡ some e → (kind_of (view e) ≡ a_directory → ⊥) → below d q ≡ true → ⊥
      hid d e s w v x = r.hidden q n d y x (λ u. v (sym (kind_at (shown t l) d (view e) (cc) s) ∙ u)) z

      go : (child k q ≡ true) ⊎ ((d : Path) × (child k d ≡ true) × (below d q ≡ true))
          → ((d : Path) (m j : ℕ) → length q ≤ f + length d → lookup t d ≡ some (directory m) → lookup l d ≡ some (dir j) → below d q ≡ true → ⊥)
          → ⊥
      go (inl e) ih = r.children k m j q n h g e y z
      go (inr p) ih =
          let d = p.0 in
          let s = child_root k d p.1 in
          let w = below_length k d (child_below k d p.1) in
          let x = c d q n p.2 y in
          elim (node_at (lookup l d)) [
            | no_node e ↦ bot (cc (kind_at (lookup l) d none e s))
            | file_node i v u e ↦ bot (cc (kind_at (lookup l) d (some (file i v u)) e s))
            | link_node e ↦ bot (cc (kind_at (lookup l) d (some link) e s))
            | a_dir i e ↦ elim (entry_at (lookup t d)) [
              | at_none v ↦ r.children k m j d (dir i) h g p.1 e v
              | at_directory v u ↦ ih d v i (omega arith) u e p.2
              | at_own v o u ↦ hid d (own v o) s u (λ a. bot (cc)) p.2
              | at_reference v o a u ↦ hid d (reference v o a) s u (λ a. bot (cc)) p.2
              | at_deleted u ↦ hid d deleted s u (λ a. bot (cc)) p.2
            ]
          ]

  pub rules_inv : Inv t l
  rules_inv = record {
    closed = rules_closed;
    uncovered = r.links;
    refs = r.refs;
    dirs = λ k m j q n h g b y z. rules_dirs (length q) k m j q n (omega arith) h g b y z;
    rootless = root;
  }

pub inv_rules : (t : Table) (l : Tree) → Inv t l → Rules t l
inv_rules t l i = record {
  parents = λ k e n q h v b. i.closed q k n b (cc);
  hidden = λ k n q h b d z. d (i.closed q k n b (cc));
  links = i.uncovered;
  refs = i.refs;
  children = λ k m j q n h g b y z. i.dirs k m j q n h g (child_below k q b) y z;
}
