-- Rename's walk: what a walk that comes to a sum says of the listed nodes that stop it, what one that was stopped has met, and what the budget changes.
-- `walk_stops` assumes that the listing is closed, `walk_met` that it ascends; the laws of the budget assume nothing.
use mathlib.Core.Path.{◌≡◌, refl, ap, sym, ◌∙◌}
use mathlib.Core.Logic.{◌⊎◌, inl, inr}
use mathlib.Core.List.{List, [], ◌∷◌}
use mathlib.Core.Bool.{Bool, true, cond, ◌&&◌}
use mathlib.Core.Option.{Option, none, some}
use Prim.Native.Nat.{ℕ, zero, suc, ◌+◌, ◌*◌, ◌≤◌, ◌<◌}
use native.Mathlib.Omega.{arith}
use lib.ListN.{length}
use lib.Dec.{eqb, leb, leb→le, nleb→lt}
use Rattle.model.specs.Bytes.{cons_if}
use Rattle.model.specs.Path.{Path, components, below, child, slashless}
use Rattle.model.specs.Map.{is_none, lookup, only}
use Rattle.model.specs.Tree.{Node, dir, file, link, Entry, Table, Tree, kind_of, is_directory}
use Rattle.model.specs.Rename.{Stop, at_link, stops, Walk, sum, over_budget, stopped, in_budget, visit, visits, children, last_first, enter, walk, depth, walk_from}
use Rattle.model.proofs.Orders.{bot, yea, nay, test, and_true, eqb_eq, split, Split, mem, same_refl, below_trans}
use Rattle.model.proofs.Maps.{Ascending, lookup_low, lookup_only, ascending_only}
use Rattle.model.proofs.Texts.{on_first_length}
use Rattle.model.proofs.Invariant.{Closed, kind_at, node_at, no_node, a_dir, file_node, link_node}
use Rattle.model.proofs.Rules.{child_below, child_root, way}

-- how deep a path stands
abbrev pub level : Path → ℕ
level p = length (components p)

level_cons : (b : ℕ) (s : Path) → level (b ∷ s) ≡ cond (eqb b 47) 1 0 + level s
level_cons b s = elim (test (eqb b 47)) [
  | yea e ↦ rw e (omega arith)
  | nay e ↦ let f = on_first_length b (components s) in rw e (omega arith)
]

level_some : (p : Path) → 1 ≤ level p
level_some [] = omega arith
level_some (b ∷ s) = let ih = level_some s in rw (level_cons b s) (omega arith)

slashless_level : (u : Path) → slashless u ≡ true → level u ≡ 1
slashless_level [] h = refl
slashless_level (c ∷ u) h = elim (test (eqb c 47)) [
  | yea e ↦ absurd (bot (cc))
  | nay e ↦ let ih = slashless_level u (cc) in level_cons c u ∙ rw e (omega arith)
]

pub child_level : (d q : Path) → child d q ≡ true → level q ≡ suc (level d)
child_level [] [] h = absurd (bot (cc))
child_level [] (c ∷ q) h =
    let e = and_true (eqb c 47) (slashless q) h in
    let f = slashless_level q e.1 in
    level_cons c q ∙ rw e.0 (omega arith)
child_level (a ∷ d) [] h = absurd (bot (cc))
child_level (a ∷ d) (c ∷ q) h =
    let e = and_true (eqb a c) (child d q) h in
    let ih = child_level d q e.1 in
    rw (level_cons a d, level_cons c q, eqb_eq a c e.0) (omega arith)

pub below_level : (d q : Path) → below d q ≡ true → level d < level q
below_level [] [] h = absurd (bot (cc))
below_level [] (c ∷ q) h = let e = level_some q in rw (level_cons c q, h) (omega arith)
below_level (a ∷ d) [] h = absurd (bot (cc))
below_level (a ∷ d) (c ∷ q) h =
    let e = and_true (eqb a c) (below d q) h in
    let ih = below_level d q e.1 in
    rw (level_cons a d, level_cons c q, eqb_eq a c e.0) (omega arith)

-- a listed path stands no deeper than the tree goes
pub depth_le : (xs : Tree) (q : Path) (n : Node) → lookup xs q ≡ some n → length (components q) ≤ depth xs
depth_le [] q n h = absurd (bot (cc))
depth_le (x ∷ xs) q n h = elim (split x.0 q) [
  | Split.eq e w ↦ omega (arith, ap level e)
  | Split.ne e w ↦ let ih = depth_le xs q n (cc) in omega arith
]

-- a walk that has ended, and how a walk stands
abbrev pub Ended : Walk → Type 0
Ended (sum s) = ⊥
Ended over_budget = Unit {0}
Ended (stopped x v) = Unit {0}

data Stands (w : Walk) : Type 0 where
  going : (s : ℕ) → w ≡ sum s → Stands w
  ended : Ended w → Stands w

stands : (w : Walk) → Stands w
stands (sum s) = going s refl
stands over_budget = ended tt
stands (stopped x v) = ended tt

ended_sum : (w : Walk) (s : ℕ) → Ended w → w ≡ sum s → ⊥
ended_sum (sum r) s h e = h
ended_sum over_budget s h e = bot (cc)
ended_sum (stopped x v) s h e = bot (cc)

-- a step that leaves every ended walk as it is
abbrev pub Keeps : (Path → Walk → Walk) → Type 0
Keeps g = (p : Path) (w : Walk) → Ended w → g p w ≡ w

pub enter_ended : (g : Path → Walk → Walk) → Keeps g → (ds : List Path) (w : Walk) → Ended w → enter g ds w ≡ w
enter_ended g k [] w h = refl
enter_ended g k (d ∷ ds) w h = rw (k d w h) (enter_ended g k ds w h)

-- what came to a sum came to one at each directory entered, and had come to one before
enter_sum : (g : Path → Walk → Walk) → Keeps g → (ds : List Path) (w : Walk) (s : ℕ) → enter g ds w ≡ sum s
    → (q : Path) → mem q ds ≡ true → (u : Walk) × (r : ℕ) × (g q u ≡ sum r)
enter_sum g k [] w s e q m = absurd (bot (cc))
enter_sum g k (p ∷ ps) w s e q m = elim (split p q) [
  | Split.ne z y ↦ enter_sum g k ps (g p w) s e q (cc)
  | Split.eq z y ↦ elim (stands (g p w)) [
    | going r u ↦ (w, r, cc)
    | ended h ↦ absurd (ended_sum (g p w) s h (sym (enter_ended g k ps (g p w) h) ∙ e))
  ]
]

enter_before : (g : Path → Walk → Walk) → Keeps g → (ds : List Path) (w : Walk) (s : ℕ) → enter g ds w ≡ sum s → (r : ℕ) × (w ≡ sum r)
enter_before g k ds w s e = elim (stands w) [
  | going r u ↦ (r, u)
  | ended h ↦ absurd (ended_sum w s h (sym (enter_ended g k ds w h) ∙ e))
]

-- what was stopped was stopped at one of the directories entered
enter_stopped : (x : Stop) (v : ℕ) (g : Path → Walk → Walk) → Keeps g → (ds : List Path) (s : ℕ) → enter g ds (sum s) ≡ stopped x v
    → (p : Path) × (mem p ds ≡ true) × (r : ℕ) × (g p (sum r) ≡ stopped x v)
enter_stopped x v g k [] s e = absurd (bot (cc))
enter_stopped x v g k (p ∷ ps) s e = elim (stands (g p (sum s))) [
  | ended h ↦ (p, cc (same_refl p), s, sym (enter_ended g k ps (g p (sum s)) h) ∙ e)
  | going r u ↦ more (enter_stopped x v g k ps r (cc))
]
  where
    more : (q : Path) × (mem q ps ≡ true) × (r : ℕ) × (g q (sum r) ≡ stopped x v)
        → (q : Path) × (mem q (p ∷ ps) ≡ true) × (r : ℕ) × (g q (sum r) ≡ stopped x v)
    more z = (z.0, elim (split p z.0) [ Split.eq u y ↦ cc | Split.ne u y ↦ cc z.1 ], z.2, z.3)

-- the directories of a tree are among those found
found_kept : (xs : Tree) (ds : List Path) (q : Path) → mem q ds ≡ true → mem q (last_first xs ds) ≡ true
found_kept [] ds q h = h
found_kept (x ∷ xs) ds q h = elim (test (is_directory (kind_of (some x.1)))) [
  | yea e ↦ let ih = found_kept xs (x.0 ∷ ds) q (elim (split x.0 q) [ Split.eq z y ↦ cc | Split.ne z y ↦ cc ]) in cc
  | nay e ↦ let ih = found_kept xs ds q h in cc
]

found_in : (xs : Tree) (ds : List Path) (q : Path) (m : ℕ) → lookup xs q ≡ some (dir m) → mem q (last_first xs ds) ≡ true
found_in [] ds q m h = absurd (bot (cc))
found_in (x ∷ xs) ds q m h = elim (split x.0 q) [
  | Split.eq z y ↦ let ih = found_kept xs (x.0 ∷ ds) q (cc) in cc
  | Split.ne z y ↦ found_in xs (cons_if (is_directory (kind_of (some x.1))) x.0 ds) q m (cc)
]

found_only : (P : Path → Bool) (xs : Tree) (ds : List Path) (q : Path) → mem q (last_first (only P xs) ds) ≡ true
    → (mem q ds ≡ true) ⊎ (P q ≡ true)
found_only P [] ds q h = inl h
found_only P (x ∷ xs) ds q h = elim (test (P x.0)) [
  | nay e ↦ found_only P xs ds q (cc)
  | yea e ↦ elim (test (is_directory (kind_of (some x.1)))) [
    | nay f ↦ found_only P xs ds q (cc)
    | yea f ↦ elim (found_only P xs (x.0 ∷ ds) q (cc)) [
      | inr z ↦ inr z
      | inl z ↦ elim (split x.0 q) [ Split.eq u v ↦ inr (cc) | Split.ne u v ↦ inl (cc) ]
    ]
  ]
]

pub free_is : (o : Option Entry) → is_none o ≡ true → o ≡ none
free_is none h = refl
free_is (some e) h = cc

-- a listed node below d that stops the walk, with no entry at its path
pub record Met (t : Table) (l : Tree) (d : Path) : Type 0 where
  pub path : Path
  pub under : below d path ≡ true
  pub node : Node
  pub is_there : lookup l path ≡ some node
  pub ends : stops node ≡ true
  pub free : lookup t path ≡ none

budget_stopped : (b : Option ℕ) (s : ℕ) (x : Stop) (v : ℕ) → in_budget b s ≡ stopped x v → ⊥
budget_stopped none s x v h = bot (cc)
budget_stopped (some n) s x v h = elim (test (leb s n)) [ yea e ↦ bot (cc) | nay e ↦ bot (cc) ]

module _ (b : Option ℕ) where
  pub visits_ended : (xs : Tree) (w : Walk) → Ended w → visits b w xs ≡ w
  visits_ended [] w h = refl
  visits_ended (x ∷ xs) (sum s) h = absurd h
  visits_ended (x ∷ xs) over_budget h = visits_ended xs over_budget h
  visits_ended (x ∷ xs) (stopped y v) h = visits_ended xs (stopped y v) h

  -- no node that stops the walk is visited on the way to a sum
  visit_stops : (w : Walk) (p : Path) (n : Node) → stops n ≡ true → Ended (visit b w p n)
  visit_stops over_budget p n h = tt
  visit_stops (stopped x v) p n h = tt
  visit_stops (sum s) p (dir m) h = absurd (bot (cc))
  visit_stops (sum s) p (file m z c) h = absurd (bot (cc))
  visit_stops (sum s) p link h = tt

  visits_sum : (xs : Tree) (w : Walk) (s : ℕ) (q : Path) (n : Node) → visits b w xs ≡ sum s → lookup xs q ≡ some n → stops n ≡ true → ⊥
  visits_sum [] w s q n h e k = bot (cc)
  visits_sum (x ∷ xs) w s q n h e k = elim (split x.0 q) [
    | Split.ne z y ↦ visits_sum xs (visit b w x.0 x.1) s q n h (cc) k
    | Split.eq z y ↦
        let f : x.1 ≡ n = cc in
        let g : Ended (visit b w x.0 x.1) = visit_stops w x.0 x.1 (ap stops f ∙ k) in
        ended_sum (visit b w x.0 x.1) s g (sym (visits_ended xs (visit b w x.0 x.1) g) ∙ h)
  ]

  -- what was stopped has visited a node that stops the walk
  visit_met : (x : Stop) (v s : ℕ) (p : Path) (n : Node) → visit b (sum s) p n ≡ stopped x v → stops n ≡ true
  visit_met x v s p (dir m) h = absurd (budget_stopped b (s + 3 * length p + 512) x v h)
  visit_met x v s p (file m z c) h = absurd (budget_stopped b (s + 2 * length p + 512) x v h)
  visit_met x v s p link h = refl

  -- a node that stops the walk, found in a tree
  abbrev StopIn : Tree → Type 0
  StopIn xs = (q : Path) × (n : Node) × (lookup xs q ≡ some n) × (stops n ≡ true)

  visits_met : (y : Stop) (v : ℕ) (xs : Tree) → Ascending xs → (s : ℕ) → visits b (sum s) xs ≡ stopped y v → StopIn xs
  visits_met y v [] a s h = absurd (bot (cc))
  visits_met y v (x ∷ xs) a s h = go (stands (visit b (sum s) x.0 x.1)) (λ r z. visits_met y v xs a.1 r z)
    where
      more : StopIn xs → StopIn (x ∷ xs)
      more z = (
        z.0,
        z.1,
        elim (split x.0 z.0) [
          | Split.eq u w ↦ cc (z.2, lookup_low x.0 xs a.0 a.1)
          | Split.ne u w ↦ cc z.2
        ],
        z.3,
      )

      go : Stands (visit b (sum s) x.0 x.1) → ((r : ℕ) → visits b (sum r) xs ≡ stopped y v → StopIn xs) → StopIn (x ∷ xs)
      go (going r e) ih = more (ih r (cc))
      go (ended e) ih =
          let f = sym (visits_ended xs (visit b (sum s) x.0 x.1) e) ∙ h in
          (x.0, x.1, cc (same_refl x.0), visit_met y v s x.0 x.1 f)

module _ (t : Table) (l : Tree) where
  -- which listed paths are visited at d
  abbrev met : Path → Path → Bool
  met d q = child d q && is_none (lookup t q)

  pub in_children : (d q : Path) (n : Node) → child d q ≡ true → lookup t q ≡ none → lookup l q ≡ some n → lookup (children t l d) q ≡ some n
  in_children d q n c e h = cc (lookup_only (met d) l q)

  module _ (b : Option ℕ) where
    pub walk_ended : (n : ℕ) → Keeps (walk n t l b)
    walk_ended zero d w h = refl
    walk_ended (suc n) d w h =
        cc (visits_ended b (children t l d) w h, enter_ended (walk n t l b) (walk_ended n) (last_first (children t l d) []) w h)

    stops_below : Closed (lookup l) → (n : ℕ) (d : Path) (w : Walk) (s : ℕ) → walk n t l b d w ≡ sum s
        → (q : Path) (x : Node) → below d q ≡ true → level q ≤ n + level d → lookup l q ≡ some x → stops x ≡ true → lookup t q ≡ none
        → ((p : Path) → below d p ≡ true → below p q ≡ true → lookup t p ≡ none) → ⊥
    stops_below c zero d w s h q x u le e j f g = let z = below_level d q u in omega arith
    stops_below c (suc n) d w s h q x u le e j f g = go (way d q u) (λ p v r z y le' k. stops_below c n p v r z q x y le' e j f k)
      where
        go : (child d q ≡ true) ⊎ ((p : Path) × (child d p ≡ true) × (below p q ≡ true))
            → ((p : Path) (v : Walk) (r : ℕ) → walk n t l b p v ≡ sum r → below p q ≡ true → level q ≤ n + level p
            → ((x : Path) → below p x ≡ true → below x q ≡ true → lookup t x ≡ none) → ⊥) → ⊥
        go (inl z) ih =
            let y = enter_before (walk n t l b) (walk_ended n) (last_first (children t l d) []) (visits b w (children t l d)) s h in
            visits_sum b (children t l d) w y.0 q x y.1 (in_children d q x z f e) j
        go (inr z) ih =
            let p = z.0 in
            let i = child_below d p z.1 in
            let y = child_level d p z.1 in
            let k = c p q x z.2 e in
            let o = child_root d p z.1 in
            elim (node_at (lookup l p)) [
              | no_node v ↦ bot (cc (kind_at (lookup l) p none v o))
              | file_node m a r v ↦ bot (cc (kind_at (lookup l) p (some (file m a r)) v o))
              | link_node v ↦ bot (cc (kind_at (lookup l) p (some link) v o))
              | a_dir m v ↦
                  let a = found_in (children t l d) [] p m (in_children d p (dir m) z.1 (g p i z.2) v) in
                  let r = enter_sum (walk n t l b) (walk_ended n) (last_first (children t l d) []) (visits b w (children t l d)) s h p a in
                  ih p r.0 r.1 r.2 z.2 (omega arith) (λ q' u u'. g q' (below_trans d p q' i u) u')
            ]

    met_below : (y : Stop) (v : ℕ) → Ascending l → (n : ℕ) (d : Path) (s : ℕ) → walk n t l b d (sum s) ≡ stopped y v → Met t l d
    met_below y v a zero d s h = absurd (bot (cc))
    met_below y v a (suc n) d s h = go (stands (visits b (sum s) (children t l d))) (λ p r z. met_below y v a n p r z)
      where
        here : StopIn b (children t l d) → Met t l d
        here z = elim (test (met d z.0)) [
          | nay e ↦ absurd (bot (cc (z.2, lookup_only (met d) l z.0)))
          | yea e ↦
              let w = and_true (child d z.0) (is_none (lookup t z.0)) e in
              record {
                path = z.0;
                under = child_below d z.0 w.0;
                node = z.1;
                is_there = cc (z.2, lookup_only (met d) l z.0);
                ends = z.3;
                free = free_is (lookup t z.0) w.1;
              }
        ]

        lift : (p : Path) → below d p ≡ true → Met t l p → Met t l d
        lift p u m = record {
          path = m.path;
          under = below_trans d p m.path u m.under;
          node = m.node;
          is_there = m.is_there;
          ends = m.ends;
          free = m.free;
        }

        deep : ((p : Path) (r : ℕ) → walk n t l b p (sum r) ≡ stopped y v → Met t l p)
            → (p : Path) × (mem p (last_first (children t l d) []) ≡ true) × (r : ℕ) × (walk n t l b p (sum r) ≡ stopped y v) → Met t l d
        deep ih z = elim (found_only (met d) l [] z.0 z.1) [
          | inl w ↦ absurd (bot (cc))
          | inr w ↦ lift z.0 (child_below d z.0 (and_true (child d z.0) (is_none (lookup t z.0)) w).0) (ih z.0 z.2 z.3)
        ]

        go : Stands (visits b (sum s) (children t l d)) → ((p : Path) (r : ℕ) → walk n t l b p (sum r) ≡ stopped y v → Met t l p) → Met t l d
        go (ended e) ih =
            let f = enter_ended (walk n t l b) (walk_ended n) (last_first (children t l d) []) (visits b (sum s) (children t l d)) e in
            here (visits_met b y v (children t l d) (ascending_only (met d) l a) s (sym f ∙ h))
        go (going r e) ih = deep ih (enter_stopped y v (walk n t l b) (walk_ended n) (last_first (children t l d) []) r (cc))

    module _ (a : Path) where
      -- (A) after a walk that comes to a sum, no listed node below a that stops it is without an entry both at its path and between a and it
      pub walk_stops : Closed (lookup l) → (s : ℕ) → walk_from t l b a ≡ sum s
          → (q : Path) (n : Node) → below a q ≡ true → lookup l q ≡ some n → stops n ≡ true → lookup t q ≡ none
          → ((p : Path) → below a p ≡ true → below p q ≡ true → lookup t p ≡ none) → ⊥
      walk_stops c s h q n u e j f g =
          let d = depth_le l q n e in
          stops_below c (depth l) a (sum (2 * length a + 1)) s h q n u (omega arith) e j f g

      -- (B) a walk that was stopped has met a node that stops it
      pub walk_met : (y : Stop) (v : ℕ) → Ascending l → walk_from t l b a ≡ stopped y v → Met t l a
      walk_met y v c h = met_below y v c (depth l) a (2 * length a + 1) h

-- the sum that a walk has come to; none is known of one that ended above its budget
abbrev pub sum_of : Walk → ℕ
sum_of (sum s) = s
sum_of over_budget = 0
sum_of (stopped x s) = s

-- (C) a walk with the budget B beside the one without, both from f on
data Beside (B f : ℕ) : Walk → Walk → Type 0 where
  both : (s : ℕ) → f ≤ s → (s ≤ B) ⊎ (s ≡ f) → Beside B f (sum s) (sum s)
  over : (s : ℕ) → f < s → B < s → Beside B f over_budget (sum s)
  both_stopped : (x : Stop) (s : ℕ) → f ≤ s → (s ≤ B) ⊎ (s ≡ f) → Beside B f (stopped x s) (stopped x s)
  over_stopped : (x : Stop) (s : ℕ) → f < s → B < s → Beside B f over_budget (stopped x s)

module _ (B f : ℕ) where
  added : (s : ℕ) → f < s → Beside B f (in_budget (some B) s) (sum s)
  added s h = elim (test (leb s B)) [
    | yea e ↦ rw e (both s (omega arith) (inl (leb→le s B (rw e tt))))
    | nay e ↦ rw e (over s h (nleb→lt s B (rw e tt)))
  ]

  visit_beside : (p : Path) (n : Node) (v w : Walk) → Beside B f v w → Beside B f (visit (some B) v p n) (visit none w p n)
  visit_beside p (dir m) _ _ (both s h g) = added (s + 3 * length p + 512) (omega arith)
  visit_beside p (dir m) _ _ (over s h g) = over (s + 3 * length p + 512) (omega arith) (omega arith)
  visit_beside p (dir m) _ _ (both_stopped x s h g) = both_stopped x s h g
  visit_beside p (dir m) _ _ (over_stopped x s h g) = over_stopped x s h g
  visit_beside p (file m z c) _ _ (both s h g) = added (s + 2 * length p + 512) (omega arith)
  visit_beside p (file m z c) _ _ (over s h g) = over (s + 2 * length p + 512) (omega arith) (omega arith)
  visit_beside p (file m z c) _ _ (both_stopped x s h g) = both_stopped x s h g
  visit_beside p (file m z c) _ _ (over_stopped x s h g) = over_stopped x s h g
  visit_beside p link _ _ (both s h g) = both_stopped at_link s h g
  visit_beside p link _ _ (over s h g) = over_stopped at_link s h g
  visit_beside p link _ _ (both_stopped x s h g) = both_stopped x s h g
  visit_beside p link _ _ (over_stopped x s h g) = over_stopped x s h g

  visits_beside : (xs : Tree) (v w : Walk) → Beside B f v w → Beside B f (visits (some B) v xs) (visits none w xs)
  visits_beside [] v w h = h
  visits_beside (x ∷ xs) v w h =
      visits_beside xs (visit (some B) v x.0 x.1) (visit none w x.0 x.1) (visit_beside x.0 x.1 v w h)

  enter_beside : (g k : Path → Walk → Walk) → ((p : Path) (v w : Walk) → Beside B f v w → Beside B f (g p v) (k p w))
      → (ds : List Path) (v w : Walk) → Beside B f v w → Beside B f (enter g ds v) (enter k ds w)
  enter_beside g k i [] v w h = h
  enter_beside g k i (d ∷ ds) v w h = enter_beside g k i ds (g d v) (k d w) (i d v w h)

  walk_beside : (t : Table) (l : Tree) (n : ℕ) (d : Path) (v w : Walk) → Beside B f v w → Beside B f (walk n t l (some B) d v) (walk n t l none d w)
  walk_beside t l zero d v w h = h
  walk_beside t l (suc n) d v w h =
      enter_beside (walk n t l (some B)) (walk n t l none) (λ p x y i. walk_beside t l n p x y i) (last_first (children t l d) [])
      (visits (some B) v (children t l d)) (visits none w (children t l d)) (visits_beside (children t l d) v w h)

  never_over : (v w : Walk) → Beside B f v w → w ≡ over_budget → ⊥
  never_over _ _ (both s h g) e = bot (cc)
  never_over _ _ (over s h g) e = bot (cc)
  never_over _ _ (both_stopped x s h g) e = bot (cc)
  never_over _ _ (over_stopped x s h g) e = bot (cc)

  beside_over : (v w : Walk) → Beside B f v w → v ≡ over_budget
      → ((x : Stop) × (n : ℕ) × (w ≡ stopped x n) × (B < n) × (f < n)) ⊎ ((n : ℕ) × (w ≡ sum n) × (B < n) × (f < n))
  beside_over _ _ (both s h g) e = absurd (bot (cc))
  beside_over _ _ (over s h g) e = inr (s, refl, g, h)
  beside_over _ _ (both_stopped x s h g) e = absurd (bot (cc))
  beside_over _ _ (over_stopped x s h g) e = inl (x, s, refl, g, h)

  beside_sum : (v w : Walk) (n : ℕ) → Beside B f v w → v ≡ sum n → w ≡ sum n
  beside_sum _ _ n (both s h g) e = e
  beside_sum _ _ n (over s h g) e = absurd (bot (cc))
  beside_sum _ _ n (both_stopped x s h g) e = absurd (bot (cc))
  beside_sum _ _ n (over_stopped x s h g) e = absurd (bot (cc))

  beside_stopped : (v w : Walk) (y : Stop) (n : ℕ) → Beside B f v w → v ≡ stopped y n → w ≡ stopped y n
  beside_stopped _ _ y n (both s h g) e = absurd (bot (cc))
  beside_stopped _ _ y n (over s h g) e = absurd (bot (cc))
  beside_stopped _ _ y n (both_stopped x s h g) e = e
  beside_stopped _ _ y n (over_stopped x s h g) e = absurd (bot (cc))

  beside_within : (v w : Walk) → Beside B f v w → (sum_of v ≤ B) ⊎ (sum_of v ≡ f)
  beside_within _ _ (both s h g) = g
  beside_within _ _ (over s h g) = inl (omega arith)
  beside_within _ _ (both_stopped x s h g) = g
  beside_within _ _ (over_stopped x s h g) = inl (omega arith)

module _ (t : Table) (l : Tree) (a : Path) where
  beside : (B : ℕ) → Beside B (2 * length a + 1) (walk_from t l (some B) a) (walk_from t l none a)
  beside B =
      let f = 2 * length a + 1 in
      walk_beside B f t l (depth l) a (sum f) (sum f) (both f (omega arith) (inr refl))

  -- without a budget no walk ends above it
  pub walk_budget : walk_from t l none a ≡ over_budget → ⊥
  walk_budget h = never_over 0 (2 * length a + 1) (walk_from t l (some 0) a) (walk_from t l none a) (beside 0) h

  -- a walk that ends above its budget would without it have been stopped, or come to a sum: the sum is above the budget and above the start
  pub walk_over : (B : ℕ) → walk_from t l (some B) a ≡ over_budget
      → ((x : Stop) × (n : ℕ) × (walk_from t l none a ≡ stopped x n) × (B < n) × (2 * length a + 1 < n))
      ⊎ ((n : ℕ) × (walk_from t l none a ≡ sum n) × (B < n) × (2 * length a + 1 < n))
  walk_over B h = beside_over B (2 * length a + 1) (walk_from t l (some B) a) (walk_from t l none a) (beside B) h

  -- any other walk ends as it would without a budget
  pub walk_sum : (B n : ℕ) → walk_from t l (some B) a ≡ sum n → walk_from t l none a ≡ sum n
  walk_sum B n h = beside_sum B (2 * length a + 1) (walk_from t l (some B) a) (walk_from t l none a) n (beside B) h

  pub walk_stopped : (B : ℕ) (y : Stop) (n : ℕ) → walk_from t l (some B) a ≡ stopped y n → walk_from t l none a ≡ stopped y n
  walk_stopped B y n h = beside_stopped B (2 * length a + 1) (walk_from t l (some B) a) (walk_from t l none a) y n (beside B) h

  -- it comes to a sum within the budget, but that the start alone may be above it
  pub walk_within : (B : ℕ) → (sum_of (walk_from t l (some B) a) ≤ B) ⊎ (sum_of (walk_from t l (some B) a) ≡ 2 * length a + 1)
  walk_within B = beside_within B (2 * length a + 1) (walk_from t l (some B) a) (walk_from t l none a) (beside B)
