-- Rename's walk without a budget is one sum over the listed nodes that it comes to, in any order; or one of them stops
-- it. Assumes that the listing ascends and is closed, as every listing in form is; of the table nothing.
use mathlib.Core.Path.{◌≡◌, refl, ap, sym, ◌∙◌}
use mathlib.Core.Logic.{◌⊎◌, inl, inr}
use mathlib.Core.List.{List, [], ◌∷◌}
use mathlib.Core.Bool.{Bool, true, false, cond, not, ◌&&◌, ◌||◌}
use mathlib.Core.Option.{Option, none, some}
use Prim.Native.Nat.{ℕ, zero, suc, ◌+◌, ◌*◌, ◌≤◌}
use native.Mathlib.Omega.{arith}
use lib.ListN.{length}
use lib.Dec.{leb, leb→le}
use borrow.Author.Tests.{le-leb}
use Rattle.model.specs.Bytes.{every}
use Rattle.model.specs.Path.{Path, below, child, ancestors}
use Rattle.model.specs.Map.{is_none, lookup, only}
use Rattle.model.specs.Tree.{Node, dir, file, link, Table, Tree, kind_of, is_directory}
use Rattle.model.specs.Rename.{Stop, stops, Walk, sum, over_budget, stopped, visit, visits, children, last_first, enter}
use Rattle.model.specs.Rename.{walk, depth, walk_from, uncovered}
use Rattle.model.proofs.Orders.{bot, yea, nay, test, and_true, split, Split, mem, mem_ancestors, same_refl}
use Rattle.model.proofs.Orders.{below_trans, below_rest, inside_both}
use Rattle.model.proofs.Maps.{Ascending, lookup_low, lookup_only, ascending_only}
use Rattle.model.proofs.Invariant.{Closed, kind_at, node_at, no_node, a_dir, file_node, link_node}
use Rattle.model.proofs.Formed.{every_mem}
use Rattle.model.proofs.Rules.{child_below, child_root, way}
use Rattle.model.proofs.Walks.{level, child_level, below_level, depth_le, free_is, walk_stops, walk_budget}
use Rattle.least_walk.specs.Total.{cost, costs, any_stops, reached}

-- a number where a test passes, else nothing
abbrev if : Bool → ℕ → ℕ
if b n = cond b n 0

-- two tests that pass together are equal, and one that never passes fails
both_ways : (a b : Bool) → (a ≡ true → b ≡ true) → (b ≡ true → a ≡ true) → a ≡ b
both_ways true b f g = sym (f refl)
both_ways false true f g = g refl
both_ways false false f g = refl

never : (b : Bool) → (b ≡ true → ⊥) → b ≡ false
never true h = absurd (h refl)
never false h = refl

-- a function summed over the nodes of a tree
abbrev summed : (Path → Node → ℕ) → Tree → ℕ
summed f [] = 0
summed f (x ∷ xs) = f x.0 x.1 + summed f xs

-- what stands behind the first node is found in the whole
found_behind : (x : Path × Node) (xs : Tree) → Ascending (x ∷ xs) → (q : Path) (n : Node) → lookup xs q ≡ some n
    → lookup (x ∷ xs) q ≡ some n
found_behind x xs a q n h = elim (split x.0 q) [
  | Split.eq u w ↦ cc (lookup_low x.0 xs a.0 a.1)
  | Split.ne u w ↦ cc
]

costs_summed : (xs : Tree) → costs xs ≡ summed cost xs
costs_summed [] = refl
costs_summed (x ∷ xs) = ap (λ n. cost x.0 x.1 + n) (costs_summed xs)

module _ (f : Path → Node → ℕ) where
  summed_only : (P : Path → Bool) (xs : Tree) → summed f (only P xs) ≡ summed (λ p n. if (P p) (f p n)) xs
  summed_only P [] = refl
  summed_only P (x ∷ xs) = let ih = summed_only P xs in elim (test (P x.0)) [
    | yea e ↦ rw e (omega arith)
    | nay e ↦ rw e (omega arith)
  ]

  summed_add : (g : Path → Node → ℕ) (xs : Tree) → summed (λ p n. f p n + g p n) xs ≡ summed f xs + summed g xs
  summed_add g [] = refl
  summed_add g (x ∷ xs) = let ih = summed_add g xs in omega arith

  summed_same : (g : Path → Node → ℕ) (xs : Tree) → Ascending xs
      → ((q : Path) (n : Node) → lookup xs q ≡ some n → f q n ≡ g q n) → summed f xs ≡ summed g xs
  summed_same g [] a h = refl
  summed_same g (x ∷ xs) a h =
      let ih = summed_same g xs a.1 (λ q n e. h q n (found_behind x xs a q n e)) in
      let e = h x.0 x.1 (cc (same_refl x.0)) in
      omega arith

  summed_nothing : (xs : Tree) → Ascending xs
      → ((q : Path) (n : Node) → lookup xs q ≡ some n → f q n ≡ 0) → summed f xs ≡ 0
  summed_nothing [] a h = refl
  summed_nothing (x ∷ xs) a h =
      let ih = summed_nothing xs a.1 (λ q n e. h q n (found_behind x xs a q n e)) in
      let e = h x.0 x.1 (cc (same_refl x.0)) in
      omega arith

  -- where it is nothing but at one path, the sum is what it is there
  summed_one : (k : Path) (m : Node) (xs : Tree) → Ascending xs → lookup xs k ≡ some m
      → ((q : Path) (n : Node) → lookup xs q ≡ some n → (q ≡ k → ⊥) → f q n ≡ 0) → summed f xs ≡ f k m
  summed_one k m [] a e h = absurd (bot (cc))
  summed_one k m (x ∷ xs) a e h = elim (split x.0 k) [
    | Split.eq u w ↦
        let r = summed_nothing xs a.1 (λ q n z. h q n (found_behind x xs a q n z)
        (λ y. bot (cc (lookup_low x.0 xs a.0 a.1)))) in
        let v : f x.0 x.1 ≡ f k m = cc in
        omega arith
    | Split.ne u w ↦
        let ih = summed_one k m xs a.1 (cc) (λ q n z y. h q n (found_behind x xs a q n z) y) in
        let v = h x.0 x.1 (cc (same_refl x.0)) u in
        omega arith
  ]

-- a function summed over paths
abbrev total : (Path → ℕ) → List Path → ℕ
total g [] = 0
total g (p ∷ ps) = g p + total g ps

-- the two sums exchanged
total_summed : (F : Path → Path → Node → ℕ) (ds : List Path) (l : Tree)
    → total (λ p. summed (F p) l) ds ≡ summed (λ q n. total (λ p. F p q n) ds) l
total_summed F [] [] = refl
total_summed F [] (x ∷ l) = let ih = total_summed F [] l in omega arith
total_summed F (d ∷ ds) l =
    ap (λ n. summed (F d) l + n) (total_summed F ds l) ∙ sym (summed_add (F d) (λ q n. total (λ p. F p q n) ds) l)

-- the directories found, in whatever order, are those of the tree
total_found : (g : Path → ℕ) (xs : Tree) (ds : List Path)
    → total g (last_first xs ds) ≡ summed (λ p n. if (is_directory (kind_of (some n))) (g p)) xs + total g ds
total_found g [] ds = omega arith
total_found g (x ∷ xs) ds = elim (test (is_directory (kind_of (some x.1)))) [
  | yea e ↦ let ih = total_found g xs (x.0 ∷ ds) in rw e (omega arith)
  | nay e ↦ let ih = total_found g xs ds in rw e (omega arith)
]

-- what is found among the nodes that pass a test passes it
found_passes : (P : Path → Bool) (xs : Tree) (ds : List Path) → ((q : Path) → mem q ds ≡ true → P q ≡ true)
    → (q : Path) → mem q (last_first (only P xs) ds) ≡ true → P q ≡ true
found_passes P [] ds k q h = k q h
found_passes P (x ∷ xs) ds k q h = elim (test (P x.0)) [
  | nay e ↦ found_passes P xs ds k q (cc)
  | yea e ↦ elim (test (is_directory (kind_of (some x.1)))) [
    | nay f ↦ found_passes P xs ds k q (cc)
    | yea f ↦
        let more : (p : Path) → mem p (x.0 ∷ ds) ≡ true → P p ≡ true = λ p m. elim (split x.0 p) [
          | Split.eq u w ↦ ap P (sym u) ∙ e
          | Split.ne u w ↦ k p (cc)
        ] in
        found_passes P xs (x.0 ∷ ds) more q (cc)
  ]
]

-- without a budget: a node that does not stop the walk, a tree of such nodes, and directories that each add something
visit_adds : (r : ℕ) (p : Path) (n : Node) → stops n ≡ false → visit none (sum r) p n ≡ sum (r + cost p n)
visit_adds r p (dir m) h = ap sum (omega arith)
visit_adds r p (file m z c) h = ap sum (omega arith)
visit_adds r p link h = absurd (bot (cc))

visits_add : (xs : Tree) → Ascending xs → ((q : Path) (n : Node) → lookup xs q ≡ some n → stops n ≡ false) → (r : ℕ)
    → visits none (sum r) xs ≡ sum (r + costs xs)
visits_add [] a h r = ap sum (omega arith)
visits_add (x ∷ xs) a h r =
    ap (λ (w : Walk). visits none w xs) (visit_adds r x.0 x.1 (h x.0 x.1 (cc (same_refl x.0))))
    ∙ visits_add xs a.1 (λ q n e. h q n (found_behind x xs a q n e)) (r + cost x.0 x.1)
    ∙ ap sum (omega arith)

enter_adds : (g : Path → Walk → Walk) (f : Path → ℕ) (ds : List Path)
    → ((p : Path) → mem p ds ≡ true → (r : ℕ) → g p (sum r) ≡ sum (r + f p)) → (r : ℕ)
    → enter g ds (sum r) ≡ sum (r + total f ds)
enter_adds g f [] h r = ap sum (omega arith)
enter_adds g f (d ∷ ds) h r =
    ap (enter g ds) (h d (cc (same_refl d)) r)
    ∙ enter_adds g f ds (λ p m s. h p (elim (split d p) [ Split.eq u w ↦ cc | Split.ne u w ↦ cc ]) s) (r + f d)
    ∙ ap sum (omega arith)

-- whether a node of a tree stops the walk, as a statement
none_stops : (xs : Tree) → any_stops xs ≡ false → (q : Path) (n : Node) → lookup xs q ≡ some n → stops n ≡ false
none_stops [] h q n e = absurd (bot (cc))
none_stops (x ∷ xs) h q n e = elim (test (stops x.1)) [
  | yea u ↦ absurd (bot (cc))
  | nay u ↦ elim (split x.0 q) [
    | Split.eq v w ↦ let y : x.1 ≡ n = cc in sym (ap stops y) ∙ u
    | Split.ne v w ↦ none_stops xs (cc) q n (cc)
  ]
]

one_stops : (xs : Tree) → Ascending xs → any_stops xs ≡ true
    → (q : Path) × (n : Node) × (lookup xs q ≡ some n) × (stops n ≡ true)
one_stops [] a h = absurd (bot (cc))
one_stops (x ∷ xs) a h = elim (test (stops x.1)) [
  | yea u ↦ (x.0, x.1, cc (same_refl x.0), u)
  | nay u ↦ let r = one_stops xs a.1 (cc) in (r.0, r.1, found_behind x xs a r.0 r.1 r.2, r.3)
]

-- a test that each path of a list passes
every_of : (f : Path → Bool) (ks : List Path) → ((q : Path) → mem q ks ≡ true → f q ≡ true) → every f ks ≡ true
every_of f [] h = refl
every_of f (k ∷ ks) h =
    let e = h k (cc (same_refl k)) in
    let r = every_of f ks (λ q m. h q (elim (split k q) [ Split.eq u w ↦ cc | Split.ne u w ↦ cc ])) in
    cc

-- no child of a path is below another one
siblings : (d p q : Path) → child d p ≡ true → child d q ≡ true → below p q ≡ true → ⊥
siblings d p q c e b =
    let x = child_level d p c in
    let y = child_level d q e in
    let z = below_level p q b in
    omega arith

-- from d to q by way of the child p: what else stands between d and q is below p, and p is the only child of d above q
module _ (d p : Path) (c : child d p ≡ true) (q : Path) (b : below p q ≡ true) where
  one_above : (k : Path) → below k q ≡ true → below d k ≡ true → (k ≡ p) ⊎ (below p k ≡ true)
  one_above k u v =
      let x = below_rest p q b in
      let y = below_rest k q u in
      go (inside_both p k q (47 ∷ x.0) (47 ∷ y.0) x.1 y.1)
    where
      go : (p ≡ k) ⊎ ((below p k ≡ true) ⊎ (below k p ≡ true)) → (k ≡ p) ⊎ (below p k ≡ true)
      go (inl e) = inl (sym e)
      go (inr (inl e)) = inr e
      go (inr (inr e)) =
          let x = below_level d k v in
          let y = below_level k p e in
          let z = child_level d p c in
          absurd (omega arith)

  one_child : (k : Path) → below k q ≡ true → child d k ≡ true → k ≡ p
  one_child k u v = elim (one_above k u (child_below d k v)) [
    | inl e ↦ e
    | inr e ↦ absurd (siblings d p k c v e)
  ]

-- what `uncovered` says
module _ (t : Table) (d q : Path) where
  abbrev Clear : Type 0
  Clear = (p : Path) → below d p ≡ true → below p q ≡ true → lookup t p ≡ none

  uncovered_is : uncovered t d q ≡ true → (lookup t q ≡ none) × Clear
  uncovered_is h =
      let e = and_true (is_none (lookup t q)) (every (λ p. not (below d p) || is_none (lookup t p)) (ancestors q)) h in (
        free_is (lookup t q) e.0,
        λ p u v.
            let m = mem_ancestors q p ∙ v in
            let w = every_mem (λ k. not (below d k) || is_none (lookup t k)) (ancestors q) p e.1 m in
            free_is (lookup t p) (cc),
      )

  is_uncovered : lookup t q ≡ none → Clear → uncovered t d q ≡ true
  is_uncovered h c =
      let e = every_of (λ p. not (below d p) || is_none (lookup t p)) (ancestors q) (λ p m. elim (test (below d p)) [
        | yea u ↦ cc (c p u (sym (mem_ancestors q p) ∙ m))
        | nay u ↦ cc
      ]) in
      cc

module _ (t : Table) (l : Tree) where
  -- which listed paths are visited at d, and which n levels deep
  abbrev met : Path → Path → Bool
  met d q = child d q && is_none (lookup t q)

  abbrev within : ℕ → Path → Path → Bool
  within n d q = below d q && (uncovered t d q && leb (level q) (n + level d))

  record Within (n : ℕ) (d q : Path) : Type 0 where
    under : below d q ≡ true
    free : lookup t q ≡ none
    clear : Clear t d q
    near : level q ≤ n + level d

  within_is : (n : ℕ) (d q : Path) → within n d q ≡ true → Within n d q
  within_is n d q h =
      let e = and_true (below d q) (uncovered t d q && leb (level q) (n + level d)) h in
      let f = and_true (uncovered t d q) (leb (level q) (n + level d)) e.1 in
      let g = uncovered_is t d q f.0 in
      record { under = e.0; free = g.0; clear = g.1; near = leb→le (level q) (n + level d) (rw f.1 tt) }

  is_within : (n : ℕ) (d q : Path) → Within n d q → within n d q ≡ true
  is_within n d q w = cc (w.under, is_uncovered t d q w.free w.clear, le-leb (level q) (n + level d) w.near)

  -- nothing is reached no level deep
  within_none : (d q : Path) → within zero d q ≡ true → ⊥
  within_none d q h =
      let w = within_is zero d q h in
      let u = below_level d q w.under in
      omega (arith, w.near)

  -- a child is reached at once
  within_child : (n : ℕ) (d q : Path) → child d q ≡ true → within (suc n) d q ≡ met d q
  within_child n d q c = both_ways (within (suc n) d q) (met d q)
      (λ h. cc (within_is (suc n) d q h).free)
      (λ h.
      let e = and_true (child d q) (is_none (lookup t q)) h in
      let f = child_level d q c in
      is_within (suc n) d q (record {
        under = child_below d q c;
        free = free_is (lookup t q) e.1;
        clear = λ p u v. let x = below_level d p u in let y = below_level p q v in absurd (omega arith);
        near = omega arith;
      }))

  -- what is below a child is reached through that child, if no entry is there
  within_below : (n : ℕ) (d p q : Path) → child d p ≡ true → below p q ≡ true
      → within (suc n) d q ≡ (is_none (lookup t p) && within n p q)
  within_below n d p q c b = both_ways (within (suc n) d q) (is_none (lookup t p) && within n p q)
      (λ h.
      let w = within_is (suc n) d q h in
      let u = child_below d p c in
      let v = child_level d p c in
      cc (
        w.clear p u b,
        is_within n p q (record {
          under = b;
          free = w.free;
          clear = λ k x y. w.clear k (below_trans d p k u x) y;
          near = omega (arith, w.near);
        }),
      ))
      (λ h.
      let e = and_true (is_none (lookup t p)) (within n p q) h in
      let w = within_is n p q e.1 in
      let u = child_below d p c in
      let v = child_level d p c in
      is_within (suc n) d q (record {
        under = below_trans d p q u b;
        free = w.free;
        clear = λ k x y. elim (one_above d p c q b k y x) [
          | inl z ↦ ap (lookup t) z ∙ free_is (lookup t p) e.0
          | inr z ↦ w.clear k z y
        ];
        near = omega (arith, w.near);
      }))

  module _ (asc : Ascending l) (closed : Closed (lookup l)) where
    -- a path with something listed below it is listed as a directory
    listed_dir : (d p q : Path) (n : Node) → child d p ≡ true → below p q ≡ true → lookup l q ≡ some n
        → (m : ℕ) × (lookup l p ≡ some (dir m))
    listed_dir d p q n c b h =
        let k = closed p q n b h in
        let o = child_root d p c in
        elim (node_at (lookup l p)) [
          | no_node v ↦ absurd (bot (cc (kind_at (lookup l) p none v o)))
          | file_node m a r v ↦ absurd (bot (cc (kind_at (lookup l) p (some (file m a r)) v o)))
          | link_node v ↦ absurd (bot (cc (kind_at (lookup l) p (some link) v o)))
          | a_dir m v ↦ (m, v)
        ]

    -- what is summed over the children p of d for the listed path q
    abbrev through : ℕ → Path → Path → ℕ → Path → Node → ℕ
    through n d q c p x = if (met d p) (if (is_directory (kind_of (some x))) (if (within n p q) c))

    through_not : (n : ℕ) (d q : Path) (c : ℕ) (p : Path) (x : Node) → (child d p ≡ true → below p q ≡ true → ⊥)
        → through n d q c p x ≡ 0
    through_not n d q c p x h = elim (test (child d p)) [
      | nay u ↦ cc
      | yea u ↦
          let v : within n p q ≡ false = cc (never (below p q) (h u)) in
          elim (test (is_none (lookup t p))) [
            | nay y ↦ cc
            | yea y ↦ elim (test (is_directory (kind_of (some x)))) [ yea z ↦ cc | nay z ↦ cc ]
          ]
    ]

    -- a listed path is reached once: as a child, or through the one child above it
    reached_once : (n : ℕ) (d q : Path) (x : Node) → lookup l q ≡ some x → (c : ℕ)
        → if (within (suc n) d q) c ≡ if (met d q) c + summed (through n d q c) l
    reached_once n d q x h c = elim (test (below d q)) [
      | nay u ↦
          let v = never (child d q) (λ z. bot (cc (child_below d q z))) in
          let z : (p : Path) (y : Node) → lookup l p ≡ some y → through n d q c p y ≡ 0 =
          λ p y e. through_not n d q c p y (λ i j. bot (cc (below_trans d p q (child_below d p i) j))) in
          let w = summed_nothing (through n d q c) l asc z in
          let f : within (suc n) d q ≡ false = cc in
          let g : met d q ≡ false = cc in
          rw (f, g) (omega arith)
      | yea u ↦ elim (way d q u) [
        | inl i ↦
            let z : (p : Path) (y : Node) → lookup l p ≡ some y → through n d q c p y ≡ 0 =
            λ p y e. through_not n d q c p y (λ j k. siblings d p q j i k) in
            let w = summed_nothing (through n d q c) l asc z in
            let f = within_child n d q i in
            rw f (omega arith)
        | inr i ↦
            let p = i.0 in
            let m = listed_dir d p q x i.1 i.2 h in
            let z : (k : Path) (y : Node) → lookup l k ≡ some y → (k ≡ p → ⊥) → through n d q c k y ≡ 0 =
            λ k y e o. through_not n d q c k y (λ j b. o (one_child d p i.1 q i.2 k b j)) in
            let w = summed_one (through n d q c) p (dir m.0) l asc m.1 z in
            let v = never (child d q) (λ e. siblings d p q i.1 e i.2) in
            let g : met d q ≡ false = cc in
            let f = within_below n d p q i.1 i.2 in
            let s : if (within (suc n) d q) c ≡ through n d q c p (dir m.0) = elim (test (is_none (lookup t p))) [
              | yea z ↦ cc i.1
              | nay z ↦ cc i.1
            ] in
            rw g (omega arith)
      ]
    ]

    -- what the walk adds for a node within n levels of d
    abbrev adds : ℕ → Path → Path → Node → ℕ
    adds n d q x = if (within n d q) (cost q x)

    adds_none : (d : Path) → summed (adds zero d) l ≡ 0
    adds_none d = summed_nothing (adds zero d) l asc (λ q x h. cc (never (within zero d q) (within_none d q)))

    -- at d: its children, and what is below the directories among them
    abbrev found : Path → List Path
    found d = last_first (children t l d) []

    adds_at : (n : ℕ) (d q : Path) (x : Node) → lookup l q ≡ some x
        → adds (suc n) d q x ≡ if (met d q) (cost q x) + total (λ p. adds n p q x) (found d)
    adds_at n d q x h =
        let e = reached_once n d q x h (cost q x) in
        let f = total_found (λ p. adds n p q x) (children t l d) [] in
        let g = summed_only (λ p y. if (is_directory (kind_of (some y))) (adds n p q x)) (met d) l in
        omega arith

    adds_more : (n : ℕ) (d : Path)
        → summed (adds (suc n) d) l ≡ costs (children t l d) + total (λ p. summed (adds n p) l) (found d)
    adds_more n d =
        let here : Path → Node → ℕ = λ q x. if (met d q) (cost q x) in
        let deep : Path → Node → ℕ = λ q x. total (λ p. adds n p q x) (found d) in
        let a = summed_same (adds (suc n) d) (λ q x. here q x + deep q x) l asc (adds_at n d) in
        let b = summed_add here deep l in
        let c = costs_summed (children t l d) ∙ summed_only cost (met d) l in
        let e = total_summed (adds n) (found d) l in
        omega arith

    -- no node within n levels of d stops the walk
    abbrev Free : ℕ → Path → Type 0
    Free n d = (q : Path) (x : Node) → lookup l q ≡ some x → within n d q ≡ true → stops x ≡ false

    free_below : (n : ℕ) (d p : Path) → met d p ≡ true → Free (suc n) d → Free n p
    free_below n d p m f q x h w =
        let e = and_true (child d p) (is_none (lookup t p)) m in
        f q x h (within_below n d p q e.0 (within_is n p q w).under ∙ cc e.1)

    -- the walk from d, n levels deep
    children_go_on : (n : ℕ) (d : Path) → Free (suc n) d
        → (q : Path) (x : Node) → lookup (children t l d) q ≡ some x → stops x ≡ false
    children_go_on n d f q x h = elim (test (met d q)) [
      | nay e ↦ absurd (bot (cc (lookup_only (met d) l q)))
      | yea e ↦
          let c = and_true (child d q) (is_none (lookup t q)) e in
          f q x (cc (lookup_only (met d) l q)) (within_child n d q c.0 ∙ e)
    ]

    walk_adds : (n : ℕ) (d : Path) (r : ℕ) → Free n d → walk n t l none d (sum r) ≡ sum (r + summed (adds n d) l)
    walk_adds zero d r f = let e = adds_none d in ap sum (omega arith)
    walk_adds (suc n) d r f =
        let free : (p : Path) → mem p (found d) ≡ true → Free n p =
        λ p m. free_below n d p (found_passes (met d) l [] (λ k z. absurd (bot (cc))) p m) f in
        let a = visits_add (children t l d) (ascending_only (met d) l asc) (children_go_on n d f) r in
        let b = enter_adds (walk n t l none) (λ p. summed (adds n p) l) (found d)
        (λ p m s. walk_adds n p s (free p m)) (r + costs (children t l d)) in
        let c = adds_more n d in
        ap (enter (walk n t l none) (found d)) a ∙ b ∙ ap sum (omega arith)

    -- the levels leave out nothing
    all_within : (a q : Path) (x : Node) → lookup l q ≡ some x → within (depth l) a q ≡ (below a q && uncovered t a q)
    all_within a q x h =
        let e = depth_le l q x h in
        let f = le-leb (level q) (depth l + level a) (omega arith) in
        elim (test (below a q)) [
          | nay u ↦ cc
          | yea u ↦ elim (test (uncovered t a q)) [ yea v ↦ cc | nay v ↦ cc ]
        ]

    module _ (a : Path) where
      in_reached : (q : Path)
          → lookup (reached t l a) q ≡ cond (uncovered t a q) (cond (below a q) (lookup l q) none) none
      in_reached q =
          lookup_only (uncovered t a) (only (below a) l) q
          ∙ ap (λ (o : Option Node). cond (uncovered t a q) o none) (lookup_only (below a) l q)

      reached_adds : (q : Path) (x : Node) → lookup l q ≡ some x
          → if (below a q) (if (uncovered t a q) (cost q x)) ≡ adds (depth l) a q x
      reached_adds q x h = let e = all_within a q x h in elim (test (below a q)) [ yea u ↦ cc | nay u ↦ cc ]

      reached_costs : costs (reached t l a) ≡ summed (adds (depth l) a) l
      reached_costs =
          costs_summed (reached t l a)
          ∙ summed_only cost (uncovered t a) (only (below a) l)
          ∙ summed_only (λ q x. if (uncovered t a q) (cost q x)) (below a) l
          ∙ summed_same (λ q x. if (below a q) (if (uncovered t a q) (cost q x))) (adds (depth l) a) l asc reached_adds

      free_reached : any_stops (reached t l a) ≡ false → Free (depth l) a
      free_reached h q x e w =
          let u = and_true (below a q) (uncovered t a q) (sym (all_within a q x e) ∙ w) in
          none_stops (reached t l a) h q x (in_reached q ∙ cc (u.0, u.1))

-- where none of the nodes that the walk comes to stops it, it comes to the start and what each of them adds
pub walk_total : (t : Table) (l : Tree) (a : Path) → Ascending l → Closed (lookup l)
    → any_stops (reached t l a) ≡ false
    → walk_from t l none a ≡ sum (2 * length a + 1 + costs (reached t l a))
walk_total t l a asc closed h =
    walk_adds t l asc closed (depth l) a (2 * length a + 1) (free_reached t l asc closed a h)
    ∙ ap (λ n. sum (2 * length a + 1 + n)) (sym (reached_costs t l asc closed a))

-- where one of them stops it, it is stopped
pub walk_stops_at : (t : Table) (l : Tree) (a : Path) → Ascending l → Closed (lookup l)
    → any_stops (reached t l a) ≡ true
    → (x : Stop) × (n : ℕ) × (walk_from t l none a ≡ stopped x n)
walk_stops_at t l a asc closed h =
    let b = ascending_only (uncovered t a) (only (below a) l) (ascending_only (below a) l asc) in
    let r = one_stops (reached t l a) b h in
    go (walk_from t l none a) refl r.0 r.1 r.2 r.3
  where
    go : (w : Walk) → walk_from t l none a ≡ w
        → (q : Path) (n : Node) → lookup (reached t l a) q ≡ some n → stops n ≡ true
        → (x : Stop) × (s : ℕ) × (walk_from t l none a ≡ stopped x s)
    go (stopped x s) e q n i j = (x, s, e)
    go over_budget e q n i j = absurd (walk_budget t l a e)
    go (sum s) e q n i j = elim (test (uncovered t a q)) [
      | nay u ↦ absurd (bot (cc (in_reached t l asc closed a q)))
      | yea u ↦ elim (test (below a q)) [
        | nay v ↦ absurd (bot (cc (in_reached t l asc closed a q)))
        | yea v ↦
            let f = uncovered_is t a q u in
            absurd (walk_stops t l none a closed s e q n v (cc (in_reached t l asc closed a q)) j f.0 f.1)
      ]
    ]
