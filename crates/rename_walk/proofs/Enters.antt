-- Directories entered last first: of two stretches the second comes before the first; and where two tables and two trees agree below a
-- directory, so do its walks.
use mathlib.Core.Path.{◌≡◌, refl, ap, sym, ◌∙◌}
use mathlib.Core.List.{List, [], ◌∷◌, ◌++◌}
use mathlib.Core.Bool.{Bool, true, false, ◌&&◌}
use mathlib.Core.Option.{Option, some}
use Prim.Native.Nat.{ℕ, zero, suc}
use Rattle.model.specs.Bytes.{cons_if}
use Rattle.model.specs.Path.{Path, below, child}
use Rattle.model.specs.Map.{lookup, is_none, only}
use Rattle.model.specs.Tree.{Node, Entry, Table, Tree, kind_of, is_directory}
use Rattle.model.specs.Rename.{Walk, sum, over_budget, stopped, visits, children, last_first, enter, walk}
use Rattle.model.proofs.Orders.{bot, Tested, yea, nay, test, and_true, below_trans, below_Lt}
use Rattle.model.proofs.Maps.{Ascending, map_ext, lookup_only, ascending_only}
use Rattle.model.proofs.Rules.{child_below}
use Rattle.rename_walk.specs.Walked.{ended}
use Rattle.rename_walk.specs.Stretch.{entered}
use Rattle.rename_walk.proofs.Cuts.{Le, le_le, le_lt, Each, each_on, each_of, each_only, only_same, only_append}

-- every path of a list is so
abbrev pub All : (Path → Type 0) → List Path → Type 0
All P [] = Unit {0}
All P (d ∷ ds) = P d × All P ds

all_if : (P : Path → Type 0) (b : Bool) (d : Path) (ds : List Path) → P d → All P ds → All P (cons_if b d ds)
all_if P true d ds h a = (h, a)
all_if P false d ds h a = a

pub all_found : (P : Path → Type 0) (xs : Tree) (ds : List Path) → Each P xs → All P ds → All P (last_first xs ds)
all_found P [] ds e a = a
all_found P (x ∷ xs) ds e a =
    let c = is_directory (kind_of (some x.1)) in
    all_found P xs (cons_if c x.0 ds) e.1 (all_if P c x.0 ds e.0 a)

pub enter_same : (g h : Path → Walk → Walk) (P : Path → Type 0) → ((p : Path) → P p → (w : Walk) → g p w ≡ h p w)
    → (ds : List Path) → All P ds → (w : Walk) → enter g ds w ≡ enter h ds w
enter_same g h P k [] a w = refl
enter_same g h P k (d ∷ ds) a w = ap (enter g ds) (k d a.0 w) ∙ enter_same g h P k ds a.1 (h d w)

-- those found before wait until those found later were entered
pub found_first : (g : Path → Walk → Walk) (xs : Tree) (ds : List Path) (w : Walk) → enter g (last_first xs ds) w ≡ enter g ds (enter g (last_first xs []) w)
found_first g [] ds w = refl
found_first g (x ∷ xs) ds w = elim (test (is_directory (kind_of (some x.1)))) [
  | yea e ↦ rw e (found_first g xs (x.0 ∷ ds) w ∙ sym (ap (enter g ds) (found_first g xs (x.0 ∷ []) w)))
  | nay e ↦ rw e (found_first g xs ds w)
]

found_append : (xs ys : Tree) (ds : List Path) → last_first (xs ++ ys) ds ≡ last_first ys (last_first xs ds)
found_append [] ys ds = refl
found_append (x ∷ xs) ys ds = found_append xs ys (cons_if (is_directory (kind_of (some x.1))) x.0 ds)

-- which paths are visited at d
abbrev pub met : Table → Path → Path → Bool
met t d q = child d q && is_none (lookup t q)

module _ (n : ℕ) (t : Table) (l : Tree) (b : Option ℕ) (d : Path) where
  pub entered_append : (xs ys : Tree) (w : Walk) → entered n t l b d (xs ++ ys) w ≡ entered n t l b d xs (entered n t l b d ys w)
  entered_append xs ys w =
      let g = walk n t l b in
      ap (λ (zs : Tree). enter g (last_first zs []) w) (only_append (met t d) xs ys)
      ∙ ap (λ (ds : List Path). enter g ds w) (found_append (children t xs d) (children t ys d) [])
      ∙ found_first g (children t ys d) (last_first (children t xs d) []) w

  -- one path: it is entered, or it is not
  module _ (p : Path) (x : Node) (w : Walk) where
    pub entered_one : (child d p && is_none (lookup t p)) && is_directory (kind_of (some x)) ≡ true → walk n t l b p w ≡ entered n t l b d ((p, x) ∷ []) w
    entered_one h =
        let e = and_true (child d p && is_none (lookup t p)) (is_directory (kind_of (some x))) h in
        rw (e.0, e.1)

    pub entered_none : (child d p && is_none (lookup t p)) && is_directory (kind_of (some x)) ≡ false → w ≡ entered n t l b d ((p, x) ∷ []) w
    entered_none h = elim (test (child d p && is_none (lookup t p))) [
      | yea e ↦ (let f : is_directory (kind_of (some x)) ≡ false = cc in rw (e, f))
      | nay e ↦ rw e
    ]

-- no level is left
pub entered_zero : (t : Table) (l : Tree) (b : Option ℕ) (ds : List Path) (w : Walk) → w ≡ enter (walk 0 t l b) ds w
entered_zero t l b [] w = refl
entered_zero t l b (d ∷ ds) w = entered_zero t l b ds w

-- a walk that has ended stays so
module _ (b : Option ℕ) where
  pub visits_ended : (xs : Tree) (w : Walk) → ended w ≡ true → w ≡ visits b w xs
  visits_ended [] w h = refl
  visits_ended (x ∷ xs) (sum n) h = absurd (bot (cc))
  visits_ended (x ∷ xs) over_budget h = visits_ended xs over_budget h
  visits_ended (x ∷ xs) (stopped y n) h = visits_ended xs (stopped y n) h

  enter_ended : (g : Path → Walk → Walk) → ((p : Path) (w : Walk) → ended w ≡ true → w ≡ g p w)
      → (ds : List Path) (w : Walk) → ended w ≡ true → w ≡ enter g ds w
  enter_ended g k [] w h = refl
  enter_ended g k (d ∷ ds) w h = enter_ended g k ds w h ∙ ap (enter g ds) (k d w h)

  walk_ended : (n : ℕ) (t : Table) (l : Tree) (d : Path) (w : Walk) → ended w ≡ true → w ≡ walk n t l b d w
  walk_ended zero t l d w h = refl
  walk_ended (suc n) t l d w h =
      let c = children t l d in
      enter_ended (walk n t l b) (walk_ended n t l) (last_first c []) w h ∙ ap (enter (walk n t l b) (last_first c [])) (visits_ended c w h)

  pub entered_ended : (n : ℕ) (t : Table) (l : Tree) (d : Path) (xs : Tree) (w : Walk) → ended w ≡ true → w ≡ entered n t l b d xs w
  entered_ended n t l d xs w h = enter_ended (walk n t l b) (walk_ended n t l) (last_first (children t xs d) []) w h

-- a directory's children are all below it
pub children_below : (t : Table) (d : Path) (xs : Tree) → children t (only (below d) xs) d ≡ children t xs d
children_below t d [] = refl
children_below t d (x ∷ xs) = let ih = children_below t d xs in elim (test (below d x.0)) [
  | yea e ↦ rw e (ap (cons_if (child d x.0 && is_none (lookup t x.0)) x) ih)
  | nay e ↦ rw (e, no_child (test (child d x.0)) e) ih
]
  where
    no_child : Tested (child d x.0) → below d x.0 ≡ false → child d x.0 ≡ false
    no_child (yea c) e = absurd (bot (cc (child_below d x.0 c)))
    no_child (nay c) e = c

-- two tables and two trees that agree below d
module _ (b : Option ℕ) (t₁ t₀ : Table) (l₁ l₀ : Tree) (a₁ : Ascending l₁) (a₀ : Ascending l₀) where
  abbrev pub Agree : Path → Type 0
  Agree d = (q : Path) → below d q ≡ true → (lookup t₁ q ≡ lookup t₀ q) × (lookup l₁ q ≡ lookup l₀ q)

  children_same : (d : Path) → Agree d → children t₁ l₁ d ≡ children t₀ l₀ d
  children_same d h =
      let f = met t₁ d in
      let g = met t₀ d in
      map_ext (only f l₁) (only g l₀) (ascending_only f l₁ a₁) (ascending_only g l₀ a₀) (λ q. elim (test (child d q)) [
        | yea e ↦ (let k = h q (child_below d q e) in cc (lookup_only f l₁ q, lookup_only g l₀ q, k.0, k.1))
        | nay e ↦ cc (lookup_only f l₁ q, lookup_only g l₀ q)
      ])

  pub walk_same : (n : ℕ) (d : Path) → Agree d → (w : Walk) → walk n t₁ l₁ b d w ≡ walk n t₀ l₀ b d w
  walk_same zero d h w = refl
  walk_same (suc n) d h w =
      let c = children t₀ l₀ d in
      let P : Path → Type 0 = λ p. child d p ≡ true in
      let m = each_only (met t₀ d) (λ q. Unit {0}) P (λ q e z. (and_true (child d q) (is_none (lookup t₀ q)) e).0) l₀ (each_of (λ q. Unit {0}) (λ q. tt) l₀) in
      ap (λ (xs : Tree). enter (walk n t₁ l₁ b) (last_first xs []) (visits b w xs)) (children_same d h)
      ∙ enter_same (walk n t₁ l₁ b) (walk n t₀ l₀ b) P
      (λ p e v. walk_same n p (λ q z. h q (below_trans d p q (child_below d p e) z)) v)
      (last_first c []) (all_found P c [] m tt) (visits b w c)

  -- the same of a stretch, where they agree from a path on
  pub entered_same : (k : Path) → ((q : Path) → Le k q → (lookup t₁ q ≡ lookup t₀ q) × (lookup l₁ q ≡ lookup l₀ q))
      → (n : ℕ) (d : Path) (xs : Tree) → Each (Le k) xs → (w : Walk) → entered n t₁ l₁ b d xs w ≡ entered n t₀ l₀ b d xs w
  entered_same k h n d xs e w =
      let f = met t₁ d in
      let g = met t₀ d in
      let s = only_same f g xs (each_on (Le k) (λ q. f q ≡ g q) (λ q z. ap (λ (o : Option Entry). child d q && is_none o) (h q z).0) xs e) in
      ap (λ (ys : Tree). enter (walk n t₁ l₁ b) (last_first ys []) w) s
      ∙ enter_same (walk n t₁ l₁ b) (walk n t₀ l₀ b) (Le k)
      (λ p z v. walk_same n p (λ q y. h q (le_le k p q z (le_lt p q (below_Lt p q y)))) v)
      (last_first (only g xs) []) (all_found (Le k) (only g xs) [] (each_only g (Le k) (Le k) (λ q y z. z) xs e) tt) w
