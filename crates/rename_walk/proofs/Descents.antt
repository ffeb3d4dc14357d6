-- What entering comes to at one record and at two halves of a stretch, and what the walk from the source comes to.
use mathlib.Core.Path.{◌≡◌, refl, ap, sym, ◌∙◌}
use mathlib.Core.List.{[], ◌∷◌, ◌++◌}
use mathlib.Core.Bool.{Bool, true, false, ◌&&◌}
use mathlib.Core.Option.{Option, some}
use Prim.Native.Nat.{ℕ, suc, ◌+◌, ◌-◌, ◌*◌, ◌<◌, ◌≤◌}
use native.Mathlib.Omega.{arith}
use lib.ListN.{length}
use Rattle.model.specs.Bytes.{Bytes}
use Rattle.model.specs.Path.{Path, below, child}
use Rattle.model.specs.Map.{Map, lookup, is_none}
use Rattle.model.specs.Tree.{Table, Tree, kind_of, is_directory}
use Rattle.model.specs.Listing.{record_at, record_end, record_count, records, node_of, tree_from, tree_in, is_listing}
use Rattle.model.specs.Table.{entries_at, table_in}
use Rattle.model.specs.declared.Record.{Record}
use Rattle.model.specs.Rename.{Walk, sum, visits, children, last_first, enter, walk, depth, walk_from}
use Rattle.model.proofs.Orders.{Lt, below_Lt}
use Rattle.model.proofs.Maps.{Ascending}
use Rattle.listing_records.specs.Place.{tree_at, Standing}
use Rattle.listing_records.specs.declared.Place.{Place}
use Rattle.model.proofs.Listings.{checked}
use Rattle.listing_records.proofs.Places.{standing_all, first_record}
use Rattle.table_entries.specs.declared.Place as entry
use Rattle.table_entries.specs.Place.{Sought}
use Rattle.table_entries.proofs.Cuts.{lookup_since}
use Rattle.rename_walk.specs.Stretch.{end_after, slashed, Under, Halved, entered}
use Rattle.rename_walk.proofs.Cuts.{Le, le_lt, le_self, below_since, Each, each_on, each_above, second_has}
use Rattle.rename_walk.proofs.Enters.{entered_zero, entered_append, entered_one, entered_none, children_below, walk_same, entered_same}
use Rattle.rename_walk.proofs.Depths.{walk_deep, listing_depth}
use Rattle.rename_walk.proofs.Stretches.{rising, cut}

-- the walk at p, from what was visited and entered in the stretch below it
pub walk_below : (b : Option ℕ) (t₁ t₀ : Table) (s : Bytes) (p : Path) (n at m to c : ℕ) → Standing s n at → Under s p n at m to c
    → ((q : Path) → below p q ≡ true → lookup t₁ q ≡ lookup t₀ q) → (k : ℕ) (w u r : Walk) → u ≡ visits b w (children t₁ (tree_at s c to) p)
    → r ≡ entered k t₁ (tree_at s m to) b p (tree_at s c to) u → r ≡ walk (suc k) t₀ (tree_at s n at) b p w
walk_below b t₁ t₀ s p n at m to c g h a k w u r e f =
    let l = tree_at s m to in
    let v : children t₁ (tree_at s c to) p ≡ children t₁ l p = ap (λ (xs : Tree). children t₁ xs p) h.are ∙ children_below t₁ p l in
    f ∙ ap (entered k t₁ l b p (tree_at s c to)) e
    ∙ ap (λ (xs : Tree). enter (walk k t₁ l b) (last_first xs []) (visits b w xs)) v
    ∙ walk_same b t₁ t₀ l (tree_at s n at) (rising s m to h.stand) (rising s n at g) (suc k) p
    (λ q z. (a q z, ap (λ (x : Tree). lookup x q) h.rest ∙ lookup_since (slashed p) q (tree_at s n at) (below_since p q z))) w

-- the table from a path on has all that is below it
sought_below : (s : Bytes) (p : Path) (i to j o : ℕ) → Sought s p i to j o → (q : Path) → below p q ≡ true
    → lookup (entries_at s j o) q ≡ lookup (entries_at s i to) q
sought_below s p i to j o h q z = ap (λ (x : Table). lookup x q) h.are ∙ lookup_since p q (entries_at s i to) (le_lt p q (below_Lt p q z))

-- no level is left, or no record
pub enter_no_level : (t : Table) (l : Tree) (b : Option ℕ) (d : Path) (xs : Tree) (k : ℕ) (w : Walk) → k ≡ 0 → w ≡ entered k t l b d xs w
enter_no_level t l b d xs k w e = rw e (entered_zero t l b (last_first (children t xs d) []) w)

pub enter_no_record : (s : Bytes) (t : Table) (l : Tree) (b : Option ℕ) (d : Path) (k c at : ℕ) (w : Walk) → c ≡ 0 → w ≡ entered k t l b d (tree_at s c at) w
enter_no_record s t l b d k c at w e = rw e

-- one record
module _ (s : Bytes) (t : Table) (b : Option ℕ) (d : Path) (n at k : ℕ) (w : Walk)
    (x : Bool) (e : x ≡ (child d (record_at s at).path && is_none (lookup t (record_at s at).path)))
    (y : Bool) (f : y ≡ is_directory (kind_of (some (node_of (record_at s at))))) where
  both : (x && y) ≡ ((child d (record_at s at).path && is_none (lookup t (record_at s at).path)) && is_directory (kind_of (some (node_of (record_at s at)))))
  both = λ i. e i && f i

  pub enter_pass : (x && y) ≡ false → w ≡ entered k t (tree_at s n at) b d (tree_at s 1 at) w
  enter_pass h = entered_none k t (tree_at s n at) b d (record_at s at).path (node_of (record_at s at)) w (sym both ∙ h)

  enter_it : (x && y) ≡ true → walk k t (tree_at s n at) b (record_at s at).path w ≡ entered k t (tree_at s n at) b d (tree_at s 1 at) w
  enter_it h = entered_one k t (tree_at s n at) b d (record_at s at).path (node_of (record_at s at)) w (sym both ∙ h)

  walked : (p : Path) → p ≡ (record_at s at).path → (m : ℕ) → suc m ≡ k → (x && y) ≡ true → (r : Walk) → r ≡ walk (suc m) t (tree_at s n at) b p w
      → r ≡ entered k t (tree_at s n at) b d (tree_at s 1 at) w
  walked p g m h z r u = u ∙ ap (λ (j : ℕ). walk j t (tree_at s n at) b p w) h ∙ ap (λ (q : Path). walk k t (tree_at s n at) b q w) g ∙ enter_it z

pub enter_dir : (s v : Bytes) (b : Option ℕ) (d : Path) (n at i to k : ℕ) (w : Walk)
    → (x : Bool) → x ≡ (child d (record_at s at).path && is_none (lookup (entries_at v i to) (record_at s at).path))
    → (y : Bool) → y ≡ is_directory (kind_of (some (node_of (record_at s at)))) → (x && y) ≡ true → 0 < k → Standing s n at
    → (p : Path) → p ≡ (record_at s at).path → (j o : ℕ) → Sought v (record_at s at).path i to j o → (m a l : ℕ) → Under s p n at m a l
    → (u r : Walk) → u ≡ visits b w (children (entries_at v j o) (tree_at s l a) p)
    → r ≡ entered (k - 1) (entries_at v j o) (tree_at s m a) b p (tree_at s l a) u
    → r ≡ entered k (entries_at v i to) (tree_at s n at) b d (tree_at s 1 at) w
enter_dir s v b d n at i to k w x e y f z h g p q j o st m a l un u r vis ent =
    let next : suc (k - 1) ≡ k = omega arith in
    let so : Sought v p i to j o = rw q st in
    walked s (entries_at v i to) b d n at k w x e y f p q (k - 1) next z r
    (walk_below b (entries_at v j o) (entries_at v i to) s p n at m a l g un (sought_below v p i to j o so) (k - 1) w u r vis ent)

pub enter_one : (s : Bytes) (t : Table) (l : Tree) (b : Option ℕ) (d : Path) (k c at : ℕ) (w r : Walk) → c ≡ 1
    → r ≡ entered k t l b d (tree_at s 1 at) w → r ≡ entered k t l b d (tree_at s c at) w
enter_one s t l b d k c at w r e h = rw e h

-- a stretch searched from its first path on
each_front : {A : Type 0} (P : Path → Type 0) (xs ys : Map A) → Each P (xs ++ ys) → Each P xs
each_front P [] ys h = tt
each_front P (x ∷ xs) ys h = (h.0, each_front P xs ys h.1)

from_first : (s : Bytes) (n c at : ℕ) → Standing s n at → c ≤ n → 0 < c → Each (Le (record_at s at).path) (tree_at s c at)
from_first s n c at g h k =
    let p = (record_at s at).path in
    let rest = tree_at s (n - 1) (record_end s at) in
    let first : tree_at s n at ≡ (p, node_of (record_at s at)) ∷ rest = ap tree_from (first_record s n at (omega arith)) in
    let a : Ascending ((p, node_of (record_at s at)) ∷ rest) = rw first at (rising s n at g) in
    let e : Each (Le p) (tree_at s n at) = rw first (le_self p, each_on (Lt p) (Le p) (λ q l. le_lt p q l) rest (each_above p rest a.0 a.1)) in
    let z : c + (n - c) ≡ n = omega arith in
    let y : tree_at s n at ≡ tree_at s c at ++ tree_at s (n - c) (end_after s c at) = sym (ap (λ (k : ℕ). tree_at s k at) z) ∙ cut s c (n - c) at in
    each_front (Le p) (tree_at s c at) (tree_at s (n - c) (end_after s c at)) (rw y at e)

pub enter_sought : (s v : Bytes) (b : Option ℕ) (d p : Path) (n c at i to j o k : ℕ) → Standing s n at → c ≤ n → 0 < c → p ≡ (record_at s at).path
    → Sought v p i to j o → (w r : Walk) → r ≡ entered k (entries_at v j o) (tree_at s n at) b d (tree_at s c at) w
    → r ≡ entered k (entries_at v i to) (tree_at s n at) b d (tree_at s c at) w
enter_sought s v b d p n c at i to j o k g h z e q w r f =
    let t = entries_at v i to in
    let l = tree_at s n at in
    let a : Each (Le p) (tree_at s c at) = rw e (from_first s n c at g h z) in
    f ∙ entered_same b (entries_at v j o) t l l (rising s n at g) (rising s n at g) p
    (λ u y. (ap (λ (x : Table). lookup x u) q.are ∙ lookup_since p u t y, refl)) k d (tree_at s c at) a w

-- two halves
module _ (s : Bytes) (t : Table) (b : Option ℕ) (d : Path) (n c at lc hl hc : ℕ) (g : Standing s n at) where
  abbrev mid : ℕ
  mid = end_after s lc at

  module _ (hs : Standing s hl mid) (hf : hc ≤ hl) (some : 0 < hc) (all : lc + hc ≡ c) (lefts : lc + hl ≡ n) where
    has : (q : Path) → Le (record_at s mid).path q → lookup (tree_at s hl mid) q ≡ lookup (tree_at s n at) q
    has u z =
        let rest = tree_at s (hl - 1) (record_end s mid) in
        let first : tree_at s hl mid ≡ ((record_at s mid).path, node_of (record_at s mid)) ∷ rest = ap tree_from (first_record s hl mid (omega arith)) in
        let y : tree_at s n at ≡ tree_at s lc at ++ (((record_at s mid).path, node_of (record_at s mid)) ∷ rest) =
        sym (ap (λ (k : ℕ). tree_at s k at) lefts) ∙ cut s lc hl at ∙ ap (λ (l : Tree). tree_at s lc at ++ l) first in
        ap (λ (l : Tree). lookup l u) first
        ∙ second_has (tree_at s lc at) ((record_at s mid).path, node_of (record_at s mid)) rest (rw y at (rising s n at g)) u z
        ∙ sym (ap (λ (l : Tree). lookup l u) y)

    halves : (k : ℕ) (w u r : Walk) → u ≡ entered k t (tree_at s hl mid) b d (tree_at s hc mid) w
        → r ≡ entered k t (tree_at s n at) b d (tree_at s lc at) u → r ≡ entered k t (tree_at s n at) b d (tree_at s c at) w
    halves k w u r f h =
        let l = tree_at s n at in
        let x = entered_same b t t (tree_at s hl mid) l (rising s hl mid hs) (rising s n at g) (record_at s mid).path
        (λ u z. (refl, has u z)) k d (tree_at s hc mid) (from_first s hl hc mid hs hf some) w in
        h ∙ ap (entered k t l b d (tree_at s lc at)) (f ∙ x) ∙ sym (entered_append k t l b d (tree_at s lc at) (tree_at s hc mid) w)
        ∙ ap (λ (xs : Tree). entered k t l b d xs w) (sym (sym (ap (λ (k : ℕ). tree_at s k at) all) ∙ cut s lc hc at))

pub enter_halves : (s : Bytes) (t : Table) (b : Option ℕ) (d : Path) (n c at ll lc la hl hc ha : ℕ) → Standing s n at
    → Halved s n c at ll lc la hl hc ha → (k : ℕ) (w u r : Walk) → u ≡ entered k t (tree_at s hl ha) b d (tree_at s hc ha) w
    → r ≡ entered k t (tree_at s ll la) b d (tree_at s lc la) u → r ≡ entered k t (tree_at s n at) b d (tree_at s c at) w
enter_halves s t b d n c at ll lc la hl hc ha g h k w u r f z =
    let y = h.there in
    halves s t b d n c at lc hl hc g (rw y at h.high_stand) h.high_fit h.high_some h.counts h.lefts k w u r
    (rw y at f) (rw (h.low_at, h.low_all) at z)

-- the walk from the source
pub from_source : (s v : Bytes) (a : Path) (c : Record) (b : ℕ) → is_listing s ≡ true → (f : Place) → f ≡ record { at = 9; left = record_count s }
    → (g : entry.Place) → g ≡ record { at = 0; left = c.count } → (m to l : ℕ) → Under s a f.left f.at m to l
    → (w u r : Walk) → w ≡ sum (2 * length a + 1) → u ≡ visits (some b) w (children (entries_at v g.left g.at) (tree_at s l to) a)
    → r ≡ entered 31 (entries_at v g.left g.at) (tree_at s m to) (some b) a (tree_at s l to) u
    → r ≡ walk_from (table_in v c) (tree_in s) (some b) a
from_source s v a c b h f e g z m to l k w u r j p q =
    let y : Under s a (record_count s) 9 m to l = rw e at k in
    let t = entries_at v g.left g.at in
    let d = listing_depth (tree_in s) (records s) (checked s h).formed in
    let tt : t ≡ table_in v c = ap (λ (x : entry.Place). entries_at v x.left x.at) z in
    walk_below (some b) t t s a (record_count s) 9 m to l (standing_all s (record_count s) h refl) y (λ x i. refl) 31 w u r p q
    ∙ ap (λ (x : Table). walk 32 x (tree_in s) (some b) a w) tt ∙ ap (walk 32 (table_in v c) (tree_in s) (some b) a) j
    ∙ walk_deep (table_in v c) (tree_in s) (some b) 32 (depth (tree_in s)) a (omega arith) (omega arith) (sum (2 * length a + 1))
