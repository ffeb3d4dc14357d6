-- The children in a stretch visited: records and entries are passed side by side, since both ascend.
use mathlib.Core.Path.{◌≡◌, refl, ap, sym, ◌∙◌}
use mathlib.Core.List.{[], ◌∷◌}
use mathlib.Core.Bool.{Bool, true, false, ◌&&◌}
use mathlib.Core.Option.{Option}
use Prim.Native.Nat.{ℕ, zero, suc, ◌+◌, ◌-◌, ◌<◌, ◌≤◌}
use native.Mathlib.Omega.{arith}
use lib.ListN.{length}
use Rattle.model.specs.Bytes.{Bytes, cons_if}
use Rattle.model.specs.Path.{Path, child}
use Rattle.model.specs.Map.{lookup, is_none}
use Rattle.model.specs.Tree.{Node, Entry, Table, Tree}
use Rattle.model.specs.Listing.{record_at, record_end, records_from, node_of, tree_from}
use Rattle.model.specs.Table.{entries_at}
use Rattle.model.specs.Rename.{Walk, visit, visits, children}
use Rattle.model.proofs.Orders.{Lt, Lt_trans}
use Rattle.model.proofs.Maps.{Above}
use Rattle.listing_records.specs.Place.{tree_at, Standing}
use Rattle.listing_records.specs.declared.Place.{Place}
use Rattle.listing_records.proofs.Places.{stands, first_record, climbs}
use Rattle.table_entries.specs.Place.{Sought}
use Rattle.table_entries.specs.Place as table
use Rattle.table_entries.proofs.Cuts.{lookup_since}
use Rattle.std.specs.Prelude.{Err}
use Rattle.rename_walk.specs.Walked.{walk_of, ended}
use Rattle.rename_walk.specs.declared.Ended.{Ended}
use Rattle.rename_walk.specs.declared.Ended.TheVariants as early
use Rattle.rename_walk.proofs.Cuts.{le_lt}
use Rattle.rename_walk.proofs.Enters.{visits_ended}

-- a walk that has ended early adds nothing
pub err_ended : (e : Ended) → ended (walk_of (Err e)) ≡ true
err_ended early.OverBudget = refl
err_ended (early.Stopped x n) = refl

-- c records from `at` on are still to be visited, all behind the path `last`, and then the walk w is the whole one.
-- Of the entries t of s, the i from `to` on are left, and have all that t has behind `last`.
pub record Visiting (p s : Bytes) (d : Path) (b : Option ℕ) (t : Table) (whole : Walk) (m c at i to : ℕ) (w : Walk) : Type 0 where
  pub stand : Standing p m at
  pub few : c ≤ m
  pub entries : table.Standing s i to
  pub last : Path
  pub up : Above last (tree_at p m at)
  pub ahead : (q : Path) → Lt last q → lookup (entries_at s i to) q ≡ lookup t q
  pub are : visits b w (children t (tree_at p c at) d) ≡ whole

one_first : (b : Option ℕ) (w : Walk) (f : Bool) (x : Path × Node) (ys : Tree) → visits b w (cons_if f x ys) ≡ visits b (visits b w (cons_if f x [])) ys
one_first b w true x ys = refl
one_first b w false x ys = refl

module _ (p s : Bytes) (d : Path) (b : Option ℕ) (t : Table) (whole : Walk) (m c at i to : ℕ) (w : Walk)
    (v : Visiting p s d b t whole m c at i to w) (h : 0 < c) where
  pub visit_more : 0 < m
  visit_more = let f = v.few in omega arith

  abbrev path : Path
  path = (record_at p at).path

  abbrev behind : Tree
  behind = tree_from (records_from p (c - 1) (record_end p at))

  after : Lt v.last path
  after =
      let a : Above v.last (tree_from (record_at p at ∷ records_from p (m - 1) (record_end p at))) = rw (first_record p m at visit_more) at v.up in
      a

  -- u is the walk after the first of them
  module _ (u : Walk) (f : u ≡ visits b w (children (entries_at s i to) (tree_at p 1 at) d)) where
    visit_rest : visits b u (children t behind d) ≡ whole
    visit_rest =
        let n : Walk = visits b w (cons_if (child d path && is_none (lookup t path)) (path, node_of (record_at p at)) []) in
        let k : u ≡ n = f ∙ ap (λ (k : Option Entry). visits b w (cons_if (child d path && is_none k) (path, node_of (record_at p at)) []))
        (v.ahead path after) in
        ap (λ (k : Walk). visits b k (children t behind d)) k
        ∙ sym (one_first b w (child d path && is_none (lookup t path)) (path, node_of (record_at p at)) (children t behind d))
        ∙ sym (ap (λ (l : Tree). visits b w (children t l d)) (ap tree_from (first_record p c at h))) ∙ v.are

    -- an early end
    pub visit_ended : ended u ≡ true → u ≡ whole
    visit_ended z = visits_ended b (children t behind d) u z ∙ visit_rest

    pub visit_on : (r : Place) → r ≡ record { at = record_end p at; left = m - 1 } → Standing p r.left r.at
        → (j o : ℕ) → Sought s path i to j o → (e : ℕ) → c ≡ suc e → Visiting p s d b t whole r.left e r.at j o u
    visit_on r g st j o q e z =
        let x : c - 1 ≡ e = omega arith in
        let y : r.at ≡ record_end p at = ap (λ (k : Place). k.at) g in
        let n : r.left ≡ m - 1 = ap (λ (k : Place). k.left) g in
        let l : tree_at p r.left r.at ≡ tree_from (records_from p (m - 1) (record_end p at)) = ap (λ (k : Place). tree_at p k.left k.at) g in
        record {
          stand = st;
          few = (let a = v.few in omega arith);
          entries = q.stand;
          last = path;
          up = rw l (climbs p m at visit_more v.stand).0;
          ahead = λ k a.
              ap (λ (l : Table). lookup l k) q.are
              ∙ lookup_since path k (entries_at s i to) (le_lt path k a)
              ∙ v.ahead k (Lt_trans v.last path k after a);
          are = ap (λ (k : ℕ). visits b u (children t (tree_at p e k) d)) y
              ∙ ap (λ (k : ℕ). visits b u (children t (tree_at p k (record_end p at)) d)) (sym x) ∙ visit_rest;
        }

pub visit_end : (p s : Bytes) (d : Path) (b : Option ℕ) (t : Table) (whole : Walk) (m c at i to : ℕ) (w : Walk)
    → Visiting p s d b t whole m c at i to w → c ≤ 0 → w ≡ whole
visit_end p s d b t whole m zero at i to w v h = v.are
visit_end p s d b t whole m (suc c) at i to w v h = absurd (omega arith)

-- what a record's path and its entry say
pub node_needs : (s : Bytes) (n at : ℕ) → Standing s n at → 0 < n → (at + 19 ≤ length s) × (length s ≤ 16777216)
node_needs s n at w h = ((stands s n at h w).head, w.small)

-- one record, visited or not
module _ (p : Bytes) (at : ℕ) (t : Table) (d : Path) (b : Option ℕ) (w : Walk) (c : Bool)
    (e : c ≡ (child d (record_at p at).path && is_none (lookup t (record_at p at).path))) where
  pub one_bare : c ≡ true → (u : Walk) → u ≡ visit b w (record_at p at).path (node_of (record_at p at)) → u ≡ visits b w (children t (tree_at p 1 at) d)
  one_bare h u f = f ∙ sym (ap (λ (k : Bool). visits b w (cons_if k ((record_at p at).path, node_of (record_at p at)) [])) (sym e ∙ h))

  pub one_passed : c ≡ false → w ≡ visits b w (children t (tree_at p 1 at) d)
  one_passed h = sym (ap (λ (k : Bool). visits b w (cons_if k ((record_at p at).path, node_of (record_at p at)) [])) (sym e ∙ h))
