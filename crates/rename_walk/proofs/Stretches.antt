-- Stretches of records: cut in two, found below a directory, counted.
use mathlib.Core.Path.{◌≡◌, refl, ap, sym, ◌∙◌}
use mathlib.Core.List.{[], ◌∷◌, ◌++◌}
use mathlib.Core.Bool.{Bool, true, false, ◌&&◌}
use Prim.Native.Nat.{ℕ, zero, suc, ◌+◌, ◌-◌, ◌*◌, ◌/◌, ◌<◌, ◌≤◌}
use native.Mathlib.Omega.{arith}
use lib.Dec.{leb}
use lib.ListN.{length}
use borrow.Author.Tests.{eqb-true}
use Rattle.model.specs.Bytes.{Bytes, before}
use Rattle.model.specs.Path.{Path, below}
use Rattle.model.specs.Map.{only}
use Rattle.model.specs.Tree.{Tree}
use Rattle.model.specs.Listing.{record_at, record_end, records_from, filled, node_of, tree_from}
use Rattle.model.proofs.Orders.{yea, nay, test, and_true}
use Rattle.model.proofs.Maps.{Ascending, ascends_is}
use Rattle.listing_records.specs.Place.{tree_at, Standing}
use Rattle.listing_records.specs.declared.Place.{Place}
use Rattle.listing_records.proofs.Places.{first_record}
use Rattle.table_entries.specs.Cut.{since}
use Rattle.rename_walk.specs.Stretch.{end_after, slashed, lead, Under, Halved}
use Rattle.rename_walk.proofs.Cuts.{Le, Each, each_since, none_past}

-- a record has at least 19 bytes
few_filled : (s : Bytes) (n at : ℕ) → filled s n at ≡ true → at + 19 * n ≤ length s
few_filled s zero at h = omega (arith, eqb-true at (length s) h)
few_filled s (suc n) at h =
    let e = and_true (leb (at + 19) (length s) && leb (record_end s at) (length s)) (filled s n (record_end s at)) h in
    let ih = few_filled s n (record_end s at) e.1 in
    omega arith

pub few : (s : Bytes) (n at : ℕ) → Standing s n at → n ≤ 16777216
few s n at w = let h = few_filled s n at w.full in let k = w.small in omega arith

pub rising : (s : Bytes) (n at : ℕ) → Standing s n at → Ascending (tree_at s n at)
rising s n at w = (ascends_is [] (tree_at s n at) w.up).1

-- n records, and then m
pub cut : (s : Bytes) (n m at : ℕ) → tree_at s (n + m) at ≡ tree_at s n at ++ tree_at s m (end_after s n at)
cut s zero m at = ap (λ (k : ℕ). tree_at s k at) (zero_plus m)
  where
    zero_plus : (m : ℕ) → 0 + m ≡ m
    zero_plus m = omega arith
cut s (suc n) m at =
    let e : suc n + m ≡ suc (n + m) = omega arith in
    ap (λ (k : ℕ). tree_at s k at) e ∙ ap (λ (xs : Tree). ((record_at s at).path, node_of (record_at s at)) ∷ xs) (cut s n m (record_end s at))

-- the loop of `skip`: i records were passed, and the others of the n are still to be
pub record Skipping (s : Bytes) (n left₀ at₀ i left at : ℕ) : Type 0 where
  pub stand : Standing s left at
  pub number : left + i ≡ left₀
  pub fit : n ≤ left₀
  pub ends : end_after s (n - i) at ≡ end_after s n at₀

pub skip_start : (s : Bytes) (n left at : ℕ) → Standing s left at → n ≤ left → Skipping s n left at 0 left at
skip_start s n left at w h = record {
  stand = w;
  number = omega arith;
  fit = h;
  ends = let z : n - 0 ≡ n = omega arith in ap (λ (k : ℕ). end_after s k at) z;
}

module _ (s : Bytes) (n left₀ at₀ i left at : ℕ) (w : Skipping s n left₀ at₀ i left at) where
  pub skip_more : i < n → 0 < left
  skip_more h = let e = w.number in let f = w.fit in omega arith

  pub skip_on : i < n → (r : Place) → r ≡ record { at = record_end s at; left = left - 1 } → Standing s r.left r.at
      → Skipping s n left₀ at₀ (i + 1) r.left r.at
  skip_on h r e st =
      let f : r.left ≡ left - 1 = ap (λ (p : Place). p.left) e in
      let g : r.at ≡ record_end s at = ap (λ (p : Place). p.at) e in
      let more = skip_more h in
      let z : n - i ≡ suc (n - (i + 1)) = omega arith in
      record {
        stand = st;
        number = let y = w.number in omega arith;
        fit = w.fit;
        ends = rw g (sym (ap (λ (k : ℕ). end_after s k at) z) ∙ w.ends);
      }

  pub skip_end : i ≡ n → ◌≡◌ {A = Place} (record { at = at; left = left }) (record { at = end_after s n at₀; left = left₀ - n })
  skip_end h =
      let z : n - i ≡ 0 = omega arith in
      let e : at ≡ end_after s n at₀ = rw z at w.ends in
      let f : left ≡ left₀ - n = (let y = w.number in omega arith) in
      rw (e, f)

-- the halves that `halved` makes
pub half : (s : Bytes) (n c at : ℕ) → c ≤ n → 1 < c → (m : Place) → m ≡ record { at = end_after s (c / 2) at; left = n - c / 2 } → Standing s m.left m.at
    → Halved s n c at n (c / 2) at m.left (c - c / 2) m.at
half s n c at h k m e g =
    let f : m.left ≡ n - c / 2 = ap (λ (p : Place). p.left) e in
    record {
      low_at = refl;
      low_all = refl;
      low_some = omega arith;
      high_some = omega arith;
      high_stand = g;
      high_fit = omega arith;
      counts = omega arith;
      lefts = omega arith;
      there = ap (λ (p : Place). p.at) e;
    }

-- the loop of `seek_below`: what stands from the key on is among the records that are left
pub record Passing (s : Bytes) (k : Path) (left₀ at₀ left at : ℕ) : Type 0 where
  pub stand : Standing s left at
  pub are : since k (tree_at s left at) ≡ since k (tree_at s left₀ at₀)

module _ (s : Bytes) (k : Path) (left₀ at₀ left at : ℕ) (w : Passing s k left₀ at₀ left at) where
  module _ (h : 0 < left) (p : Path) (e : p ≡ (record_at s at).path) (b : Bool) (f : b ≡ before p k) where
    abbrev behind : Tree
    behind = tree_from (records_from s (left - 1) (record_end s at))

    abbrev here : Tree
    here = ((record_at s at).path, node_of (record_at s at)) ∷ behind

    opened : tree_at s left at ≡ here
    opened = ap tree_from (first_record s left at h)

    tested : before (record_at s at).path k ≡ b
    tested = sym (f ∙ ap (λ (q : Path). before q k) e)

    pub pass_on : b ≡ true → (r : Place) → r ≡ record { at = record_end s at; left = left - 1 } → Standing s r.left r.at
        → Passing s k left₀ at₀ r.left r.at
    pass_on z r c st =
        let l : tree_at s r.left r.at ≡ behind = ap (λ (u : Place). tree_at s u.left u.at) c in
        let o : since k here ≡ since k behind = rw (tested ∙ z) in
        record { stand = st; are = ap (since k) l ∙ sym (ap (since k) opened ∙ o) ∙ w.are }

    pub pass_stop : b ≡ false → tree_at s left at ≡ since k (tree_at s left₀ at₀)
    pass_stop z =
        let o : here ≡ since k here = rw (tested ∙ z) in
        opened ∙ o ∙ sym (ap (since k) opened) ∙ w.are

  pub pass_end : left ≤ 0 → tree_at s left at ≡ since k (tree_at s left₀ at₀)
  pass_end h =
      let z : left ≡ 0 = omega arith in
      let o : tree_at s left at ≡ since k (tree_at s left at) = rw z in
      o ∙ w.are

-- the loop of `count_below`: n were counted
pub record Counting (s : Bytes) (d : Path) (left₀ at₀ left at n : ℕ) : Type 0 where
  pub stand : Standing s left at
  pub small : n + left ≤ 16777216
  pub are : n + lead d (tree_at s left at) ≡ lead d (tree_at s left₀ at₀)

pub count_start : (s : Bytes) (d : Path) (left at : ℕ) → Standing s left at → Counting s d left at left at 0
count_start s d left at w = record { stand = w; small = (let h = few s left at w in omega arith); are = omega arith }

module _ (s : Bytes) (d : Path) (left₀ at₀ left at n : ℕ) (w : Counting s d left₀ at₀ left at n) where
  module _ (h : 0 < left) (p : Path) (e : p ≡ (record_at s at).path) (b : Bool) (f : b ≡ below d p) where
    abbrev after : Tree
    after = tree_from (records_from s (left - 1) (record_end s at))

    abbrev there : Tree
    there = ((record_at s at).path, node_of (record_at s at)) ∷ after

    shown : tree_at s left at ≡ there
    shown = ap tree_from (first_record s left at h)

    asked : below d (record_at s at).path ≡ b
    asked = sym (f ∙ ap (below d) e)

    pub count_on : b ≡ true → (r : Place) → r ≡ record { at = record_end s at; left = left - 1 } → Standing s r.left r.at
        → Counting s d left₀ at₀ r.left r.at (n + 1)
    count_on z r c st =
        let l : tree_at s r.left r.at ≡ after = ap (λ (u : Place). tree_at s u.left u.at) c in
        let g : r.left ≡ left - 1 = ap (λ (u : Place). u.left) c in
        let o : lead d there ≡ suc (lead d after) = rw (asked ∙ z) in
        let v = ap (lead d) shown ∙ o in
        let u = ap (lead d) l in
        record {
          stand = st;
          small = (let y = w.small in omega arith);
          are = (let y = w.are in omega arith);
        }

    pub count_stop : b ≡ false → n ≡ lead d (tree_at s left₀ at₀)
    count_stop z =
        let o : lead d there ≡ 0 = rw (asked ∙ z) in
        let v = ap (lead d) shown ∙ o in
        let y = w.are in
        omega arith

  pub count_end : left ≤ 0 → n ≡ lead d (tree_at s left₀ at₀)
  count_end h =
      let z : left ≡ 0 = omega arith in
      let o : lead d (tree_at s left at) ≡ 0 = rw z in
      let y = w.are in
      omega arith

-- those counted are those below d, where all are behind d with a slash
lead_le : (s : Bytes) (d : Path) (n at : ℕ) → lead d (tree_at s n at) ≤ n
lead_le s d zero at = omega arith
lead_le s d (suc n) at = let ih = lead_le s d n (record_end s at) in elim (test (below d (record_at s at).path)) [
  | yea e ↦ rw e (omega arith)
  | nay e ↦ rw e (omega arith)
]

lead_are : (s : Bytes) (d : Path) (n at : ℕ) → Ascending (tree_at s n at) → Each (Le (slashed d)) (tree_at s n at)
    → tree_at s (lead d (tree_at s n at)) at ≡ only (below d) (tree_at s n at)
lead_are s d zero at a h = refl
lead_are s d (suc n) at a h = let ih = lead_are s d n (record_end s at) a.1 h.1 in elim (test (below d (record_at s at).path)) [
  | yea e ↦ rw e (ap (λ (xs : Tree). ((record_at s at).path, node_of (record_at s at)) ∷ xs) ih)
  | nay e ↦ rw e (sym (none_past d (record_at s at).path (tree_at s n (record_end s at)) h.0 e a.0 a.1))
]

pub under : (s : Bytes) (d : Path) (n at m to c : ℕ) → Standing s n at → Standing s m to → tree_at s m to ≡ since (slashed d) (tree_at s n at)
    → c ≡ lead d (tree_at s m to) → Under s d n at m to c
under s d n at m to c w v e f =
    let h : Each (Le (slashed d)) (tree_at s m to) = rw e (each_since (slashed d) (tree_at s n at) (rising s n at w)) in
    rw f (record { stand = v; few = lead_le s d m to; rest = e; are = lead_are s d m to (rising s m to v) h })

-- what the recursion asks
pub not_none : (d : ℕ) → (d ≡ 0 → ⊥) → 0 < d
not_none zero h = absurd (h refl)
not_none (suc d) h = omega arith

pub some_left : (c n : ℕ) → (c ≡ 0 → ⊥) → c ≤ n → 0 < n
some_left c n h k = let f = not_none c h in omega arith

pub two_some : (c : ℕ) → (c ≡ 0 → ⊥) → (c ≡ 1 → ⊥) → 1 < c
two_some zero h k = absurd (h refl)
two_some (suc zero) h k = absurd (k refl)
two_some (suc (suc c)) h k = omega arith

pub falls_below : (t d o n : ℕ) → d * 33554432 ≡ t → 0 < d → o ≤ n → n ≤ 16777216 → (d - 1) * 33554432 + o < t
falls_below t d o n e h k f = omega arith

pub falls_one : (t d c : ℕ) → d * 33554432 + c ≡ t → c ≡ 1 → d * 33554432 < t
falls_one t d c e h = omega arith

-- both halves stand, and are no longer than what stands there
pub both_halves : (s : Bytes) (n c at ll lc la hl hc ha : ℕ) → Halved s n c at ll lc la hl hc ha → Standing s n at → c ≤ n
    → Standing s hl ha × Standing s ll la × (hc ≤ hl) × (lc ≤ ll)
both_halves s n c at ll lc la hl hc ha u g h =
    let f = u.counts in
    let e = u.low_all in
    (u.high_stand, rw (u.low_at, u.low_all) g, u.high_fit, omega arith)
