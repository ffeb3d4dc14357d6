-- Places in a checked listing: what stands there, and what a search forward finds.
use mathlib.Core.Path.{◌≡◌, sym, ap, ◌∙◌}
use mathlib.Core.Bool.{Bool, true, false, ◌&&◌}
use mathlib.Core.List.{[], ◌∷◌}
use Prim.Native.Nat.{ℕ, zero, suc, ◌+◌, ◌-◌, ◌<◌, ◌≤◌}
use native.Mathlib.Omega.{arith}
use lib.Dec.{leb}
use native.Mathlib.Nat.{add-sub_cancel_left}
use lib.ListN.{length, take, drop}
use borrow.Author.Tests.{leb-true}
use Rattle.model.specs.Bytes.{Bytes, number_at, before}
use Rattle.model.specs.Path.{Path}
use Rattle.model.specs.Map.{lookup}
use Rattle.model.specs.Tree.{Tree}
use Rattle.model.specs.Listing.{record_at, record_end, record_count, records_from, filled, tree_from, tree_in, is_listing}
use Rattle.model.proofs.Orders.{Lt, Cmp, cmp, yea, nay, test, and_true}
use Rattle.model.proofs.Listings.{checked}
use Rattle.model.proofs.Maps.{Above, Ascending, ascends_is, is_ascends, above_trans, lookup_low}
use Rattle.listing_records.specs.Place.{tree_at, Standing, seek_from, node_if}
use Rattle.std.specs.Prelude.{Option}
use Rattle.listing_records.specs.Found.{found_of}
use Rattle.listing_records.specs.declared.Place.{Place}
use Rattle.listing_records.specs.declared.Found.{Found}

-- all records stand from the first on
pub standing_all : (s : Bytes) (n : ℕ) → is_listing s ≡ true → n ≡ record_count s → Standing s n 9
standing_all s n h e = let k = checked s h in rw e (record { small = k.small; full = k.full; up = k.up })

-- the record at a place, and the place behind it
pub record Stand (s : Bytes) (n at : ℕ) : Type 0 where
  pub head : at + 19 ≤ length s
  pub end : record_end s at ≤ length s
  pub more : Standing s (n - 1) (record_end s at)

down : (m : ℕ) → suc m - 1 ≡ m
down m = omega arith

above_root : (p : Path) (t : Tree) → Above p t → Above [] t
above_root p [] h = tt
above_root p (x ∷ t) h = go x.0 h
  where
    go : (q : Path) → Lt p q → Lt [] q
    go [] l = elim p as (λ p. Lt p [] → Lt [] []) [ [] ↦ λ l. l | a ∷ p ↦ λ l. l ] l
    go (b ∷ q) l = tt

pub stands : (s : Bytes) (n at : ℕ) → 0 < n → Standing s n at → Stand s n at
stands s zero at h w = absurd (omega arith)
stands s (suc m) at h w =
    let f = and_true (leb (at + 19) (length s) && leb (record_end s at) (length s)) (filled s m (record_end s at)) w.full in
    let g = and_true (leb (at + 19) (length s)) (leb (record_end s at) (length s)) f.0 in
    let u = (ascends_is [] (tree_at s (suc m) at) w.up).1 in
    let t = tree_at s m (record_end s at) in
    record {
      head = leb-true (at + 19) (length s) g.0;
      end = leb-true (record_end s at) (length s) g.1;
      more = rw (down m) (record {
        small = w.small;
        full = f.1;
        up = is_ascends [] t (above_root (record_at s at).path t u.0) u.1;
      });
    }

-- the records from a place on: the first, then those behind it, whose paths are above its path
pub first_record : (s : Bytes) (n at : ℕ) → 0 < n → records_from s n at ≡ record_at s at ∷ records_from s (n - 1) (record_end s at)
first_record s zero at h = absurd (omega arith)
first_record s (suc m) at h = rw (down m)

pub climbs : (s : Bytes) (n at : ℕ) → 0 < n → Standing s n at → Ascending (tree_from (record_at s at ∷ records_from s (n - 1) (record_end s at)))
climbs s n at h w = rw (first_record s n at h) at (ascends_is [] (tree_at s n at) w.up).1

-- the path, as the code cuts it out
pub path_here : (s : Bytes) (at n : ℕ) → n ≡ number_at s at 2 → take (at + 19 + n - (at + 19)) (drop (at + 19) s) ≡ (record_at s at).path
path_here s at n e = rw (add-sub_cancel_left (at + 19) n, e)

-- the search forward, a record at a time
module _ (s : Bytes) (p : Path) where
  pub seek_on : (n at : ℕ) → 0 < n → before (record_at s at).path p ≡ true → seek_from s p n at ≡ seek_from s p (n - 1) (record_end s at)
  seek_on zero at h b = absurd (omega arith)
  seek_on (suc m) at h b = rw (b, down m)

  pub seek_stop : (n at : ℕ) → 0 < n → before (record_at s at).path p ≡ false → record { at = at; left = n } ≡ seek_from s p n at
  seek_stop zero at h b = absurd (omega arith)
  seek_stop (suc m) at h b = rw b

  -- it finds what the records from its start on have at p
  pub found_first : (n at : ℕ) → Ascending (tree_at s n at) → (q : Place) → q ≡ seek_from s p n at
      → node_if s p q.left q.at ≡ lookup (tree_at s n at) p
  found_first zero at u q e = rw e
  found_first (suc n) at u q e = elim (cmp (record_at s at).path p) [
    | Cmp.lt l w ↦ found_first n (record_end s at) u.1 q (cc) ∙ rw w
    | Cmp.eq f w ↦ (let z : q ≡ (record { at = at; left = suc n }) = e ∙ rw w in rw z (rw w))
    | Cmp.gt l w ↦ (let z : q ≡ (record { at = at; left = suc n }) = e ∙ rw w in
        rw z (rw w (sym (lookup_low p (tree_at s n (record_end s at)) (above_trans p (record_at s at).path (tree_at s n (record_end s at)) l u.0) u.1))))
  ]

-- the search's invariant: from the place reached it finds what it finds from the start
pub record Sought (s : Bytes) (p : Path) (n at left here : ℕ) : Type 0 where
  pub stand : Standing s left here
  pub rest : seek_from s p left here ≡ seek_from s p n at

module _ {s : Bytes} {p : Path} {n at left here : ℕ} (k : Sought s p n at left here) (h : 0 < left) {m : ℕ} (e : m ≡ number_at s here 2)
    {b : Bool} (c : b ≡ before (take (here + 19 + m - (here + 19)) (drop (here + 19) s)) p) where
  tested : before (record_at s here).path p ≡ b
  tested = sym (c ∙ ap (λ (q : Path). before q p) (path_here s here m e))

  pub sought_on : {fewer : ℕ} → fewer ≡ left - 1 → b ≡ true → Sought s p n at fewer (here + 19 + m)
  sought_on f z = rw (f, e) (record {
    stand = (stands s left here h k.stand).more;
    rest = sym (seek_on s p left here h (tested ∙ z)) ∙ k.rest;
  })

  pub sought_stop : b ≡ false → record { at = here; left = left } ≡ seek_from s p n at
  sought_stop z = seek_stop s p left here h (tested ∙ z) ∙ k.rest

-- the place that it ends at
pub seek_stands : (s : Bytes) (p : Path) (n at : ℕ) → Standing s n at → (q : Place) → q ≡ seek_from s p n at → Standing s q.left q.at
seek_stands s p zero at w q e = rw e w
seek_stands s p (suc n) at w q e = elim (test (before (record_at s at).path p)) [
  | yea z ↦ seek_stands s p n (record_end s at) (rw (down n) at (stands s (suc n) at (omega arith) w).more) q (e ∙ rw z)
  | nay z ↦ (let f : q ≡ (record { at = at; left = suc n }) = e ∙ rw z in rw f w)
]

-- the search from the first record on
pub found_all : (s : Bytes) (p : Path) (n : ℕ) (q : Place) → is_listing s ≡ true → n ≡ record_count s → q ≡ seek_from s p n 9
    → (d : Option Found) → d ≡ found_of (node_if s p q.left q.at) → d ≡ found_of (lookup (tree_in s) p)
found_all s p n q h e f d g =
    let w : node_if s p q.left q.at ≡ lookup (tree_in s) p = found_first s p n 9 (ascends_is [] (tree_at s n 9) (standing_all s n h e).up).1 q f ∙ rw e in
    g ∙ ap found_of w
