-- The records below a directory stand one behind the other, and a part in the middle has the records that the whole has there.
use mathlib.Core.Path.{◌≡◌, refl, sym, ap, ap₂, ◌∙◌}
use mathlib.Core.Bool.{Bool, true, false, ◌&&◌}
use mathlib.Core.Logic.{inl, inr}
use mathlib.Core.List.{List, [], ◌∷◌, ◌++◌, append-nil}
use Prim.Native.Nat.{ℕ, zero, suc, ◌+◌, ◌-◌, ◌<◌, ◌≤◌}
use native.Mathlib.Omega.{arith}
use native.Mathlib.Numerals.{add-one}
use lib.Dec.{leb, eqb}
use lib.ListN.{length, get_or, take, drop, length-drop}
use lib.Seq.{length-take-le, get_or-take, get_or-drop, take-take, drop-drop, append_snoc}
use borrow.Author.Tests.{leb-true, le-leb, eqb-true, eq-eqb}
use Rattle.model.specs.Bytes.{Bytes, every, number, number_at, cons_if}
use Rattle.model.specs.Utf8.{utf8}
use Rattle.model.specs.Path.{Path, short, component, components, is_path, below}
use Rattle.model.specs.Map.{only}
use Rattle.model.specs.Tree.{Tree}
use Rattle.model.specs.Listing.{ListingRecord, ruled, placed, formed_record, record_at, record_end, records_from, records, filled, tree_from, tree_in, is_listing}
use Rattle.model.proofs.Orders.{Lt, Lt_trans, yea, nay, test, bot, and_true}
use Rattle.model.proofs.Maps.{Above, Ascending}
use Rattle.base_fields.specs.Read.{part}
use Rattle.listing_records.specs.Place.{tree_at, Standing}
use Rattle.listing_records.specs.Parts.{records_below, PartOf}
use Rattle.model.proofs.Listings.{checked}
use Rattle.listing_records.proofs.Places.{stands, first_record, climbs, path_here}

-- every path between two that are below d is below d
closed : (x y z : ℕ) (a b c : Path) → Lt (x ∷ a) (y ∷ b) → Lt (y ∷ b) (z ∷ c) → x ≡ z → (x ≡ y) × (Lt a b × Lt b c)
closed x y z a b c (inl l) (inl m) e = absurd (omega arith)
closed x y z a b c (inl l) (inr m) e = absurd (omega (arith, m.0))
closed x y z a b c (inr l) (inl m) e = absurd (omega (arith, l.0))
closed x y z a b c (inr l) (inr m) e = (l.0, (l.1, m.1))

below_none : (d : Path) → below d [] ≡ true → ⊥
below_none [] h = bot (cc)
below_none (x ∷ d) h = bot (cc)

pub below_between : (d a b c : Path) → Lt a b → Lt b c → below d a ≡ true → below d c ≡ true → below d b ≡ true
below_between d [] b c l m h k = absurd (below_none d h)
below_between d (x ∷ a) [] c l m h k = absurd l
below_between d (x ∷ a) (y ∷ b) [] l m h k = absurd m
below_between [] (x ∷ a) (y ∷ b) (z ∷ c) l m h k =
    let u = eqb-true x 47 h in
    let v = eqb-true z 47 k in
    eq-eqb y 47 (sym (closed x y z a b c l m (u ∙ sym v)).0 ∙ u)
below_between (w ∷ d) (x ∷ a) (y ∷ b) (z ∷ c) l m h k =
    let u = and_true (eqb w x) (below d a) h in
    let v = and_true (eqb w z) (below d c) k in
    let e = eqb-true w x u.0 in
    let f = closed x y z a b c l m (sym e ∙ eqb-true w z v.0) in
    rw (eq-eqb w y (e ∙ f.0)) (below_between d a b c f.1.0 f.1.1 u.1 v.1)

-- behind the records below d there is none
none_after : (d p q : Path) (rs : List ListingRecord) → below d p ≡ true → Lt p q → below d q ≡ false → Above q (tree_from rs) → Ascending (tree_from rs) → records_below d rs ≡ []
none_after d p q [] h l n a u = refl
none_after d p q (r ∷ rs) h l n a u = elim (test (below d r.path)) [
  | yea z ↦ absurd (bot (cc (below_between d p q r.path l a h z)))
  | nay z ↦ rw z (none_after d p r.path rs h (Lt_trans p q r.path l a) z u.0 u.1)
]

-- n records stand from `at` up to `to`
abbrev pub up_to : Bytes → ℕ → ℕ → ℕ → Bool
up_to s zero at to = eqb at to
up_to s (suc n) at to = leb (at + 19) to && leb (record_end s at) to && up_to s n (record_end s at) to

record Opened (s : Bytes) (n at to : ℕ) : Type 0 where
  head : at + 19 ≤ to
  end : record_end s at ≤ to
  more : up_to s n (record_end s at) to ≡ true

opened : (s : Bytes) (n at to : ℕ) → up_to s (suc n) at to ≡ true → Opened s n at to
opened s n at to h =
    let a = and_true (leb (at + 19) to && leb (record_end s at) to) (up_to s n (record_end s at) to) h in
    let b = and_true (leb (at + 19) to) (leb (record_end s at) to) a.0 in
    record { head = leb-true (at + 19) to b.0; end = leb-true (record_end s at) to b.1; more = a.1 }

reach : (s : Bytes) (n at to : ℕ) → up_to s n at to ≡ true → at ≤ to
reach s zero at to h = omega (arith, eqb-true at to h)
reach s (suc n) at to h = omega (arith, (opened s n at to h).head)

record Longer (s : Bytes) (n at to : ℕ) : Type 0 where
  ends : up_to s (suc n) at (record_end s to) ≡ true
  list : records_from s (suc n) at ≡ records_from s n at ++ (record_at s to ∷ [])

longer : (s : Bytes) (n at to : ℕ) → up_to s n at to ≡ true → Longer s n at to
longer s zero at to h =
    let e = eqb-true at to h in
    let z = record_end s to in
    record {
      ends = rw (e, le-leb (to + 19) z (omega arith), le-leb z z (omega arith)) (eq-eqb z z refl);
      list = rw e;
    }
longer s (suc n) at to h =
    let o = opened s n at to h in
    let z = record_end s to in
    let w = longer s n (record_end s at) to o.more in
    record {
      ends = rw (le-leb (at + 19) z (omega (arith, o.head)), le-leb (record_end s at) z (omega (arith, o.end))) w.ends;
      list = ap (λ (rs : List ListingRecord). record_at s at ∷ rs) w.list;
    }

-- a part in the middle has the records that the whole has there
cut : (l : ℕ) (u : Bytes) (at k : ℕ) → at + k ≤ l → take k (drop at (take l u)) ≡ take k (drop at u)
cut l u zero k h = take-take k l u (omega arith)
cut zero u (suc at) k h = absurd (omega arith)
cut (suc l) [] (suc at) k h = refl
cut (suc l) (x ∷ u) (suc at) k h = cut l u at k (omega arith)

module _ (s : Bytes) (base l : ℕ) (h : base + l ≤ length s) where
  abbrev mid : Bytes
  mid = take l (drop base s)

  mid_length : length mid ≡ l
  mid_length = length-take-le l (drop base s) (rw length-drop (omega arith))

  bytes_there : (at k o : ℕ) → o ≡ base + at → at + k ≤ l → take k (drop at mid) ≡ take k (drop o s)
  bytes_there at k o e m = rw (e, ← drop-drop at base s) (cut l (drop base s) at k m)

  byte_there : (at o : ℕ) → o ≡ base + at → at < l → get_or mid at 0 ≡ get_or s o 0
  byte_there at o e m = rw (e, get_or-take l (drop base s) at 0 m) (get_or-drop base s at 0)

  record Alike (n at o : ℕ) : Type 0 where
    full : filled mid n at ≡ true
    are : records_from mid n at ≡ records_from s n o

  one : (at o : ℕ) → o ≡ base + at → at + 19 ≤ l → record_end mid at ≤ l → record_at mid at ≡ record_at s o
  one at o e m j =
      let n : number_at mid at 2 ≡ number_at s o 2 = ap number (bytes_there at 2 o e (omega arith)) in
      let p : (record_at mid at).path ≡ (record_at s o).path =
      bytes_there (at + 19) (number_at mid at 2) (o + 19) (omega arith) (omega arith) ∙ ap (λ (k : ℕ). take k (drop (o + 19) s)) n in
      let k : get_or mid (at + 2) 0 ≡ get_or s (o + 2) 0 = byte_there (at + 2) (o + 2) (omega arith) (omega arith) in
      let t : number_at mid (at + 3) 8 ≡ number_at s (o + 3) 8 = ap number (bytes_there (at + 3) 8 (o + 3) (omega arith) (omega arith)) in
      let z : number_at mid (at + 11) 8 ≡ number_at s (o + 11) 8 = ap number (bytes_there (at + 11) 8 (o + 11) (omega arith) (omega arith)) in
      rw (p, k, t, z)

  middle : (n at o to : ℕ) → o ≡ base + at → to ≡ base + l → up_to s n o to ≡ true → Alike n at o
  middle zero at o to e f u = record { full = eq-eqb at (length mid) (omega (arith, eqb-true o to u, mid_length)); are = refl }
  middle (suc n) at o to e f u =
      let q = opened s n o to u in
      let i = q.head in
      let j = q.end in
      let m : number_at mid at 2 ≡ number_at s o 2 = ap number (bytes_there at 2 o e (omega arith)) in
      let v = middle n (record_end mid at) (record_end s o) to (omega arith) f q.more in
      record {
        full = rw (le-leb (at + 19) (length mid) (omega (arith, mid_length)), le-leb (record_end mid at) (length mid) (omega (arith, mid_length))) v.full;
        are = ap₂ (λ (r : ListingRecord) (rs : List ListingRecord). r ∷ rs) (one at o e (omega arith) (omega arith)) v.are;
      }

-- the loop of `below`: n records below d stand from `from` up to `at`, behind those that are not
pub record Gathered (s : Bytes) (d : Path) (left from at n : ℕ) : Type 0 where
  pub stand : Standing s left at
  pub ends : up_to s n from at ≡ true
  pub inside : at ≤ length s
  pub few : n + left < 4294967296
  pub last : Path
  pub up : Above last (tree_at s left at)
  pub under : 0 < n → below d last ≡ true
  pub are : records_from s n from ++ records_below d (records_from s left at) ≡ records_below d (records s)

-- the part from `from` up to `at`, where nothing behind it is below d
whole : (s : Bytes) (d : Path) (left from at n : ℕ) → Gathered s d left from at n → records_below d (records_from s left at) ≡ [] → PartOf s d from at n
whole s d left from at n k z =
    let r = reach s n from at k.ends in
    let i = k.inside in
    let m = middle s from (at - from) (omega arith) n 0 from at (omega arith) (omega arith) k.ends in
    let w = sym (append-nil (records_from s n from)) ∙ ap (λ (rs : List ListingRecord). records_from s n from ++ rs) (sym z) ∙ k.are in
    record { start = r; end = i; full = m.full; are = m.are ∙ w; there = w }

pub done : {s : Bytes} {d : Path} {left from at n : ℕ} → Gathered s d left from at n → left ≡ 0 → PartOf s d from at n
done {s} {d} {left} {from} {at} {n} k h = whole s d left from at n k (rw h)

module _ {s : Bytes} {d : Path} {left from at n : ℕ} (k : Gathered s d left from at n) (h : 0 < left) {m : ℕ} (e : m ≡ number_at s at 2)
    {t : Bool} (b : t ≡ below d (take (at + 19 + m - (at + 19)) (drop (at + 19) s))) where
  abbrev path : Path
  path = (record_at s at).path

  abbrev behind : List ListingRecord
  behind = records_from s (left - 1) (record_end s at)

  tested : below d path ≡ t
  tested = sym (b ∙ ap (λ (q : Path). below d q) (path_here s at m e))

  climb : Above path (tree_from behind) × Ascending (tree_from behind)
  climb = climbs s left at h k.stand

  after : Lt k.last path
  after = let a : Above k.last (tree_from (record_at s at ∷ behind)) = rw (first_record s left at h) at k.up in a

  are : records_from s n from ++ records_below d (record_at s at ∷ behind) ≡ records_below d (records s)
  are = rw (first_record s left at h) at k.are

  pub yes : {fewer : ℕ} → fewer ≡ left - 1 → t ≡ true → Gathered s d fewer from (at + 19 + m) (n + 1)
  yes f z =
      let w = longer s n from at k.ends in
      let st = stands s left at h k.stand in
      rw (f, e, add-one n) (record {
        stand = st.more;
        ends = w.ends;
        inside = st.end;
        few = omega (arith, k.few);
        last = path;
        up = climb.0;
        under = λ o. tested ∙ z;
        are = ap (λ (rs : List ListingRecord). rs ++ records_below d behind) w.list ∙ append_snoc (records_from s n from) (record_at s at) (records_below d behind)
            ∙ sym (ap (λ (u : Bool). records_from s n from ++ cons_if u (record_at s at) (records_below d behind)) (tested ∙ z)) ∙ are;
      })

  off : t ≡ false → records_below d (record_at s at ∷ behind) ≡ records_below d behind
  off z = rw (tested ∙ z)

  pub ended : t ≡ false → 0 < n → PartOf s d from at n
  ended z o = whole s d left from at n k (ap (records_below d) (first_record s left at h) ∙ off z
      ∙ none_after d k.last path behind (k.under o) after (tested ∙ z) climb.0 climb.1)

  pub no : {fewer : ℕ} → fewer ≡ left - 1 → t ≡ false → n ≡ 0 → Gathered s d fewer (at + 19 + m) (at + 19 + m) n
  no f z q =
      let st = stands s left at h k.stand in
      let c : records_below d (record_at s at ∷ behind) ≡ records_below d (records s) = rw q at are in
      rw (f, e, q) (record {
        stand = st.more;
        ends = eq-eqb (record_end s at) (record_end s at) refl;
        inside = st.end;
        few = omega (arith, k.few);
        last = path;
        up = climb.0;
        under = λ o. absurd (omega arith);
        are = sym (off z) ∙ c;
      })

-- the records of the part give the tree's part below d
pub below_tree : (d : Path) (rs : List ListingRecord) → tree_from (records_below d rs) ≡ only (below d) (tree_from rs)
below_tree d [] = refl
below_tree d (r ∷ rs) = elim (test (below d r.path)) [
  | yea z ↦ (let ih = below_tree d rs in cc)
  | nay z ↦ (let ih = below_tree d rs in cc)
]

pub part_tree : (s : Bytes) (d : Path) (from to n : ℕ) → PartOf s d from to n → tree_from (records_from (part s from to) n 0) ≡ only (below d) (tree_in s)
part_tree s d from to n k = ap tree_from k.are ∙ below_tree d (records s)

-- the root's part is empty: no path begins with a slash
no_slash_first : (p : Path) → below [] p ≡ true → is_path p ≡ true → ⊥
no_slash_first [] b h = bot (cc)
no_slash_first (c ∷ p) b h =
    let e = and_true (short (c ∷ p) && utf8 (c ∷ p)) (every component (components (c ∷ p))) h in
    let f : every component (components (c ∷ p)) ≡ false = rw b in
    bot (cc e.1)

root_none : (l : Tree) (rs : List ListingRecord) → every (formed_record l) rs ≡ true → records_below [] rs ≡ []
root_none l [] h = refl
root_none l (r ∷ rs) h =
    let e = and_true (formed_record l r) (every (formed_record l) rs) h in
    let f = and_true (is_path r.path && ruled r) (placed l r) e.0 in
    let g = and_true (is_path r.path) (ruled r) f.0 in
    elim (test (below [] r.path)) [
      | yea z ↦ absurd (no_slash_first r.path z g.0)
      | nay z ↦ rw z (root_none l rs e.1)
    ]

pub root_part : (s : Bytes) (from to n : ℕ) → is_listing s ≡ true → PartOf s [] from to n → n ≡ 0
root_part s from to zero h k = refl
root_part s from to (suc n) h k = absurd (let e : records_from s (suc n) from ≡ [] = k.there ∙ root_none (tree_in s) (records s) (checked s h).formed in bot (cc))
