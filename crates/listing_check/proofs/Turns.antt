-- One turn of the pass: what holds before a record is read, what each refusal gives, and what holds after it.
use mathlib.Core.Path.{◌≡◌, refl, sym, ap, ap₂, ◌∙◌}
use mathlib.Core.Bool.{Bool, true, false, ◌&&◌, true≢false}
use mathlib.Core.List.{List, [], ◌∷◌}
use Prim.Native.Nat.{ℕ, zero, suc, ◌+◌, ◌-◌, ◌<◌, ◌≤◌}
use native.Mathlib.Omega.{arith}
use native.Mathlib.Nat.{add-sub_cancel_left}
use lib.Dec.{leb, eqb}
use lib.ListN.{length, get_or, take, drop, length-drop, replicate, length-replicate}
use lib.Seq.{length-take-le}
use borrow.Author.Tests.{leb-true}
use Rattle.model.specs.Bytes.{Bytes, every, same, number_at, before}
use Rattle.model.specs.Path.{Path, is_path, ancestors}
use Rattle.model.specs.Tree.{Tree}
use Rattle.model.specs.Listing.{ListingRecord, record_at, record_end, record_count, headed, ruled, placed, is_listing}
use Rattle.model.proofs.Orders.{Lt, and_true}
use Rattle.model.proofs.Codec.{path_short}
use Rattle.base_fields.specs.Read.{common, part}
use Rattle.base_fields.proofs.Common.{before_Lt, common_short}
use Rattle.listing_check.specs.Turn.{fits, formed_alone, Agree, Marked}
use Rattle.listing_check.proofs.Pass.{directory_at, noted, run, whole}
use Rattle.listing_check.proofs.Flags.{Flagged, marked}

-- before a record is read: the path before it stands from `from` up to `at`
pub record Kept (s : Bytes) (f : List Bool) (left from at : ℕ) : Type 0 where
  pub small : length s ≤ 16777216
  pub size : length f ≡ 513
  pub behind : from ≤ at
  pub inside : at ≤ length s
  pub seen : Tree
  pub flagged : Flagged f (part s from at) seen
  pub rest : run s left at (part s from at) seen ≡ is_listing s

-- the record at `at`, with a path of n bytes, is in order by itself
pub record Read (s : Bytes) (f : List Bool) (left from at n : ℕ) : Type 0 where
  pub kept : Kept s f left from at
  pub more : 0 < left
  pub alone : (fits s at && formed_alone (record_at s at)) ≡ true
  pub size : n ≡ number_at s at 2

-- its path is behind the one before it, and has m bytes in common with it
pub record Ordered (s : Bytes) (f : List Bool) (left from at n m : ℕ) : Type 0 where
  pub read : Read s f left from at n
  pub order : before (part s from at) (record_at s at).path ≡ true
  pub shared : m ≡ common (part s from at) (record_at s at).path

pub bounds : (s : Bytes) → headed s ≡ true → (9 ≤ length s) × (length s ≤ 16777216)
bounds s h =
    let low : Bool = leb 9 (length s) in
    let high : Bool = leb (length s) 16777216 in
    let mark : Bool = same (take 3 s) (82 ∷ 68 ∷ 76 ∷ []) in
    let a = and_true low high (and_true (low && high) mark (and_true (low && high && mark) (eqb (number_at s 3 2) 1) h).0).0 in
    (leb-true 9 (length s) a.0, leb-true (length s) 16777216 a.1)

stop : (a b w : Bool) → (a && b) ≡ w → a ≡ false → false ≡ w
stop true b w h e = absurd (true≢false e)
stop false b w h e = h

on : (a b w : Bool) → (a && b) ≡ w → a ≡ true → b ≡ w
on true b w h e = h
on false b w h e = absurd (true≢false (sym e))

down : (m : ℕ) → suc m - 1 ≡ m
down m = omega arith

-- what is left to hold of a turn: once the record is in order by itself; once its path is in order; once its ancestors are there
module _ (s : Bytes) (left at : ℕ) (p : Path) (seen : Tree) where
  abbrev after : Bool
  after = run s (left - 1) (record_end s at) (record_at s at).path (noted (record_at s at) ∷ seen)

  abbrev ordered_on : Bool
  ordered_on = placed (noted (record_at s at) ∷ seen) (record_at s at) && after

  abbrev read_on : Bool
  read_on = before p (record_at s at).path && ordered_on

turned : (s : Bytes) (left at : ℕ) (p : Path) (seen : Tree) → 0 < left
    → run s left at p seen ≡ (fits s at && formed_alone (record_at s at) && read_on s left at p seen)
turned s zero at p seen h = absurd (omega arith)
turned s (suc m) at p seen h = rw (down m)

module _ {s : Bytes} {f : List Bool} {left from at : ℕ} (k : Kept s f left from at) (h : 0 < left) where
  pub opened : (fits s at && formed_alone (record_at s at) && read_on s left at (part s from at) k.seen) ≡ is_listing s
  opened = sym (turned s left at (part s from at) k.seen h) ∙ k.rest

  module _ {b : Bool} (e : b ≡ (fits s at && formed_alone (record_at s at))) where
    pub no_record : b ≡ false → false ≡ is_listing s
    no_record z =
        let a : Bool = fits s at && formed_alone (record_at s at) in
        stop a (read_on s left at (part s from at) k.seen) (is_listing s) opened (sym e ∙ z)

    pub in_record : b ≡ true → {n : ℕ} → n ≡ number_at s at 2 → Read s f left from at n
    in_record z g = record { kept = k; more = h; alone = sym e ∙ z; size = g }

module _ {s : Bytes} {f : List Bool} {left from at n : ℕ} (t : Read s f left from at n) where
  pub head : at + 19 ≤ length s
  head =
      let a = and_true (fits s at) (formed_alone (record_at s at)) t.alone in
      leb-true (at + 19) (length s) (and_true (leb (at + 19) (length s)) (leb (record_end s at) (length s)) a.0).0

  pub end : at + 19 + n ≤ length s
  end =
      let a = and_true (fits s at) (formed_alone (record_at s at)) t.alone in
      let b = leb-true (record_end s at) (length s) (and_true (leb (at + 19) (length s)) (leb (record_end s at) (length s)) a.0).1 in
      omega (arith, t.size)

  pub path_is : part s (at + 19) (at + 19 + n) ≡ (record_at s at).path
  path_is = rw (add-sub_cancel_left (at + 19) n, t.size)

  pub path_length : length (record_at s at).path ≡ n
  path_length =
      length-take-le (number_at s at 2) (drop (at + 19) s) (rw length-drop (omega (arith, end, t.size))) ∙ sym t.size

  pub short : n ≤ 512
  short =
      let a = and_true (fits s at) (formed_alone (record_at s at)) t.alone in
      let p = and_true (is_path (record_at s at).path) (ruled (record_at s at)) a.1 in
      omega (arith, path_short (record_at s at).path p.0, path_length)

  read : read_on s left at (part s from at) t.kept.seen ≡ is_listing s
  read =
      on (fits s at && formed_alone (record_at s at)) (read_on s left at (part s from at) t.kept.seen) (is_listing s)
      (opened t.kept t.more) t.alone

  module _ {b : Bool} (y : b ≡ before (part s from at) (part s (at + 19) (at + 19 + n))) where
    pub no_order : b ≡ false → false ≡ is_listing s
    no_order z =
        stop (before (part s from at) (record_at s at).path) (ordered_on s left at (part s from at) t.kept.seen) (is_listing s)
        read (rw (← path_is) (sym y ∙ z))

    pub in_order : b ≡ true → {m : ℕ} → m ≡ common (part s from at) (part s (at + 19) (at + 19 + n))
        → Ordered s f left from at n m
    in_order z e = record { read = t; order = rw (← path_is) (sym y ∙ z); shared = e ∙ rw path_is }

module _ {s : Bytes} {f : List Bool} {left from at n m : ℕ} (t : Ordered s f left from at n m) where
  abbrev p : Path
  p = part s from at

  abbrev r : ListingRecord
  r = record_at s at

  abbrev seen : Tree
  seen = t.read.kept.seen

  less : Lt p r.path
  less = before_Lt p r.path t.order

  pub longer : m < at + 19 + n - (at + 19)
  longer = omega (arith, t.shared, common_short p r.path less, path_length t.read)

  ordered : ordered_on s left at p seen ≡ is_listing s
  ordered = on (before p r.path) (ordered_on s left at p seen) (is_listing s) (read t.read) t.order

  module _ {e : List Bool} (w : Marked f e m (at + 19 + n - (at + 19)) (eqb (get_or s (at + 2) 0) 1)) where
    flags : Flagged e r.path (noted r ∷ seen)
    flags =
        let l : at + 19 + n - (at + 19) ≡ length r.path = omega (arith, path_length t.read) in
        marked f e p seen r t.read.kept.flagged less (rw (t.shared, l) at w)

    module _ {b : Bool}
        (v : (g : Path → Bool) → Agree e (part s (at + 19) (at + 19 + n)) g → b ≡ every g (ancestors (part s (at + 19) (at + 19 + n)))) where
      placed_is : b ≡ placed (noted r ∷ seen) r
      placed_is = (rw (path_is t.read) at v) (directory_at (noted r ∷ seen)) (λ k o. flags.flag k (omega arith))

      pub no_place : b ≡ false → false ≡ is_listing s
      no_place z = stop (placed (noted r ∷ seen) r) (after s left at p seen) (is_listing s) ordered (sym placed_is ∙ z)

      pub kept_on : {fewer : ℕ} → fewer ≡ left - 1 → b ≡ true → Kept s e fewer (at + 19) (at + 19 + n)
      kept_on d z = rw d (record {
        small = t.read.kept.small;
        size = w.size ∙ t.read.kept.size;
        behind = omega arith;
        inside = end t.read;
        seen = noted r ∷ seen;
        flagged = rw (path_is t.read) flags;
        rest =
            ap₂ (λ (x : ℕ) (q : Path). run s (left - 1) x q (noted r ∷ seen)) (ap (λ (x : ℕ). at + 19 + x) t.read.size) (path_is t.read)
            ∙ on (placed (noted r ∷ seen) r) (after s left at p seen) (is_listing s) ordered (sym placed_is ∙ z);
      })

pub started : (s : Bytes) (n : ℕ) → headed s ≡ true → n ≡ record_count s → Kept s (replicate 513 true) n 9 9
started s n h e = record {
  small = (bounds s h).1;
  size = length-replicate 513 true;
  behind = omega arith;
  inside = (bounds s h).0;
  seen = [];
  flagged = record { behind = λ q x. refl; flag = λ k l. only k (omega arith) };
  rest = rw e (whole s h);
}
  where
    only : (k : ℕ) → k ≡ 0 → get_or (replicate 513 true) k false ≡ directory_at [] (take k (part s 9 9))
    only k z = rw z

pub finished : {s : Bytes} {f : List Bool} {left from at : ℕ} → Kept s f left from at → left ≡ 0 → eqb at (length s) ≡ is_listing s
finished {s} {f} {left} {from} {at} k h = (rw h at k).rest
