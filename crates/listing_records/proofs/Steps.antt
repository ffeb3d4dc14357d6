-- The steps of a walk: the prefixes of a path ascend, and nothing is listed below what is no directory.
use mathlib.Core.Path.{◌≡◌, refl, sym, ap, ◌∙◌}
use mathlib.Core.Bool.{Bool, true, false, not, ◌&&◌}
use mathlib.Core.List.{List, [], ◌∷◌}
use mathlib.Core.Option.{Option, none, some}
use Rattle.std.specs.Prelude as core
use Prim.Native.Nat.{ℕ, zero, suc, ◌+◌, ◌<◌, ◌≤◌}
use native.Mathlib.Omega.{arith}
use lib.Dec.{ltb}
use lib.ListN.{length, get_or, take, drop, drop_of_length-le}
use borrow.Author.Tests.{eq-eqb, not-true, ltb-true, ltb-false}
use Rattle.model.specs.Bytes.{Bytes, every, before}
use Rattle.model.specs.Path.{Path, is_path, ancestors, below, ends_here}
use Rattle.model.specs.Map.{lookup}
use Rattle.model.specs.Tree.{Node, dir, file, link, Tree, View, Kind, kind, kind_of, is_directory}
use Rattle.model.specs.Listing.{ListingRecord, record_at, record_end, records, ruled, tree_from, tree_in, placed, formed_record, is_listing}
use Rattle.model.proofs.Orders.{Lt, Lt_trans, Lt-≢, fronts_ascend, same_no, Split, split, mem, mem_ancestors, yea, nay, test, bot, and_true}
use Rattle.model.proofs.Maps.{ascends_is}
use Rattle.model.proofs.Formed.{every_mem}
use Rattle.base_fields.proofs.Common.{before_Lt}
use Rattle.base_paths.specs.Ancestors.{next_slash}
use Rattle.base_paths.proofs.Ancestors.{next_slash_lem}
use Rattle.listing_records.specs.Found.{found_of, found_kind, target_kind}
use Rattle.listing_records.specs.Place.{tree_at, seek_from, node_if}
use Rattle.listing_records.specs.Walk.{Walks}
use Rattle.listing_records.specs.declared.Place.{Place}
use Rattle.listing_records.specs.declared.Found.{Found}
use Rattle.listing_records.specs.declared.RealTarget.{RealTarget}
use Rattle.listing_records.specs.declared.ComponentWalk.{ComponentWalk}
use Rattle.model.proofs.Listings.{checked}
use Rattle.listing_records.proofs.Places.{seek_stands, found_first}

pub found_kind_lem : (n : Option Node) → found_kind (found_of n) ≡ kind_of n
found_kind_lem none = refl
found_kind_lem (some (dir m)) = refl
found_kind_lem (some (file m z b)) = refl
found_kind_lem (some link) = refl

-- where a component ends with a front of a path, a longer front is below it
fronts_below : (p : Path) (k j : ℕ) → ends_here (drop k p) ≡ true → k < j → j ≤ length p → below (take k p) (take j p) ≡ true
fronts_below [] k j e h l = absurd (omega arith)
fronts_below (b ∷ p) k zero e h l = absurd (omega arith)
fronts_below (b ∷ p) zero (suc j) e h l = e
fronts_below (b ∷ p) (suc k) (suc j) e h l = rw (eq-eqb b b refl) (fronts_below p k j e (omega arith) (omega arith))

-- a front is not the root
pub kind_front : (f : View) (p : Path) (k : ℕ) → 0 < k → k ≤ length p → kind f (take k p) ≡ kind_of (f (take k p))
kind_front f [] k h l = absurd (omega arith)
kind_front f (b ∷ p) zero h l = absurd (omega arith)
kind_front f (b ∷ p) (suc k) h l = refl

-- in a listing, what lies below what is no directory is not listed
none_under : (l : Tree) (rs : List ListingRecord) (q k : Path) → every (formed_record l) rs ≡ true → below q k ≡ true → is_directory (kind (lookup l) q) ≡ false
    → lookup (tree_from rs) k ≡ none
none_under l [] q k h b n = refl
none_under l (r ∷ rs) q k h b n =
    let e = and_true (formed_record l r) (every (formed_record l) rs) h in
    let f = and_true (is_path r.path && ruled r) (placed l r) e.0 in
    elim (split r.path k) [
      | Split.eq a w ↦ absurd (let m : mem q (ancestors r.path) ≡ true = mem_ancestors r.path q ∙ ap (below q) a ∙ b in
          let d : is_directory (kind (lookup l) q) ≡ true = every_mem (λ p. is_directory (kind (lookup l) p)) (ancestors r.path) q f.1 m in bot (cc))
      | Split.ne a w ↦ rw w (none_under l rs q k e.1 b n)
    ]

pub not_listed_below : (s : Bytes) (q k : Path) → is_listing s ≡ true → below q k ≡ true → is_directory (kind (lookup (tree_in s)) q) ≡ false → lookup (tree_in s) k ≡ none
not_listed_below s q k h b n = none_under (tree_in s) (records s) q k (checked s h).formed b n

-- a search for p passes nothing that a path behind p needs
passed : (s : Bytes) (p q : Path) → Lt p q → (n at : ℕ) (r : Place) → r ≡ seek_from s p n at → lookup (tree_at s n at) q ≡ lookup (tree_at s r.left r.at) q
passed s p q l zero at r e = rw e
passed s p q l (suc n) at r e = elim (test (before (record_at s at).path p)) [
  | yea z ↦ (let t = same_no (record_at s at).path q (Lt-≢ (record_at s at).path q (Lt_trans (record_at s at).path p q (before_Lt (record_at s at).path p z) l)) in
      rw t (passed s p q l n (record_end s at) r (e ∙ rw z)))
  | nay z ↦ (let f : r ≡ (record { at = at; left = suc n }) = e ∙ rw z in rw f)
]

-- where a component ends: before a slash, at the end, and where `next_ancestor` answers
pub ends_slash : (p : Path) (k : ℕ) → k < length p → get_or p k 0 ≡ 47 → ends_here (drop k p) ≡ true
ends_slash [] k h e = absurd (omega arith)
ends_slash (b ∷ p) zero h e = eq-eqb b 47 e
ends_slash (b ∷ p) (suc k) h e = ends_slash p k (omega arith) e

pub ends_whole : (p : Path) (k : ℕ) → length p ≤ k → ends_here (drop k p) ≡ true
ends_whole p k h = rw (drop_of_length-le p h)

pub ends_next : (p : Path) (i r : ℕ) → r ≡ next_slash p i → ends_here (drop r p) ≡ true
ends_next p i r e = elim (test (ltb r (length p))) [
  | yea z ↦ ends_slash p r (ltb-true r (length p) z) (next_slash_lem p i r e (ltb-true r (length p) z)).0
  | nay z ↦ ends_whole p r (ltb-false r (length p) z)
]

-- a walk that is good from k bytes on is so from more on
pub walks_on : (s : Bytes) (p : Path) (w : ComponentWalk) (k m : ℕ) → k ≤ m → Walks s p w k → Walks s p w m
walks_on s p w k m h v = record {
  stand = v.stand;
  ahead = λ j a b. v.ahead j (omega arith) b;
  gone = λ z j a b. v.gone z j (omega arith) b;
}

module _ (s : Bytes) (p : Path) (w : ComponentWalk) (k : ℕ) (v : Walks s p w k) (o : 0 < k) (l : k ≤ length p) where
  pub exhausted_kind : w.exhausted ≡ true → Kind.nothing ≡ kind (lookup (tree_in s)) (take k p)
  exhausted_kind z = sym (kind_front (lookup (tree_in s)) p k o l ∙ ap kind_of (v.gone z k (omega arith) l))

  module _ (h : is_listing s ≡ true) (e : ends_here (drop k p) ≡ true) (q : Place) (f : q ≡ seek_from s (take k p) w.left w.at) where
    here : node_if s (take k p) q.left q.at ≡ lookup (tree_in s) (take k p)
    here = found_first s (take k p) w.left w.at (ascends_is [] (tree_at s w.left w.at) v.stand.up).1 q f ∙ sym (v.ahead k (omega arith) l)

    pub step_kind_lem : (d : core.Option Found) (t : RealTarget) → d ≡ found_of (node_if s (take k p) q.left q.at) → target_kind t ≡ found_kind d
        → target_kind t ≡ kind (lookup (tree_in s)) (take k p)
    step_kind_lem d t x y = y ∙ ap found_kind x ∙ found_kind_lem (node_if s (take k p) q.left q.at) ∙ ap kind_of here ∙ sym (kind_front (lookup (tree_in s)) p k o l)

    pub step_walks : (t : RealTarget) (b : Bool) → b ≡ is_directory (target_kind t) → target_kind t ≡ kind (lookup (tree_in s)) (take k p)
        → Walks s p (record { at = q.at; left = q.left; exhausted = not b }) (k + 1)
    step_walks t b x y = record {
      stand = seek_stands s (take k p) w.left w.at v.stand q f;
      ahead = λ j a c. v.ahead j (omega arith) c ∙ passed s (take k p) (take j p) (fronts_ascend p k j (omega arith) c) w.left w.at q f;
      gone = λ z j a c. not_listed_below s (take k p) (take j p) h (fronts_below p k j e (omega arith) c) (ap is_directory (sym y) ∙ sym x ∙ not-true b z);
    }
