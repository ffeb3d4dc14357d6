-- The part of a listing below a directory, as the cursor asks for it, and what is uncovered in it.
use mathlib.Core.Path.{◌≡◌, refl, ap, ◌∙◌}
use mathlib.Core.List.{List, [], ◌∷◌}
use mathlib.Core.Bool.{Bool, true, false, cond, ◌&&◌}
use mathlib.Core.Option.{none}
use Prim.Native.Nat.{ℕ, zero, suc, ◌+◌, ◌-◌, ◌≤◌}
use native.Mathlib.Omega.{arith}
use lib.Dec.{leb}
use lib.ListN.{length, drop, length-drop}
use lib.Seq.{length-take-le}
use borrow.Author.Tests.{le-leb, eqb-true}
use Rattle.model.specs.Bytes.{Bytes, every}
use Rattle.model.specs.Path.{Path, is_path, below}
use Rattle.model.specs.Map.{Map, lookup, is_none, ascends, only, keys}
use Rattle.model.specs.Tree.{Table, Tree, kind, is_directory}
use Rattle.model.specs.Listing.{ListingRecord, record_end, records, filled, ruled, placed, formed_record, tree_from, tree_in, is_listing}
use Rattle.model.specs.Rename.{uncovered}
use Rattle.model.proofs.Orders.{bot, and_true, has_none, is_some, opt, yea, nay, test}
use Rattle.model.proofs.Maps.{above_only, ascends_is, is_ascends, ascending_only, lookup_only}
use Rattle.model.proofs.Codec.{path_short}
use Rattle.base_fields.specs.Read.{part}
use Rattle.listing_records.specs.Place.{tree_at, Standing}
use Rattle.listing_records.specs.Parts.{PartOf}
use Rattle.model.proofs.Listings.{checked}
use Rattle.listing_records.proofs.Parts.{part_tree}
use Rattle.listing_records.proofs.Steps.{not_listed_below}
use Rattle.rename_uncovered.specs.Ahead.{fitting, Placed, PartBelow, to_come}

only_both : {A : Type 0} (f g : Path → Bool) (xs : Map A) → only f (only g xs) ≡ only (λ q. g q && f q) xs
only_both f g [] = refl
only_both f g (x ∷ xs) =
    let ih = only_both f g xs in
    elim (test (g x.0)) [
      | yea e ↦ elim (test (f x.0)) [ yea d ↦ rw (e, d, ih) | nay d ↦ rw (e, d, ih) ]
      | nay e ↦ rw (e, ih)
    ]

-- a listing's bytes have no more records than they are
filled_long : (s : Bytes) (n at : ℕ) → filled s n at ≡ true → at + n ≤ length s
filled_long s zero at h = let e = eqb-true at (length s) h in omega arith
filled_long s (suc n) at h =
    let x = and_true (leb (at + 19) (length s) && leb (record_end s at) (length s)) (filled s n (record_end s at)) h in
    let i = filled_long s n (record_end s at) x.1 in
    omega arith

pub few_records : (s : Bytes) (n : ℕ) → Standing s n 0 → n ≤ 16777216
few_records s n w = let l = filled_long s n 0 w.full in let m = w.small in omega arith

-- every listed path is short
short_below : (l : Tree) (d : Path) (rs : List ListingRecord) → every (formed_record l) rs ≡ true → every (fitting d) (keys (only (below d) (tree_from rs))) ≡ true
short_below l d [] h = refl
short_below l d (r ∷ rs) h =
    let e = and_true (formed_record l r) (every (formed_record l) rs) h in
    let f = and_true (is_path r.path && ruled r) (placed l r) e.0 in
    let g = and_true (is_path r.path) (ruled r) f.0 in
    let ih = short_below l d rs e.1 in
    elim (test (below d r.path)) [
      | yea z ↦ rw (z, z, le-leb (length r.path) 512 (path_short r.path g.0)) ih
      | nay z ↦ rw z ih
    ]

-- a path below another is not the root, so as a directory it is listed
listed_directory : (l : Tree) (d k : Path) → below d k ≡ true → is_directory (kind (lookup l) k) ≡ true → is_none (lookup l k) ≡ false
listed_directory l [] [] b h = absurd (bot (cc))
listed_directory l (c ∷ d) [] b h = absurd (bot (cc))
listed_directory l d (c ∷ k) b h = elim (opt (lookup l (c ∷ k))) [ has_none e ↦ absurd (bot (cc)) | is_some n e ↦ rw e ]

-- with a listed path below d every path between d and it is listed, where nothing is listed below what is no directory
placed_in : (l : Tree) (d : Path) → ((q k : Path) → below k q ≡ true → is_directory (kind (lookup l) k) ≡ false → lookup l q ≡ none)
    → Placed d (only (below d) l)
placed_in l d g q k n b c =
    let e : lookup (only (below d) l) k ≡ lookup l k = lookup_only (below d) l k ∙ rw b in
    elim (test (is_directory (kind (lookup l) k))) [
      | yea z ↦ ap is_none e ∙ listed_directory l d k b z
      | nay z ↦ absurd (gone (below d q) (lookup_only (below d) l q ∙ rw (g q k c z)))
    ]
  where
    gone : (x : Bool) → lookup (only (below d) l) q ≡ cond x none none → ⊥
    gone true y = bot (cc)
    gone false y = bot (cc)

module _ (s : Bytes) (d : Path) (h : is_listing s ≡ true) where
  placed_below : Placed d (only (below d) (tree_in s))
  placed_below = placed_in (tree_in s) d (λ q k. not_listed_below s k q h)

  module _ (from to n : ℕ) (w : PartOf s d from to n) where
    tree : tree_at (part s from to) n 0 ≡ only (below d) (tree_in s)
    tree = part_tree s d from to n w

    up_part : ascends [] (tree_at (part s from to) n 0) ≡ true
    up_part =
        let u = ascends_is [] (tree_in s) (checked s h).up in
        ap (ascends []) tree
        ∙ is_ascends [] (only (below d) (tree_in s)) (above_only (below d) [] (tree_in s) u.0 u.1) (ascending_only (below d) (tree_in s) u.1)

    small_part : length (part s from to) ≤ 16777216
    small_part =
        let a = w.start in
        let b = w.end in
        let c = (checked s h).small in
        let e = length-drop from s in
        let f : length (part s from to) ≡ to - from = length-take-le (to - from) (drop from s) (omega arith) in
        omega arith

    -- the part that `listing_records::below` finds is one that a cursor starts in
    pub part_below : PartBelow (part s from to) d n
    part_below = record {
      stand = record { small = small_part; full = w.full; up = up_part };
      under = ap (λ (x : Tree). every (fitting d) (keys x)) tree ∙ short_below (tree_in s) d (records s) (checked s h).formed;
      placed = rw tree placed_below;
    }

    -- and what is uncovered in it is what is uncovered below d in the whole listing
    pub part_uncovered : (t : Table) → to_come t d (part s from to) n 0 ≡ only (λ q. below d q && uncovered t d q) (tree_in s)
    part_uncovered t = ap (only (uncovered t d)) tree ∙ only_both (uncovered t d) (below d) (tree_in s)
