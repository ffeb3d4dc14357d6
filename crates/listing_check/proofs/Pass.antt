-- The rules in one pass: each record by itself, by the path before it, and by the records seen. They are those of `is_listing`.
use mathlib.Core.Path.{◌≡◌, refl, sym, ap, ap₂, ◌∙◌}
use mathlib.Core.Bool.{Bool, true, false, ◌&&◌, and-true}
use mathlib.Core.List.{List, [], ◌∷◌}
use mathlib.Core.Option.{Option, none}
use Prim.Native.Nat.{ℕ, zero, suc, ◌+◌}
use lib.Dec.{leb, eqb}
use lib.ListN.{length}
use Rattle.model.specs.Bytes.{Bytes, every, before}
use Rattle.model.specs.Path.{Path, is_path, ancestors}
use Rattle.model.specs.Map.{lookup, ascends}
use Rattle.model.specs.Tree.{Node, Tree, kind, is_directory}
use Rattle.model.specs.Listing.{ListingRecord, record_at, record_end, record_count, filled, records_from, headed, ruled, node_of}
use Rattle.model.specs.Listing.{tree_from, tree_in, placed, formed_record, is_listing}
use Rattle.model.proofs.Orders.{Lt, Lt_trans, Lt-≢, same_no, same_refl, Split, split, has_none, is_some, opt}
use Rattle.model.proofs.Orders.{mem, mem_ancestors, below_Lt}
use Rattle.model.proofs.Maps.{above_trans, lookup_low, or_else, ascends_is}
use Rattle.base_fields.proofs.Common.{before_Lt}
use Rattle.listing_check.specs.Turn.{fits, formed_alone}

-- whether a tree has a directory at q; what a record adds to the tree
abbrev pub directory_at : Tree → Path → Bool
directory_at l q = is_directory (kind (lookup l) q)

abbrev pub noted : ListingRecord → Path × Node
noted r = (r.path, node_of r)

-- n records from `at` up to the end of s, after the path p, where `seen` holds what was read, the last first
abbrev pub run : Bytes → ℕ → ℕ → Path → Tree → Bool
run s zero at p seen = eqb at (length s)
run s (suc n) at p seen =
    fits s at && formed_alone (record_at s at)
    && (before p (record_at s at).path
    && (placed (noted (record_at s at) ∷ seen) (record_at s at)
    && run s n (record_end s at) (record_at s at).path (noted (record_at s at) ∷ seen)))

-- nothing behind p was seen
abbrev pub Behind : Path → Tree → Type 0
Behind p seen = (q : Path) → Lt p q → lookup seen q ≡ none

-- a turn's tests, in the order of the pass and in that of the definition
sorted : (h e k r o a f v x y n : Bool) → (o ≡ true → n ≡ (f && a && v)) → (o ≡ true → a ≡ true → x ≡ y)
    → (h && e && (k && r) && (o && (x && n))) ≡ (h && e && f && (o && a) && (k && r && y && v))
sorted false e k r o a f v x y n c d = refl
sorted true false k r o a f v x y n c d = refl
sorted true true false r false a false v x y n c d = refl
sorted true true false r false a true v x y n c d = refl
sorted true true false r true a false v x y n c d = refl
sorted true true false r true false true v x y n c d = refl
sorted true true false r true true true v x y n c d = refl
sorted true true true false false a false v x y n c d = refl
sorted true true true false false a true v x y n c d = refl
sorted true true true false true a false v x y n c d = refl
sorted true true true false true false true v x y n c d = refl
sorted true true true false true true true v x y n c d = refl
sorted true true true true false a false v x y n c d = refl
sorted true true true true false a true v x y n c d = refl
sorted true true true true true a false v true y n c d = c refl
sorted true true true true true a false v false y n c d = refl
sorted true true true true true false true v true y n c d = c refl
sorted true true true true true false true v false y n c d = refl
sorted true true true true true true true v x y n c d = ap₂ ◌&&◌ (d refl refl) (c refl)

or_none : {A : Type 0} (a : Option A) → or_else a none ≡ a
or_none a = elim (opt a) [ has_none e ↦ cc | is_some b e ↦ cc ]

-- tests that agree on a list's elements
every_same : (f g : Path → Bool) (qs : List Path) → ((q : Path) → mem q qs ≡ true → f q ≡ g q) → every f qs ≡ every g qs
every_same f g [] h = refl
every_same f g (k ∷ qs) h =
    ap₂ ◌&&◌ (h k (cc (same_refl k))) (every_same f g qs (λ q m. h q (elim (split k q) [ Split.eq e w ↦ cc | Split.ne e w ↦ cc ])))

pub directory_same : (l m : Tree) (q : Path) → lookup l q ≡ lookup m q → directory_at l q ≡ directory_at m q
directory_same l m [] h = refl
directory_same l m (c ∷ q) h = rw h

module _ (p : Path) (seen : Tree) (w : Behind p seen) (r : ListingRecord) (o : Lt p r.path) where
  pub behind_more : Behind r.path (noted r ∷ seen)
  behind_more q l = cc (same_no r.path q (Lt-≢ r.path q l), w q (Lt_trans p r.path q o l))

  module _ (all : Tree) (rs : List ListingRecord) (k : (q : Path) → lookup all q ≡ or_else (lookup seen q) (lookup (tree_from (r ∷ rs)) q)) where
    parts_more : (q : Path) → lookup all q ≡ or_else (lookup (noted r ∷ seen) q) (lookup (tree_from rs) q)
    parts_more q = elim (split r.path q) [ Split.eq e t ↦ cc (k q, w r.path o) | Split.ne e t ↦ cc (k q) ]

    -- what is before the record's path is not listed behind it
    early : ascends r.path (tree_from rs) ≡ true → placed (noted r ∷ seen) r ≡ placed all r
    early a =
        let u = ascends_is r.path (tree_from rs) a in
        every_same (directory_at (noted r ∷ seen)) (directory_at all) (ancestors r.path) (λ q m.
        let l : Lt q r.path = below_Lt q r.path (sym (mem_ancestors r.path q) ∙ m) in
        let z : lookup (tree_from rs) q ≡ none = lookup_low q (tree_from rs) (above_trans q r.path (tree_from rs) l u.0) u.1 in
        directory_same (noted r ∷ seen) all q (sym (parts_more q ∙ ap (or_else (lookup (noted r ∷ seen) q)) z ∙ or_none (lookup (noted r ∷ seen) q))))

pass : (all : Tree) (s : Bytes) (n at : ℕ) (p : Path) (seen : Tree) → Behind p seen
    → ((q : Path) → lookup all q ≡ or_else (lookup seen q) (lookup (tree_from (records_from s n at)) q))
    → run s n at p seen ≡ (filled s n at && ascends p (tree_from (records_from s n at)) && every (formed_record all) (records_from s n at))
pass all s zero at p seen w k = sym (and-true (eqb at (length s) && true) ∙ and-true (eqb at (length s)))
pass all s (suc n) at p seen w k =
    let r : ListingRecord = record_at s at in
    let rs : List ListingRecord = records_from s n (record_end s at) in
    sorted (leb (at + 19) (length s)) (leb (record_end s at) (length s)) (is_path r.path) (ruled r)
    (before p r.path) (ascends r.path (tree_from rs)) (filled s n (record_end s at)) (every (formed_record all) rs)
    (placed (noted r ∷ seen) r) (placed all r) (run s n (record_end s at) r.path (noted r ∷ seen))
    (λ o. let l = before_Lt p r.path o in
    pass all s n (record_end s at) r.path (noted r ∷ seen) (behind_more p seen w r l) (parts_more p seen w r l all rs k))
    (λ o a. early p seen w r (before_Lt p r.path o) all rs k a)

pub whole : (s : Bytes) → headed s ≡ true → run s (record_count s) 9 [] [] ≡ is_listing s
whole s h = pass (tree_in s) s (record_count s) 9 [] [] (λ q l. refl) (λ q. refl) ∙ rw h

pub unheaded : (s : Bytes) → headed s ≡ false → false ≡ is_listing s
unheaded s h = rw h
