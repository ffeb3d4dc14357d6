-- What lies below a directory has all its children: reading that part of table and listing shows what reading both shows.
use mathlib.Core.Path.{◌≡◌, refl, ap, sym, subst, ◌∙◌}
use mathlib.Core.Bool.{Bool, true, not, ◌&&◌}
use mathlib.Core.List.{List, [], ◌∷◌}
use mathlib.Core.Option.{some}
use Prim.Native.Nat.{ℕ, ◌-◌}
use native.Mathlib.Omega.{arith}
use lib.ListN.{length, drop}
use lib.Seq.{take_all}
use Rattle.model.specs.Bytes.{Bytes, every, cons_if}
use Rattle.model.specs.Path.{Path, below, child}
use Rattle.model.specs.Map.{lookup, keys, only}
use Rattle.model.specs.Tree.{Table, Tree, shown, kind_of}
use Rattle.model.specs.Listing.{record_count, tree_in}
use Rattle.model.specs.Table.{entries_at, table_in}
use Rattle.model.specs.Plain.{visible_tree}
use Rattle.model.specs.Outcome.{Given}
use Rattle.model.specs.declared.Record.{Record}
use Rattle.model.proofs.Orders.{bot, yea, nay, test}
use Rattle.model.proofs.Maps.{Ascending, ascends_is, ascending_only, every_only, lookup_only, map_ext}
use Rattle.model.proofs.Resumed.{visible_is, visible_sorted}
use Rattle.model.proofs.Rules.{child_below}
use Rattle.base_fields.specs.Read.{part}
use Rattle.listing_records.specs.Place as listing
use Rattle.listing_records.specs.Parts as listed
use Rattle.listing_records.specs.declared.Place as records
use Rattle.model.proofs.Listings.{checked}
use Rattle.listing_records.proofs.Parts.{part_tree}
use Rattle.table_entries.specs.Place as table
use Rattle.table_entries.specs.declared.Place as entries
use Rattle.table_below.specs.Parts as own
use Rattle.view_children.proofs.Sublists.{part_stands}
use Rattle.view_merge.specs.Merges.{ahead}
use Rattle.view_merge.specs.declared.Merge.{Merge}
use Rattle.show_names.specs.Names.{name_start, is_link, names}
use Rattle.show_write.specs.Sizes.{inside}
use Rattle.show_dir.specs.Spans.{SpanOf}

-- what is shown at the paths that pass a test
module _ (f : Path → Bool) (t : Table) (l : Tree) where
  shown_only : (q : Path) → shown (only f t) (only f l) q ≡ lookup (only f (visible_tree t l)) q
  shown_only q =
      let a = lookup_only f t q in
      let b = lookup_only f l q in
      let c = lookup_only f (visible_tree t l) q in
      let d = visible_is t l q in
      elim (test (f q)) [ yea e ↦ cc | nay e ↦ cc ]

  pub visible_only : Ascending l → visible_tree (only f t) (only f l) ≡ only f (visible_tree t l)
  visible_only a =
      map_ext (visible_tree (only f t) (only f l)) (only f (visible_tree t l)) (visible_sorted (only f t) (only f l) (ascending_only f l a))
      (ascending_only f (visible_tree t l) (visible_sorted t l a))
      (λ q. sym (visible_is (only f t) (only f l) q) ∙ shown_only q)

-- below a directory that is not the root lie all its children
pub names_below : (c : ℕ) (p : Path) (s : Tree) → names (c ∷ p) (only (below (c ∷ p)) s) ≡ names (c ∷ p) s
names_below c p [] = refl
names_below c p (x ∷ xs) = let ih = names_below c p xs in elim (test (below (c ∷ p) x.0)) [
  | yea e ↦ rw e (ap (cons_if (child (c ∷ p) x.0 && not (is_link (kind_of (some x.1)))) (drop (name_start (c ∷ p)) x.0)) ih)
  | nay e ↦ elim (test (child (c ∷ p) x.0)) [
    | yea f ↦ absurd (bot (cc (child_below (c ∷ p) x.0 f)))
    | nay f ↦ rw (e, f) ih
  ]
]

-- everything lies below the root
all_inside : (ks : List Path) → every (inside []) ks ≡ true
all_inside [] = refl
all_inside (k ∷ ks) = all_inside ks

module _ (l s : Bytes) (r : Record) (g : Given l s r) where
  -- the root's span
  module _ (e : entries.Place) (k : records.Place) (a : e ≡ record { at = 0; left = r.count }) (b : k ≡ record { at = 9; left = record_count l })
      (u : table.Standing s e.left e.at) (v : listing.Standing l k.left k.at) where
    abbrev both : Merge
    both = record { entries = e; records = k }

    whole : part l 0 (length l) ≡ l
    whole = take_all (length l - 0) l (omega arith)

    pub root_span : (p : Path) → length p ≡ 0 → SpanOf l s r p (record { merge = both; from = 0; to = length l })
    root_span [] h = record {
      showing = record {
        merging = record { entries = u; records = subst (λ (x : Bytes). listing.Standing x k.left k.at) (sym whole) v };
        under = all_inside (keys (ahead s (part l 0 (length l)) both));
      };
      are =
          ap (λ (x : Bytes). names [] (ahead s x both)) whole
          ∙ ap (λ (x : entries.Place). names [] (visible_tree (entries_at s x.left x.at) (listing.tree_at l k.left k.at))) a
          ∙ ap (λ (x : records.Place). names [] (visible_tree (table_in s r) (listing.tree_at l x.left x.at))) b;
    }
    root_span (c ∷ p) h = absurd (omega arith)

  -- another directory's span: n entries from `at` on, and m records in the listing's bytes from `from` up to `to`
  module _ (at end n from to m : ℕ) where
    abbrev parts : Merge
    parts = record { entries = record { at = at; left = n }; records = record { at = 0; left = m } }

    seen : (p : Path) → own.PartOf s (table_in s r) p at end n → listed.PartOf l p from to m
        → ahead s (part l from to) parts ≡ only (below p) (visible_tree (table_in s r) (tree_in l))
    seen p x y =
        ap (λ (t : Table). visible_tree t (listing.tree_at (part l from to) m 0)) x.there
        ∙ ap (visible_tree (only (below p) (table_in s r))) (part_tree l p from to m y)
        ∙ visible_only (below p) (table_in s r) (tree_in l) (ascends_is [] (tree_in l) (checked l g.listing_is).up).1

    pub part_span : (p : Path) → (length p ≡ 0 → ⊥) → own.PartOf s (table_in s r) p at end n → listed.PartOf l p from to m
        → SpanOf l s r p (record { merge = parts; from = from; to = to })
    part_span [] h x y = absurd (h refl)
    part_span (c ∷ p) h x y =
        let t = visible_tree (table_in s r) (tree_in l) in
        let e = seen (c ∷ p) x y in
        record {
          showing = record {
            merging = record { entries = x.stand_there; records = part_stands l (c ∷ p) from to m g.listing_is y };
            under = ap (λ (v : Tree). every (inside (c ∷ p)) (keys v)) e ∙ every_only (below (c ∷ p)) t;
          };
          are = ap (names (c ∷ p)) e ∙ names_below c p t;
        }
