-- Demand 3 and POSIX from any reached state on, and from any table that keeps #112's five rules over its listing: there the plain tree begins as the tree that
-- the table shows. Assumes that the listing's and the table's elements are bytes and that mtime arguments have 64 bits.
use mathlib.Core.Path.{◌≡◌, refl, ap, sym, ◌∙◌, fun_ext}
use mathlib.Core.List.{List, [], ◌∷◌}
use mathlib.Core.Bool.{true}
use mathlib.Core.Option.{Option, none, some}
use Prim.Native.Nat.{ℕ, zero, suc, ◌+◌}
use lib.Dec.{eqb}
use lib.ListN.{drop}
use Rattle.model.specs.Bytes.{Bytes, number_at}
use Rattle.model.specs.Path.{Path}
use Rattle.model.specs.Map.{lookup}
use Rattle.model.specs.Tree.{Node, Table, Tree, View, view, shown}
use Rattle.model.specs.Listing.{is_listing, tree_in}
use Rattle.model.specs.Table.{charge, body_at, entry_of, entry_end, entries_at, is_table}
use Rattle.model.specs.Outcome.{Store, Request}
use Rattle.model.specs.Plain.{laid, visible_tree}
use Rattle.model.specs.Rules.{Rules}
use Rattle.model.specs.Runs.{State, after, resume, entries_of, Word, WordedCalls, RunFrom}
use Rattle.model.proofs.Orders.{yea, nay, test, Split, split}
use Rattle.model.proofs.Maps.{upd, lookup_put, lookup_del, Ascending, ascending_put, ascending_del, ascends_is, lookup_low}
use Rattle.model.proofs.Words.{Worded, Words, IsBytes}
use Rattle.model.proofs.Codec.{decoded, charge_is}
use Rattle.model.proofs.Rules.{rules_inv, inv_rules}
use Rattle.model.proofs.Formed.{is_fine, listing_fine, bytes_drop, number_below}
use Rattle.model.proofs.Reached.{Reached, reached_after, all_do}

-- the tree that a table shows has at each path what is visible there, and ascends
lookup_laid : (o : Option Node) (k : Path) (s : Tree) (q : Path) → lookup (laid o k s) q ≡ upd (lookup s) k o q
lookup_laid none k s q = lookup_del k s q
lookup_laid (some n) k s q = lookup_put k n s q

pub visible_is : (t : Table) (l : Tree) (q : Path) → shown t l q ≡ lookup (visible_tree t l) q
visible_is [] l q = refl
visible_is (x ∷ xs) l q =
    let ih = visible_is xs l q in
    let h = lookup_laid (view x.1) x.0 (visible_tree xs l) q in
    elim (split x.0 q) [ Split.eq e w ↦ cc | Split.ne e w ↦ cc ]

pub visible_sorted : (t : Table) (l : Tree) → Ascending l → Ascending (visible_tree t l)
visible_sorted [] l a = a
visible_sorted (x ∷ xs) l a = go (view x.1) (visible_sorted xs l a)
  where
    go : (o : Option Node) → Ascending (visible_tree xs l) → Ascending (laid o x.0 (visible_tree xs l))
    go none h = ascending_del x.0 (visible_tree xs l) h
    go (some n) h = ascending_put x.0 n (visible_tree xs l) h

-- mtimes read from bytes are 64-bit numbers
worded_of : (type m z : ℕ) (b : Bytes) → Word m → Worded (entry_of type m z b)
worded_of type m z b w = elim (test (eqb type 1)) [
  | yea e ↦ rw e w
  | nay e ↦ elim (test (eqb type 2)) [
    | yea f ↦ rw (e, f) w
    | nay f ↦ elim (test (eqb type 3)) [ yea g ↦ rw (e, f, g) w | nay g ↦ rw (e, f, g) tt ]
  ]
]

pub words_read : (s : Bytes) → IsBytes s → (n at : ℕ) → Words (entries_at s n at)
words_read s b zero at = tt
words_read s b (suc n) at = (
  worded_of (number_at s (at + 2) 2) (number_at s (at + 8) 8) (number_at s (at + 16) 8) (body_at s at) (number_below 8 (drop (at + 8) s) (bytes_drop (at + 8) s b)),
  words_read s b n (entry_end s at),
)

-- the table of a reached state has the rules
pub reached_rules : (listing : Bytes) (E : ℕ) (x : State) → Reached listing E x → is_listing listing ≡ true → Rules (entries_of x.store) (tree_in listing)
reached_rules listing E x r h = inv_rules (entries_of x.store) (tree_in listing) (r.sound h).inv

module _ (listing : Bytes) (bytes : IsBytes listing) where
  -- from any reached state
  pub run_from : (E : ℕ) (x : State) → Reached listing E x → (calls : List Request) → WordedCalls calls → RunFrom listing x calls
  run_from E x start calls words =
      let end = reached_after listing E bytes calls x words start in
      let s = (after listing calls x).store in
      record {
        each = all_do listing E bytes calls x words start;
        in_the_end = record {
          well_formed = end.table;
          charge_afresh = charge_is s.table s.rec end.table
              ∙ ap (λ (e : ℕ). charge e (entries_of s)) (end.size_kept ∙ sym start.size_kept);
          same_tree = λ h p n. ap (λ (f : View). f p) (end.sound h).tree;
        };
      }

  -- a table in form that keeps the rules over its listing is such a state, with the tree that it shows
  pub reached_resume : (s : Store) → IsBytes s.table → is_table s.table s.rec ≡ true
      → (is_listing listing ≡ true → Rules (entries_of s) (tree_in listing)) → Reached listing s.rec.entry_size (resume listing s)
  reached_resume s b h r =
      let d = decoded s.table s.rec h in
      let t : Table = entries_of s in
      let o = ascends_is [] t d.ascending in
      record {
        table = h;
        size_kept = refl;
        fine = is_fine t d.ascending d.formed (words_read s.table b s.rec.count 0);
        sound = λ z. let l = listing_fine listing bytes z in record {
          inv = rules_inv t (tree_in listing) l.closed (r z) (lookup_low [] t o.0 o.1);
          tree = fun_ext (visible_is t (tree_in listing));
          sorted = visible_sorted t (tree_in listing) l.sorted;
        };
      }

  module _ (s : Store) (b : IsBytes s.table) (h : is_table s.table s.rec ≡ true)
      (r : is_listing listing ≡ true → Rules (entries_of s) (tree_in listing)) (calls : List Request) (words : WordedCalls calls) where
    -- #112: "Runs from a table that passes, over that listing"
    pub runs_from_rules : RunFrom listing (resume listing s) calls
    runs_from_rules = run_from s.rec.entry_size (resume listing s) (reached_resume s b h r) calls words

    -- and the table that they leave passes again
    pub rules_after : is_listing listing ≡ true → Rules (entries_of (after listing calls (resume listing s)).store) (tree_in listing)
    rules_after = reached_rules listing s.rec.entry_size (after listing calls (resume listing s))
        (reached_after listing s.rec.entry_size bytes calls (resume listing s) words (reached_resume s b h r))
