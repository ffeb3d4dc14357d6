-- What stands at the source: it is small, and the checks before the move give what `projected_move` asks for.
use mathlib.Core.Path.{◌≡◌, ap, ap₂, sym, ◌∙◌}
use mathlib.Core.List.{List, [], ◌∷◌}
use mathlib.Core.Bool.{Bool, true, false, ◌&&◌}
use mathlib.Core.Option.{Option, none, some}
use Prim.Native.Nat.{ℕ, ◌≤◌}
use native.Mathlib.Omega.{arith}
use lib.ListN.{length}
use Rattle.model.specs.Bytes.{Bytes, every}
use Rattle.model.specs.Path.{Path, is_path}
use Rattle.model.specs.Map.{lookup, puts, only, mapped}
use Rattle.model.specs.Tree.{Node, Entry, Table, Tree, shown, a_directory, a_file, kind}
use Rattle.model.specs.Listing.{ListingRecord, records, ruled, placed, formed_record, node_of, tree_from, tree_in, is_listing}
use Rattle.model.specs.Table.{body_of, encode, table_in, is_table}
use Rattle.model.specs.Rename.{as_entry, uncovered}
use Rattle.model.specs.declared.Record.{Record}
use Rattle.model.proofs.Orders.{bot, and_true, Split, split, has_none, is_some, opt}
use Rattle.model.proofs.Maps.{or_else, map_o}
use Rattle.model.proofs.Codec.{decoded, path_short}
use Rattle.model.proofs.Invariant.{kind_at}
use Rattle.model.proofs.Listings.{checked}
use Rattle.table_measure.proofs.Passes.{bytes_cons}
use Rattle.rename_laws.proofs.Moves.{loose_top, found_top}
use Rattle.rename_measure.specs.Tallies.{Source}
use Rattle.rename_measure.proofs.Streamed.{node_body}

some_is : (x y : Entry) → some x ≡ some y → x ≡ y
some_is x y h = cc

none_is : (o : Option Entry) (e : Entry) → o ≡ none → o ≡ some e → ⊥
none_is o e n h = bot (cc)

-- a body is a part of its table's bytes
entry_within : (t : Table) (k : Path) (e : Entry) → lookup t k ≡ some e → length (body_of e) ≤ length (encode t)
entry_within [] k e h = absurd (bot (cc))
entry_within (x ∷ xs) k e h =
    let b = bytes_cons 0 x.0 x.1 xs in
    elim (split x.0 k) [
      | Split.eq d w ↦
          let y : x.1 ≡ e = cc in
          let l = ap (λ (v : Entry). length (body_of v)) y in
          omega arith
      | Split.ne d w ↦
          let i = entry_within xs k e (cc) in
          omega arith
    ]

record_within : (l : Tree) (rs : List ListingRecord) (k : Path) (n : Node) → every (formed_record l) rs ≡ true → lookup (tree_from rs) k ≡ some n
    → length (body_of (as_entry n)) ≤ 512
record_within l [] k n h g = absurd (bot (cc))
record_within l (r ∷ rs) k n h g =
    let e = and_true (formed_record l r) (every (formed_record l) rs) h in
    let y = and_true (is_path r.path && ruled r) (placed l r) e.0 in
    let p = node_body r (path_short r.path (and_true (is_path r.path) (ruled r) y.0).0) in
    elim (split r.path k) [
      | Split.eq d w ↦
          let z : node_of r ≡ n = cc in
          let q = ap (λ (v : Node). length (body_of (as_entry v))) z in
          omega arith
      | Split.ne d w ↦ record_within l rs k n e.1 (cc)
    ]

-- so the entry at the source has a small body
pub top_small : (s g : Bytes) (r : Record) → is_table s r ≡ true → is_listing g ≡ true → (a : Path) (e : Entry)
    → lookup (puts (table_in s r) (mapped as_entry (only (uncovered (table_in s r) a) (tree_in g)))) a ≡ some e → length (body_of e) ≤ 16777216
top_small s g r h i a e f =
    let d = decoded s r h in
    let z = d.length_most in
    let fit = d.fits in
    let o = loose_top (table_in s r) (tree_in g) a in
    elim (opt (lookup (table_in s r) a)) [
      | is_some x n ↦
          let w = entry_within (table_in s r) a e (cc) in
          omega arith
      | has_none n ↦ elim (opt (lookup (tree_in g) a)) [
        | has_none m ↦
            absurd (none_is _ e (o ∙ ap₂ (λ (u : Option Entry) (v : Option Node). or_else u (map_o as_entry v)) n m) f)
        | is_some x m ↦
            let there : lookup (puts (table_in s r) (mapped as_entry (only (uncovered (table_in s r) a) (tree_in g)))) a ≡ some (as_entry x) =
            o ∙ ap₂ (λ (u : Option Entry) (v : Option Node). or_else u (map_o as_entry v)) n m in
            let y = some_is (as_entry x) e (sym there ∙ f) in
            let q = ap (λ (v : Entry). length (body_of v)) y in
            let w = record_within (tree_in g) (records g) a x (checked g i).formed m in
            omega arith
      ]
    ]

pub length_small : (s g : Bytes) (r : Record) → is_table s r ≡ true → is_listing g ≡ true → (a : Path) (w : Bool) (x : Source (table_in s r)
    (tree_in g) a w)
    → (n : ℕ)
    → ((e : Entry) → lookup (puts (table_in s r) (mapped as_entry (only (uncovered (table_in s r) a) (tree_in g)))) a ≡ some e → length (body_of e) ≡ n)
    → n ≤ 16777216
length_small s g r h i a w x n l =
    let b = top_small s g r h i a x.entry x.top in
    let c = l x.entry x.top in
    omega arith

-- where a directory or a file is shown, there is such a source
pub source_directory : (t : Table) (l : Tree) (a : Path) → (a ≡ [] → ⊥) → kind (shown t l) a ≡ a_directory → Source t l a true
source_directory t l a r k = elim (opt (shown t l a)) [
  | is_some n e ↦ let y = found_top t l a n e in record { entry = y.0; top = loose_top t l a ∙ y.1; is = k }
  | has_none e ↦ absurd (bot (cc (kind_at (shown t l) a none e r)))
]

pub source_file : (t : Table) (l : Tree) (a : Path) → (a ≡ [] → ⊥) → kind (shown t l) a ≡ a_file → Source t l a false
source_file t l a r k = elim (opt (shown t l a)) [
  | is_some n e ↦ let y = found_top t l a n e in record { entry = y.0; top = loose_top t l a ∙ y.1; is = k }
  | has_none e ↦ absurd (bot (cc (kind_at (shown t l) a none e r)))
]
