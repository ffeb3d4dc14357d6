-- The search for a listed child without an entry: records and entries are passed side by side, since both ascend.
use mathlib.Core.Path.{◌≡◌, refl, ap, sym, ◌∙◌}
use mathlib.Core.List.{List, ◌∷◌}
use mathlib.Core.Bool.{Bool, true, false, ◌&&◌, ◌||◌}
use mathlib.Core.Option.{Option}
use Prim.Native.Nat.{ℕ, ◌-◌, ◌<◌}
use native.Mathlib.Omega.{arith}
use Rattle.model.specs.Bytes.{Bytes}
use Rattle.model.specs.Path.{Path, child}
use Rattle.model.specs.Map.{lookup, is_none}
use Rattle.model.specs.Tree.{Entry, Table, Tree}
use Rattle.model.specs.Listing.{ListingRecord, record_at, record_end, records_from, tree_from}
use Rattle.model.specs.Table.{entries_at}
use Rattle.model.proofs.Orders.{Lt, Lt_trans}
use Rattle.model.proofs.Maps.{Above}
use Rattle.base_fields.proofs.Common.{not_before}
use Rattle.listing_records.specs.Place.{tree_at, Standing}
use Rattle.listing_records.specs.declared.Place.{Place}
use Rattle.listing_records.proofs.Places.{first_record, climbs}
use Rattle.table_entries.specs.Place.{Sought}
use Rattle.table_entries.specs.Place as table
use Rattle.table_entries.proofs.Cuts.{lookup_since}
use Rattle.view_children.specs.Children.{listed_in}

-- of the n records of p from the start on, the m from `at` on are left, all behind the path `last`; none of those passed is such a child.
-- Of the entries t of s, the i from `to` on are left, and have all that t has behind `last`.
pub record Searching (p s : Bytes) (d : Path) (n : ℕ) (t : Table) (m at i to : ℕ) : Type 0 where
  pub stand : Standing p m at
  pub entries : table.Standing s i to
  pub last : Path
  pub up : Above last (tree_at p m at)
  pub ahead : (q : Path) → Lt last q → lookup (entries_at s i to) q ≡ lookup t q
  pub are : listed_in t d (tree_at p m at) ≡ listed_in t d (tree_at p n 0)

-- one record, whose path is k, and whether it is such a child
module _ (p s : Bytes) (d : Path) (n : ℕ) (t : Table) (m at i to : ℕ) (w : Searching p s d n t m at i to) (h : 0 < m)
    (k : Path) (e : k ≡ (record_at p at).path) where
  abbrev behind : Tree
  behind = tree_from (records_from p (m - 1) (record_end p at))

  abbrev unhidden : Bool
  unhidden = child d k && is_none (lookup (entries_at s i to) k)

  after : Lt w.last k
  after =
      let a : Above w.last (tree_from (record_at p at ∷ records_from p (m - 1) (record_end p at))) = rw (first_record p m at h) at w.up in
      rw e a

  asked : unhidden ≡ (child d (record_at p at).path && is_none (lookup t (record_at p at).path))
  asked = rw (← e) (ap (λ (o : Option Entry). child d k && is_none o) (w.ahead k after))

  opened : listed_in t d (tree_at p m at) ≡ (unhidden || listed_in t d behind)
  opened =
      ap (λ (rs : List ListingRecord). listed_in t d (tree_from rs)) (first_record p m at h)
      ∙ sym (ap (λ (b : Bool). b || listed_in t d behind) asked)

  pub search_found : child d k ≡ true → is_none (lookup (entries_at s i to) k) ≡ true → true ≡ listed_in t d (tree_at p n 0)
  search_found x y =
      let z : unhidden ≡ true = rw (x, y) in
      sym (opened ∙ ap (λ (b : Bool). b || listed_in t d behind) z) ∙ w.are

  pub search_on : (child d k && is_none (lookup (entries_at s i to) k)) ≡ false → (r : Place)
      → r ≡ record { at = record_end p at; left = m - 1 } → Standing p r.left r.at
      → (l : ℕ) → l ≡ m - 1 → (j o : ℕ) → Sought s k i to j o → Searching p s d n t l r.at j o
  search_on z r c b l q j o g =
      let f : r.left ≡ l = ap (λ (u : Place). u.left) c ∙ sym q in
      let v : tree_at p l r.at ≡ behind = rw q (ap (λ (u : Place). tree_at p (m - 1) u.at) c) in
      record {
        stand = rw f at b;
        entries = g.stand;
        last = k;
        up = rw (v, e) (climbs p m at h w.stand).0;
        ahead = λ u a.
            ap (λ (x : Table). lookup x u) g.are
            ∙ lookup_since k u (entries_at s i to) (not_before k u a)
            ∙ w.ahead u (Lt_trans w.last k u after a);
        are = ap (listed_in t d) v ∙ sym (opened ∙ ap (λ (b : Bool). b || listed_in t d behind) z) ∙ w.are;
      }

pub none_of : (x y : Bool) → y ≡ false → (x && y) ≡ false
none_of true y h = h
none_of false y h = refl

pub search_less : (m to : ℕ) → 0 < m → (q : Place) → q ≡ record { at = to; left = m - 1 } → q.left < m
search_less m to h q e = let f : q.left ≡ m - 1 = ap (λ (p : Place). p.left) e in omega arith
