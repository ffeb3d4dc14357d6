-- Looks along a path: a prefix is searched for from where a shorter one was found.
use mathlib.Core.Path.{◌≡◌, ap, sym, ◌∙◌}
use mathlib.Core.List.{[], ◌∷◌}
use mathlib.Core.Bool.{true, false}
use mathlib.Core.Logic.{inl, inr}
use mathlib.Core.Option.{Option}
use Prim.Native.Nat.{ℕ, zero, suc, ◌+◌, ◌<◌, ◌≤◌}
use native.Mathlib.Omega.{arith}
use lib.ListN.{length, take}
use Rattle.std.specs.Prelude as code
use Rattle.model.specs.Bytes.{Bytes, before}
use Rattle.model.specs.Path.{Path}
use Rattle.model.specs.Map.{lookup}
use Rattle.model.specs.Tree.{Entry, Table, Node, over, shown, Kind, kind_of, kind}
use Rattle.model.specs.Listing.{tree_in, is_listing}
use Rattle.model.specs.Table.{entries_at, table_in, is_table}
use Rattle.model.specs.declared.Record.{Record}
use Rattle.model.proofs.Orders.{Lt, Cmp, cmp}
use Rattle.listing_records.specs.declared.ComponentWalk.{ComponentWalk}
use Rattle.listing_records.specs.declared.RealTarget.{RealTarget}
use Rattle.listing_records.specs.Found.{target_kind}
use Rattle.listing_records.specs.Walk.{Walks}
use Rattle.listing_records.proofs.Steps.{kind_front, walks_on}
use Rattle.listing_dir.proofs.Targets.{kind_named}
use Rattle.table_entries.specs.declared.OverlayEntry.{OverlayEntry}
use Rattle.table_entries.specs.declared.Place.{Place}
use Rattle.table_entries.specs.Place.{Standing, Sought}
use Rattle.table_entries.specs.Said.{said, said_of}
use Rattle.table_entries.proofs.Cuts.{lookup_since}
use Rattle.view_at.specs.Sight.{Sees}
use Rattle.view_at.specs.declared.Sight.{Sight}

-- a longer prefix is not before a shorter one
prefix_after : (p : Path) (k j : ℕ) → k ≤ j → before (take j p) (take k p) ≡ false
prefix_after p k j h = elim (cmp (take j p) (take k p)) [
  | Cmp.eq e w ↦ rw w
  | Cmp.gt l w ↦ rw w
  | Cmp.lt l w ↦ absurd (no p k j h l)
]
  where
    none_below : (a : Path) → Lt a [] → ⊥
    none_below [] l = l
    none_below (x ∷ a) l = l

    no : (p : Path) (k j : ℕ) → k ≤ j → Lt (take j p) (take k p) → ⊥
    no p zero j h l = none_below (take j p) l
    no p (suc k) zero h l = absurd (omega arith)
    no [] (suc k) (suc j) h l = l
    no (x ∷ p) (suc k) (suc j) h (inl l) = omega arith
    no (x ∷ p) (suc k) (suc j) h (inr l) = no p k j (omega arith) l.1

-- before anything is looked at, all is ahead
pub sees_all : (l s : Bytes) (r : Record) (g : Sight) → is_listing l ≡ true → is_table s r ≡ true → ((p : Path) → Walks l p g.walk 0)
    → Standing s g.place.left g.place.at → g.place ≡ record { at = 0; left = r.count } → (p : Path) → Sees l s r p g 0
sees_all l s r g h t w st e p = record {
  listing = h;
  table = t;
  walks = w p;
  stand = st;
  ahead = λ j a b. sym (ap (λ (q : Place). lookup (entries_at s q.left q.at) (take j p)) e);
}

pub sees_on : (l s : Bytes) (r : Record) (p : Path) (g : Sight) (k m : ℕ) → k ≤ m → Sees l s r p g k → Sees l s r p g m
sees_on l s r p g k m h v = record {
  listing = v.listing;
  table = v.table;
  walks = walks_on l p g.walk k m h v.walks;
  stand = v.stand;
  ahead = λ j a b. v.ahead j (omega arith) b;
}

-- a look at the first k bytes
module _ (l s : Bytes) (r : Record) (p : Path) (g : Sight) (k : ℕ) (v : Sees l s r p g k) (a : 0 < k) (b : k ≤ length p) (q : Place)
    (f : Sought s (take k p) g.place.left g.place.at q.left q.at) where
  pub seen_kind : (x : Kind) (e : code.Option OverlayEntry) (t : RealTarget)
      → said_of s e ≡ said (lookup (entries_at s g.place.left g.place.at) (take k p))
      → target_kind t ≡ kind (lookup (tree_in l)) (take k p)
      → ((s : Bytes) (o : Option Entry) (n : Option Node) → said_of s e ≡ said o → target_kind t ≡ kind_of n → x ≡ kind_of (over o n))
      → x ≡ kind (shown (table_in s r) (tree_in l)) (take k p)
  seen_kind x e t h i w =
      w s (lookup (table_in s r) (take k p)) (lookup (tree_in l) (take k p)) (h ∙ sym (ap said (v.ahead k (omega arith) b)))
      (i ∙ kind_front (lookup (tree_in l)) p k a b)
      ∙ sym (kind_front (shown (table_in s r) (tree_in l)) p k a b)

  pub sees_next : (w : ComponentWalk) → Walks l p w (k + 1) → Sees l s r p (record { place = q; walk = w }) (k + 1)
  sees_next w h = record {
    listing = v.listing;
    table = v.table;
    walks = h;
    stand = f.stand;
    ahead = λ j i u.
        v.ahead j (omega arith) u
        ∙ sym (lookup_since (take k p) (take j p) (entries_at s g.place.left g.place.at) (prefix_after p k j (omega arith)))
        ∙ sym (ap (λ (t : Table). lookup t (take j p)) f.are);
  }

-- a whole path, which is not the root
pub whole_kind : (l s : Bytes) (r : Record) (p : Path) → (length p ≡ 0 → ⊥) → (x : Kind) (e : code.Option OverlayEntry) (t : RealTarget)
    → said_of s e ≡ said (lookup (table_in s r) p)
    → target_kind t ≡ kind (lookup (tree_in l)) p
    → ((s : Bytes) (o : Option Entry) (n : Option Node) → said_of s e ≡ said o → target_kind t ≡ kind_of n → x ≡ kind_of (over o n))
    → x ≡ kind (shown (table_in s r) (tree_in l)) p
whole_kind l s r p h x e t f g w =
    w s (lookup (table_in s r) p) (lookup (tree_in l) p) f (g ∙ sym (kind_named (lookup (tree_in l)) p h)) ∙ kind_named (shown (table_in s r) (tree_in l)) p h
