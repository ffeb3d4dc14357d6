-- The pass over the records of a part and the entries of a table, side by side, since both ascend: each record is read behind the last.
use mathlib.Core.Path.{◌≡◌, refl, ap, sym, ◌∙◌}
use mathlib.Core.List.{List, [], ◌∷◌}
use mathlib.Core.Bool.{Bool, true, false}
use mathlib.Core.Option.{Option, none, some}
use Prim.Native.Nat.{ℕ, zero, suc, ◌+◌, ◌-◌, ◌<◌, ◌≤◌}
use native.Mathlib.Omega.{arith}
use lib.Dec.{leb}
use lib.ListN.{length, take}
use borrow.Author.Tests.{leb-true}
use Rattle.model.specs.Bytes.{Bytes, every, before}
use Rattle.model.specs.Path.{Path, below}
use Rattle.model.specs.Map.{lookup, is_none, only, keys}
use Rattle.model.specs.Tree.{Entry, Table, Tree}
use Rattle.model.specs.Listing.{ListingRecord, record_at, record_end, records_from, node_of, tree_from}
use Rattle.model.specs.Table.{entries_at, table_in}
use Rattle.model.specs.Rename.{uncovered}
use Rattle.model.specs.declared.Record.{Record}
use Rattle.model.proofs.Orders.{Lt, Lt_trans, Lt-≢, same_no, same_refl, bot, and_true}
use Rattle.model.proofs.Maps.{Above, Ascending, ascends_is, is_ascends, lookup_low}
use Rattle.model.proofs.Rules.{below_length}
use Rattle.base_fields.proofs.Common.{before_Lt, Lt_before, not_before}
use Rattle.listing_records.specs.Place.{tree_at}
use Rattle.listing_records.specs.declared.Place as listing
use Rattle.listing_records.proofs.Places.{stands, first_record, climbs}
use Rattle.table_entries.specs.Place.{Sought}
use Rattle.table_entries.specs.Place as table
use Rattle.table_entries.specs.declared.Place.{Place}
use Rattle.table_entries.specs.declared.OverlayEntry.{OverlayEntry}
use Rattle.table_entries.specs.Said.{said, said_of}
use Rattle.std.specs.Prelude as code
use Rattle.table_entries.proofs.Cuts.{lookup_since}
use Rattle.rename_uncovered.specs.Cover.{Covering, Following}
use Rattle.rename_uncovered.specs.Ahead.{fitting, PartBelow, to_come, Ready, Reading, Ahead}

-- the record at a place of those left, and what is behind it
module _ (p s : Bytes) (a : Path) (f : List Bool) (m at i to : ℕ) (w : Ready p s a f m at i to) (h : 0 < m) where
  abbrev path : Path
  path = (record_at p at).path

  abbrev behind : Tree
  behind = tree_from (records_from p (m - 1) (record_end p at))

  opened : tree_at p m at ≡ (path, node_of (record_at p at)) ∷ behind
  opened = ap tree_from (first_record p m at h)

  fits : (fitting a path ≡ true) × (every (fitting a) (keys behind) ≡ true)
  fits =
      let u : every (fitting a) (keys ((path, node_of (record_at p at)) ∷ behind)) ≡ true = rw opened at w.under in
      and_true (fitting a path) (every (fitting a) (keys behind)) u

  under : below a path ≡ true
  under = (and_true (below a path) (leb (length path) 512) fits.0).0

  -- what `cover` asks
  pub bounds : (k : Path) → k ≡ path → (length a < length k) × (length k ≤ 512) × (length f ≡ 513)
  bounds k e = rw e (below_length a path under, leb-true (length path) 512 (and_true (below a path) (leb (length path) 512) fits.0).1, w.size)

  climb : Above path behind × Ascending behind
  climb = climbs p m at h w.stand

  -- the records behind, with other flags and other entries
  pub ready_behind : (e : List Bool) → length e ≡ 513 → (j o : ℕ) → table.Standing s j o → Ready p s a e (m - 1) (record_end p at) j o
  ready_behind e z j o g = record { size = z; stand = (stands p m at h w.stand).more; entries = g; under = fits.1 }

  module _ (t : Table) (l : Tree) (r : Reading p s a t l f m at i to) where
    after : Lt r.last path
    after =
        let u : Above r.last ((path, node_of (record_at p at)) ∷ behind) = rw opened at (ascends_is r.last (tree_at p m at) r.up).0 in
        u

    listed : is_none (lookup l path) ≡ false
    listed =
        let u : lookup (tree_at p m at) path ≡ some (node_of (record_at p at)) = rw opened (rw (same_refl path)) in
        ap is_none (sym (r.have path (Lt_before r.last path after)) ∙ u)

    between : (k : Path) → before r.last k ≡ true → before k path ≡ true → lookup l k ≡ none
    between k b c =
        let u : lookup ((path, node_of (record_at p at)) ∷ behind) k ≡ none
        = lookup_low k ((path, node_of (record_at p at)) ∷ behind) (before_Lt k path c) climb in
        sym (r.have k b) ∙ ap (λ (x : Tree). lookup x k) opened ∙ u

    following : Following a l r.last path
    following = record { under = under; after = Lt_before r.last path after; next = between; placed = λ k. r.placed path k listed }

    have_behind : (q : Path) → before path q ≡ true → lookup behind q ≡ lookup l q
    have_behind q b =
        let g = before_Lt path q b in
        let u : lookup ((path, node_of (record_at p at)) ∷ behind) q ≡ lookup behind q = rw (same_no path q (Lt-≢ path q g)) in
        sym (ap (λ (x : Tree). lookup x q) opened ∙ u) ∙ r.have q (Lt_before r.last q (Lt_trans r.last path q after g))

    reading_behind : (e : List Bool) → Covering t a l e path → (j o : ℕ) → Sought s path i to j o → Reading p s a t l e (m - 1) (record_end p at) j o
    reading_behind e c j o g = record {
      last = path;
      up = is_ascends path behind climb.0 climb.1;
      have = have_behind;
      ahead = λ q b. let y = before_Lt path q b in
          ap (λ (x : Table). lookup x q) g.are ∙ lookup_since path q (entries_at s i to) (not_before path q y)
          ∙ r.ahead q (Lt_before r.last q (Lt_trans r.last path q after y));
      cover = c;
      placed = r.placed;
    }

-- the search: what the places at its start say, those that it has come to say
pub record Seeking (p s : Bytes) (a : Path) (f : List Bool) (m at i to : ℕ) (e : List Bool) (n be j o : ℕ) : Type 0 where
  pub ready : Ready p s a e n be j o
  pub fewer : n ≤ m
  pub reading : (t : Table) (l : Tree) → Reading p s a t l f m at i to → Reading p s a t l e n be j o × (to_come t a p n be ≡ to_come t a p m at)

-- where it ends
pub record Arrived (p s : Bytes) (a : Path) (f : List Bool) (m at i to : ℕ) (e : List Bool) (n be j o : ℕ) : Type 0 where
  pub ready : Ready p s a e n be j o
  pub fewer : n ≤ m
  pub ahead : (t : Table) (l : Tree) → Reading p s a t l f m at i to → Ahead p s a t l e n be j o × (to_come t a p n be ≡ to_come t a p m at)

pub seek_start : (p s : Bytes) (a : Path) (f : List Bool) (m at i to : ℕ) → Ready p s a f m at i to → Seeking p s a f m at i to f m at i to
seek_start p s a f m at i to w = record { ready = w; fewer = omega arith; reading = λ t l r. (r, refl) }

pub seek_end : (p s : Bytes) (a : Path) (f : List Bool) (m at i to : ℕ) (e : List Bool) (n be j o : ℕ) → Seeking p s a f m at i to e n be j o → n ≤ 0
    → Arrived p s a f m at i to e n be j o
seek_end p s a f m at i to e n be j o w h = record {
  ready = w.ready;
  fewer = w.fewer;
  ahead = λ t l r. (record { here = λ z. absurd (omega arith); behind = λ z. absurd (omega arith) }, (w.reading t l r).1);
}

-- one record, with what the code finds: its path k, the answer x at it, the place behind that, whether there is an entry, and `cover`'s answer
module _ (p s : Bytes) (a : Path) (f₀ : List Bool) (m₀ at₀ i₀ to₀ : ℕ) (f : List Bool) (m at i to : ℕ)
    (w : Seeking p s a f₀ m₀ at₀ i₀ to₀ f m at i to) (h : 0 < m) (k : Path) (e : k ≡ (record_at p at).path)
    (x : code.Option OverlayEntry) (g : said_of s x ≡ said (lookup (entries_at s i to) k)) (j o : ℕ) (d : Sought s k i to j o)
    (y : Bool) (v : (s : Bytes) (o : Option Entry) → said_of s x ≡ said o → y ≡ is_none o)
    (f' : List Bool) (z : length f' ≡ 513) (b : Bool)
    (c : (t : Table) (a' : Path) (l : Tree) (q : Path) → Covering t a' l f q → Following a' l q k → length a ≡ length a' → y ≡ is_none (lookup t k)
    → (b ≡ uncovered t a' k) × Covering t a' l f' k) where
  abbrev here : Path
  here = (record_at p at).path

  abbrev rest : Tree
  rest = tree_from (records_from p (m - 1) (record_end p at))

  covered : (t : Table) (l : Tree) → Reading p s a t l f m at i to → (b ≡ uncovered t a here) × Covering t a l f' here
  covered t l r =
      let n : lookup (entries_at s i to) k ≡ lookup t k
      = rw e (r.ahead here (Lt_before r.last here (after p s a f m at i to w.ready h t l r))) in
      let u = c t a l r.last r.cover (rw e (following p s a f m at i to w.ready h t l r)) refl (v s (lookup (entries_at s i to) k) g ∙ ap is_none n) in
      rw e at u

  on : (t : Table) (l : Tree) → Reading p s a t l f m at i to → Reading p s a t l f' (m - 1) (record_end p at) j o
  on t l r = reading_behind p s a f m at i to w.ready h t l r f' (covered t l r).1 j o (rw e at d)

  pub seek_found : b ≡ true → Arrived p s a f₀ m₀ at₀ i₀ to₀ f' m at j o
  seek_found q = record {
    ready = record { size = z; stand = w.ready.stand; entries = d.stand; under = w.ready.under };
    fewer = w.fewer;
    ahead = λ t l r. let u = w.reading t l r in
        (record { here = λ n. sym (covered t l u.0).0 ∙ q; behind = λ n. on t l u.0 }, u.1);
  }

  passed : (t : Table) (l : Tree) → Reading p s a t l f m at i to → b ≡ false → only (uncovered t a) rest ≡ to_come t a p m at
  passed t l r q =
      let n : uncovered t a here ≡ false = sym (covered t l r).0 ∙ q in
      let u : only (uncovered t a) ((here, node_of (record_at p at)) ∷ rest) ≡ only (uncovered t a) rest = rw n in
      sym (ap (only (uncovered t a)) (opened p s a f m at i to w.ready h) ∙ u)

  pub seek_on : b ≡ false → (n : listing.Place) → n ≡ record { at = record_end p at; left = m - 1 }
      → Seeking p s a f₀ m₀ at₀ i₀ to₀ f' n.left n.at j o
  seek_on q n u =
      let l = w.fewer in
      rw u (record {
        ready = ready_behind p s a f m at i to w.ready h f' z j o d.stand;
        fewer = omega arith;
        reading = λ t l r. let v = w.reading t l r in (on t l v.0, passed t l v.0 q ∙ v.1);
      })

pub seek_less : (m to : ℕ) → 0 < m → (q : listing.Place) → q ≡ record { at = to; left = m - 1 } → q.left < m
seek_less m to h q e = let f : q.left ≡ m - 1 = ap (λ (p : listing.Place). p.left) e in omega arith

-- the places that a cursor has first and next
module _ (p s : Bytes) (a : Path) (f : List Bool) (n : ℕ) (z : length f ≡ 513) (w : PartBelow p a n) (r : Record) (q : Place)
    (e : q ≡ record { at = 0; left = r.count }) (g : table.Standing s q.left q.at) where
  pub ready_first : Ready p s a f n 0 q.left q.at
  ready_first = record { size = z; stand = w.stand; entries = g; under = w.under }

  pub reading_first : Reading p s a (table_in s r) (tree_at p n 0) f n 0 q.left q.at
  reading_first = record {
    last = [];
    up = w.stand.up;
    have = λ k b. refl;
    ahead = λ k b. ap (λ (x : Place). lookup (entries_at s x.left x.at) k) e;
    cover = record { flag = λ k l y. absurd (rootless k l y) };
    placed = w.placed;
  }
    where
      rootless : (k : ℕ) → k ≤ 0 → is_none (lookup (tree_at p n 0) (take k [])) ≡ false → ⊥
      rootless zero l y =
          let u = ascends_is [] (tree_at p n 0) w.stand.up in
          let v = lookup_low [] (tree_at p n 0) u.0 u.1 in
          bot (cc)
      rootless (suc k) l y = omega arith

module _ (p s : Bytes) (a : Path) (f : List Bool) (m at i to : ℕ) (w : Ready p s a f m at i to) (h : 0 < m)
    (n : listing.Place) (u : n ≡ record { at = record_end p at; left = m - 1 }) where
  pub ready_next : Ready p s a f n.left n.at i to
  ready_next = rw u (ready_behind p s a f m at i to w h f w.size i to w.entries)

  pub fewer_next : (k : ℕ) → k ≤ n.left → k < m
  fewer_next k l = let e = seek_less m (record_end p at) h n u in omega arith

  pub ahead_next : (e : List Bool) (k be j o : ℕ)
      → ((t : Table) (l : Tree) → Reading p s a t l f n.left n.at i to → Ahead p s a t l e k be j o × (to_come t a p k be ≡ to_come t a p n.left n.at))
      → (t : Table) (l : Tree) → Ahead p s a t l f m at i to → Ahead p s a t l e k be j o × (to_come t a p k be ≡ to_come t a p (m - 1) (record_end p at))
  ahead_next e k be j o g t l r =
      let v = g t l (rw u (r.behind h)) in
      (v.0, v.1 ∙ ap (λ (x : listing.Place). to_come t a p x.left x.at) u)

-- what a cursor has: at the end nothing, and else its record, then what the next one has
pub none_to_come : (t : Table) (a : Path) (p : Bytes) (m at : ℕ) → m ≤ 0 → to_come t a p m at ≡ []
none_to_come t a p zero at h = refl
none_to_come t a p (suc m) at h = absurd (omega arith)

pub first_to_come : (t : Table) (a : Path) (p : Bytes) (m at : ℕ) → 0 < m → uncovered t a (record_at p at).path ≡ true
    → to_come t a p m at ≡ ((record_at p at).path, node_of (record_at p at)) ∷ to_come t a p (m - 1) (record_end p at)
first_to_come t a p m at h e = ap (λ (rs : List ListingRecord). only (uncovered t a) (tree_from rs)) (first_record p m at h) ∙ rw e

-- what `listing_records::node_at` asks of the record at a cursor
pub node_there : (p s : Bytes) (a : Path) (f : List Bool) (m at i to : ℕ) → Ready p s a f m at i to → 0 < m
    → (at + 19 ≤ length p) × (length p ≤ 16777216)
node_there p s a f m at i to w h = ((stands p m at h w.stand).head, w.stand.small)
