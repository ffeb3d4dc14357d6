-- What two streams have to come: at each step the item of the one with the smaller key, then what the streams behind it have.
use mathlib.Core.Path.{◌≡◌, refl, ap, sym, ◌∙◌}
use mathlib.Core.List.{List, [], ◌∷◌}
use mathlib.Core.Bool.{Bool, true, false, not, ◌||◌}
use mathlib.Core.Option.{none}
use Rattle.std.specs.Prelude.{Option, Some, None, MatchOption}
use Prim.Native.Nat.{ℕ, zero, suc, ◌-◌, ◌<◌}
use native.Mathlib.Omega.{arith}
use Rattle.model.specs.Bytes.{Bytes, every, before}
use Rattle.model.specs.Path.{Path, ancestors, below}
use Rattle.model.specs.Map.{is_none, lookup, ascends, puts, only, keys, mapped}
use Rattle.model.specs.Tree.{Entry, Table, Tree}
use Rattle.model.specs.Listing.{record_at, record_end, node_of}
use Rattle.model.specs.Table.{key_at, entry_at, entry_end, entries_at}
use Rattle.model.specs.Rename.{as_entry, uncovered}
use Rattle.model.proofs.Orders.{bot, and_true, yea, nay, test}
use Rattle.model.proofs.Walks.{free_is}
use Rattle.model.proofs.Maps.{Above, Ascending, above_puts, above_only, above_mapped, ascends_is, is_ascends, ascending_puts, ascending_only, ascending_mapped, lookup_only, every_only}
use Rattle.base_fields.proofs.Common.{before_Lt}
use Rattle.listing_records.specs.Place.{tree_at}
use Rattle.listing_records.specs.Place as listing
use Rattle.table_entries.specs.Place.{Standing}
use Rattle.table_entries.specs.declared.Place.{Place}
use Rattle.table_entries.proofs.Entries.{first_entry}
use Rattle.rename_uncovered.specs.Ahead.{to_come, ReadyAt, AheadAt}
use Rattle.rename_uncovered.specs.declared.Cursor.{Cursor}
use Rattle.rename_uncovered.proofs.Passes.{first_to_come}
use Rattle.rename_carried.specs.Streams.{carried_below, ahead, remaining, Streaming, Carrying, Next, item_at, Ending}
use Rattle.rename_carried.specs.declared.Stream.{Stream}
use Rattle.rename_carried.specs.declared.Head.{Head}
use Rattle.rename_carried.specs.declared.Head.TheVariants as next
use Rattle.rename_carried.proofs.Merges.{puts_first, puts_second, before_first, behind_first, carried_parts}

-- an uncovered path has no entry
no_entry_lem : (t : Table) (a q : Path) → uncovered t a q ≡ true → lookup t q ≡ none
no_entry_lem t a q h =
    free_is (lookup t q) (and_true (is_none (lookup t q)) (every (λ p. not (below a p) || is_none (lookup t p)) (ancestors q)) h).0

-- n entries from `at` on in `own`, and the uncovered ones of m records from `to` on in `part`
module _ (own part : Bytes) (t : Table) (a : Path) where
  abbrev entry : ℕ → Path × Entry
  entry at = (key_at own at, entry_at own at)

  abbrev path : ℕ → Path
  path to = (record_at part to).path

  abbrev record_entry : ℕ → Path × Entry
  record_entry to = (path to, as_entry (node_of (record_at part to)))

  abbrev listed : ℕ → ℕ → Table
  listed m to = mapped as_entry (to_come t a part m to)

  above_listed : (k : Path) (m to : ℕ) → (0 < m → before k (path to) ≡ true) → (0 < m → uncovered t a (path to) ≡ true) → Above k (listed m to)
  above_listed k zero to b u = tt
  above_listed k (suc m) to b u =
      rw (first_to_come t a part (suc m) to (omega arith) (u (omega arith))) (before_Lt k (path to) (b (omega arith)))

  -- the entry at a key that is not before q, and is not q's, is behind q
  above_entries : (q : Path) (n at : ℕ) → (0 < n → before (key_at own at) q ≡ false) → lookup (entries_at own n at) q ≡ none
      → Above q (entries_at own n at)
  above_entries q zero at b l = tt
  above_entries q (suc n) at b l = before_first q (entry at) (entries_at own n (entry_end own at)) (b (omega arith)) l

  module _ (n at m to : ℕ) (w : Standing own n at) where
    entries_up : Above [] (entries_at own n at) × Ascending (entries_at own n at)
    entries_up = ascends_is [] (entries_at own n at) w.up

    -- the two together ascend
    pub both_ascend : listing.Standing part m to → ascends [] (puts (entries_at own n at) (listed m to)) ≡ true
    both_ascend v =
        let e = entries_up in
        let l = ascends_is [] (tree_at part m to) v.up in
        is_ascends [] (puts (entries_at own n at) (listed m to))
        (above_puts [] (entries_at own n at) (listed m to) e.0 e.1
        (above_mapped as_entry [] (to_come t a part m to) (above_only (uncovered t a) [] (tree_at part m to) l.0 l.1)))
        (ascending_puts (entries_at own n at) (listed m to)
        (ascending_mapped as_entry (to_come t a part m to) (ascending_only (uncovered t a) (tree_at part m to) l.1)))

    pub entry_next : 0 < n → (0 < m → before (key_at own at) (path to) ≡ true) → (0 < m → uncovered t a (path to) ≡ true)
        → puts (entries_at own n at) (listed m to) ≡ entry at ∷ puts (entries_at own (n - 1) (entry_end own at)) (listed m to)
    entry_next h b u =
        let e = first_entry own n at h in
        let v : Ascending (entry at ∷ entries_at own (n - 1) (entry_end own at)) = rw e at entries_up.1 in
        ap (λ (x : Table). puts x (listed m to)) e
        ∙ puts_first (entry at) (entries_at own (n - 1) (entry_end own at)) (listed m to) v.0 v.1 (above_listed (key_at own at) m to b u)

    pub record_next : 0 < m → (0 < n → before (key_at own at) (path to) ≡ false) → uncovered t a (path to) ≡ true
        → ((q : Path) → lookup t q ≡ none → lookup (entries_at own n at) q ≡ none)
        → puts (entries_at own n at) (listed m to) ≡ record_entry to ∷ puts (entries_at own n at) (listed (m - 1) (record_end part to))
    record_next h b u g =
        ap (λ (x : Tree). puts (entries_at own n at) (mapped as_entry x)) (first_to_come t a part m to h u)
        ∙ puts_second (record_entry to) (entries_at own n at) (listed (m - 1) (record_end part to))
        (above_entries (path to) n at b (g (path to) (no_entry_lem t a (path to) u))) entries_up.1

  -- the entries behind the first are some of the table's too
  pub fewer_entries : (n at : ℕ) → 0 < n → ((q : Path) → lookup t q ≡ none → lookup (entries_at own n at) q ≡ none)
      → (q : Path) → lookup t q ≡ none → lookup (entries_at own (n - 1) (entry_end own at)) q ≡ none
  fewer_entries n at h g q z =
      behind_first q (entry at) (entries_at own (n - 1) (entry_end own at)) (sym (ap (λ (x : Table). lookup x q) (first_entry own n at h)) ∙ g q z)

  pub fewer_under : (n at : ℕ) → 0 < n → every (below a) (keys (entries_at own n at)) ≡ true
      → (below a (key_at own at) ≡ true) × (every (below a) (keys (entries_at own (n - 1) (entry_end own at))) ≡ true)
  fewer_under n at h u =
      let v : every (below a) (keys (entry at ∷ entries_at own (n - 1) (entry_end own at))) ≡ true = rw (first_entry own n at h) at u in
      and_true (below a (key_at own at)) (every (below a) (keys (entries_at own (n - 1) (entry_end own at)))) v

  pub nothing_next : (n at m to : ℕ) → n ≡ 0 → m ≡ 0 → puts (entries_at own n at) (listed m to) ≡ []
  nothing_next zero at zero to e f = refl
  nothing_next (suc n) at m to e f = absurd (omega arith)
  nothing_next zero at (suc m) to e f = absurd (omega arith)

cons_some : (x : Path × Entry) (xs ys : Table) → ys ≡ x ∷ xs → ys ≡ [] → ⊥
cons_some x xs ys e f = bot (cc)

-- what `head_at` tells
module _ (own part : Bytes) (s : Stream) (w : Standing own s.entries.left s.entries.at) where
  abbrev n : ℕ
  n = s.entries.left

  abbrev at : ℕ
  at = s.entries.at

  abbrev m : ℕ
  m = s.listed.left

  abbrev to : ℕ
  to = s.listed.at

  module _ (table : Bytes) (a : Path) (t : Table) (l : Tree) (f : List Bool) (c : Carrying own part table a t l f s) where
    pub step_entry : Next own part s next.Entry
        → ahead t a own part s ≡ item_at own part s next.Entry ∷ puts (entries_at own (n - 1) (entry_end own at)) (mapped as_entry (to_come t a part m to))
    step_entry h = entry_next own part t a n at m to w h.0 h.1 c.listed.here

    pub step_listed : Next own part s next.Listed
        → ahead t a own part s ≡ item_at own part s next.Listed
        ∷ puts (entries_at own n at) (mapped as_entry (to_come t a part (m - 1) (record_end part to)))
    step_listed h = record_next own part t a n at m to w h.0 h.1 (c.listed.here h.0) c.entries

    pub ending : (r : Option Head) → MatchOption r (remaining s ≡ 0) (Next own part s) → Ending (ahead t a own part s) r
    ending (Some next.Entry) h = record {
      none_left = λ e. absurd (bot (cc));
      ended = λ e. absurd (cons_some _ _ (ahead t a own part s) (step_entry h) e);
    }
    ending (Some next.Listed) h = record {
      none_left = λ e. absurd (bot (cc));
      ended = λ e. absurd (cons_some _ _ (ahead t a own part s) (step_listed h) e);
    }
    ending None h = record { none_left = λ e. nothing_next own part t a n at m to (omega arith) (omega arith); ended = λ e. refl }

  pub record Told (r : Option Head) : Type 0 where
    pub next : MatchOption r (remaining s ≡ 0) (Next own part s)
    pub ending : (table : Bytes) (a : Path) (t : Table) (l : Tree) (f : List Bool) → Carrying own part table a t l f s
        → Ending (ahead t a own part s) r
    pub up : (t : Table) (a : Path) → ascends [] (ahead t a own part s) ≡ true

  pub told : listing.Standing part m to → (r : Option Head) → MatchOption r (remaining s ≡ 0) (Next own part s) → Told r
  told v r h = record {
    next = h;
    ending = λ table a t l f c. ending table a t l f c r h;
    up = λ t a. both_ascend own part t a n at m to w v;
  }

-- what `advance` gives
pub record Went (own part table : Bytes) (a : Path) (f e : List Bool) (s : Stream) (h : Head) (r : Stream) : Type 0 where
  pub streaming : Streaming own part table a e r
  pub fewer : remaining r < remaining s
  pub carrying : (t : Table) (l : Tree) → Carrying own part table a t l f s
      → Carrying own part table a t l e r × (ahead t a own part s ≡ item_at own part s h ∷ ahead t a own part r)

module _ (own part table : Bytes) (a : Path) (f : List Bool) (s : Stream) (w : Streaming own part table a f s) where
  went_entry : Next own part s next.Entry → (p : Place) → p ≡ record { at = entry_end own s.entries.at; left = s.entries.left - 1 }
      → Standing own p.left p.at → Went own part table a f f s next.Entry (record { entries = p; listed = s.listed })
  went_entry h p e v =
      let g = h.0 in
      let d : p.left ≡ s.entries.left - 1 = ap (λ (x : Place). x.left) e in
      record {
        streaming = record {
          entries = v;
          listed = w.listed;
          under = rw e (fewer_under own part [] a s.entries.left s.entries.at g w.under).1;
        };
        fewer = omega arith;
        carrying = λ t l c. (
          record { listed = c.listed; entries = rw e (fewer_entries own part t a s.entries.left s.entries.at g c.entries) },
          step_entry own part s w.entries table a t l f c h ∙ rw e refl,
        );
      }

  -- an entry is passed
  pub went_past_entry : (h : Head) → Next own part s h → h ≡ next.Entry → (p : Place)
      → p ≡ record { at = entry_end own s.entries.at; left = s.entries.left - 1 }
      → Standing own p.left p.at → Went own part table a f f s h (record { entries = p; listed = s.listed })
  went_past_entry h n z p e v = rw z (went_entry (rw z at n) p e v)

  went_listed : Next own part s next.Listed → (g : List Bool) (k : Cursor) → ReadyAt part table a g k → k.left < s.listed.left
      → ((t : Table) (l : Tree) → AheadAt part table a t l f s.listed → AheadAt part table a t l g k
      × (to_come t a part k.left k.at ≡ to_come t a part (s.listed.left - 1) (record_end part s.listed.at)))
      → Went own part table a f g s next.Listed (record { entries = s.entries; listed = k })
  went_listed h g k v d y = record {
    streaming = record { entries = w.entries; listed = v; under = w.under };
    fewer = omega arith;
    carrying = λ t l c. let u = y t l c.listed in (
      record { listed = u.0; entries = c.entries },
      step_listed own part s w.entries table a t l f c h
          ∙ ap (λ (x : Tree). item_at own part s next.Listed ∷ puts (entries_at own s.entries.left s.entries.at) (mapped as_entry x))
          (sym u.1),
    );
  }

  -- a listed record is passed, and the covered ones behind it
  pub went_past_listed : (h : Head) → Next own part s h → h ≡ next.Listed → (g : List Bool) (k : Cursor) → ReadyAt part table a g k
      → k.left < s.listed.left
      → ((t : Table) (l : Tree) → AheadAt part table a t l f s.listed → AheadAt part table a t l g k
      × (to_come t a part k.left k.at ≡ to_come t a part (s.listed.left - 1) (record_end part s.listed.at)))
      → Went own part table a f g s h (record { entries = s.entries; listed = k })
  went_past_listed h n z g k v d y = rw z (went_listed (rw z at n) g k v d y)

-- what `first` gives
module _ (own part : Bytes) (t : Table) (a : Path) (n : ℕ) (e : entries_at own n 0 ≡ only (below a) t) where
  pub first_entries : (q : Path) → lookup t q ≡ none → lookup (entries_at own n 0) q ≡ none
  first_entries q z =
      let u = lookup_only (below a) t q in
      let v = ap (λ (x : Table). lookup x q) e in
      elim (test (below a q)) [ yea b ↦ cc | nay b ↦ cc ]

  pub first_under : every (below a) (keys (entries_at own n 0)) ≡ true
  first_under = rw e (every_only (below a) t)

  pub first_carried : (m : ℕ) (s : Stream) → s.entries ≡ record { at = 0; left = n }
      → to_come t a part s.listed.left s.listed.at ≡ to_come t a part m 0
      → (l : Tree) → ascends [] l ≡ true → tree_at part m 0 ≡ only (below a) l → ahead t a own part s ≡ carried_below t l a
  first_carried m s d f l u g =
      ap (λ (x : Place). puts (entries_at own x.left x.at) (mapped as_entry (to_come t a part s.listed.left s.listed.at))) d
      ∙ ap (λ (x : Table). puts x (mapped as_entry (to_come t a part s.listed.left s.listed.at))) e
      ∙ ap (λ (x : Tree). puts (only (below a) t) (mapped as_entry x)) (f ∙ ap (only (uncovered t a)) g)
      ∙ carried_parts t l a (ascends_is [] l u).1
