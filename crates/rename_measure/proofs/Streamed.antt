-- What the streams below a have to come: how much it is, that it stands behind a, and that keys and bodies are short.
use mathlib.Core.Path.{◌≡◌, refl, ap}
use mathlib.Core.List.{List, [], ◌∷◌}
use mathlib.Core.Bool.{Bool, true}
use Prim.Native.Nat.{ℕ, ◌-◌, ◌<◌, ◌≤◌}
use native.Mathlib.Omega.{arith}
use lib.Dec.{leb, eqb}
use lib.ListN.{length}
use borrow.Author.Tests.{leb-true}
use Rattle.model.specs.Bytes.{Bytes, every, before}
use Rattle.model.specs.Path.{Path, below}
use Rattle.model.specs.Map.{Map, ascends, only, each, keys, mapped}
use Rattle.model.specs.Tree.{Entry, Table}
use Rattle.model.specs.Listing.{ListingRecord, record_at, record_end, node_of, tree_from}
use Rattle.model.specs.Table.{body_of, entries_at, key_at, entry_at}
use Rattle.model.specs.Rename.{as_entry, uncovered}
use Rattle.model.proofs.Orders.{and_true, yea, nay, test, below_Lt}
use Rattle.model.proofs.Maps.{Above, above_puts, above_mapped, ascends_is, is_ascends}
use Rattle.model.proofs.Codec.{entry_length, bounds}
use Rattle.model.proofs.Rules.{below_length}
use Rattle.listing_records.specs.Place.{tree_at}
use Rattle.listing_records.proofs.Places.{first_record}
use Rattle.table_entries.specs.Place.{Standing}
use Rattle.table_entries.proofs.Entries.{stands_here, count_is, standing_length}
use Rattle.rename_uncovered.specs.Ahead.{fitting, to_come}
use Rattle.rename_carried.specs.Streams.{ahead, remaining, Streaming, Next, item_at}
use Rattle.rename_carried.specs.declared.Stream.{Stream}
use Rattle.rename_carried.specs.declared.Head.{Head}
use Rattle.rename_carried.specs.declared.Head.TheVariants as next
use Rattle.rename_carried.proofs.Items.{entry_below, listed_below}
use Rattle.rename_carried.proofs.Steps.{both_ascend, nothing_next}

-- how many there are
pub few_entries : (s : Bytes) (n : ℕ) → Standing s n 0 → n ≤ 16777216
few_entries s n w =
    let b = (bounds 0 (entries_at s n 0) (omega arith)).0 in
    let c = count_is s n 0 in
    let l = standing_length s n 0 w in
    let m = w.small in
    omega arith

module _ {A : Type 0} where
  above_under : (a : Path) (xs : Map A) → every (below a) (keys xs) ≡ true → Above a xs
  above_under a [] h = tt
  above_under a (x ∷ xs) h = below_Lt a x.0 (and_true (below a x.0) (every (below a) (keys xs)) h).0

  under_only : (a : Path) (f : Path → Bool) (xs : Map A) → every (fitting a) (keys xs) ≡ true → every (below a) (keys (only f xs)) ≡ true
  under_only a f [] h = refl
  under_only a f (x ∷ xs) h =
      let e = and_true (fitting a x.0) (every (fitting a) (keys xs)) h in
      let b = (and_true (below a x.0) (leb (length x.0) 512) e.0).0 in
      let i = under_only a f xs e.1 in
      elim (test (f x.0)) [ yea g ↦ rw (g, b) i | nay g ↦ rw g i ]

  -- with one value at each key the keys still ascend
  pub each_ascends : (v : Entry) (k : Path) (c : Map A) → ascends k c ≡ true → ascends k (each v (keys c)) ≡ true
  each_ascends v k [] h = refl
  each_ascends v k (x ∷ xs) h =
      let e = and_true (before k x.0) (ascends x.0 xs) h in
      rw e.0 (each_ascends v x.0 xs e.1)

-- a listed node has at most its path for a body
pub node_body : (r : ListingRecord) → length r.path ≤ 512 → length (body_of (as_entry (node_of r))) ≤ 512
node_body r h =
    elim (test (eqb r.type 1)) [
      | yea e ↦ rw e (omega arith)
      | nay e ↦ elim (test (eqb r.type 2)) [ yea d ↦ rw (e, d) h | nay d ↦ rw (e, d) (omega arith) ]
    ]

module _ (own part table : Bytes) (a : Path) (f : List Bool) (s : Stream) (w : Streaming own part table a f s) where
  -- all of it stands behind a
  pub ahead_ascends : (t : Table) → ascends a (ahead t a own part s) ≡ true
  ahead_ascends t =
      let n = s.entries.left in
      let at = s.entries.at in
      let m = s.listed.left in
      let to = s.listed.at in
      let e = ascends_is [] (entries_at own n at) w.entries.up in
      let b = ascends_is [] (ahead t a own part s) (both_ascend own part t a n at m to w.entries w.listed.stand) in
      let u = above_under a (entries_at own n at) w.under in
      let v = above_mapped as_entry a (to_come t a part m to) (above_under a (to_come t a part m to) (under_only a (uncovered t a) (tree_at part m to)
      w.listed.under)) in
      is_ascends a (ahead t a own part s) (above_puts a (entries_at own n at) (mapped as_entry (to_come t a part m to)) u e.1 v) b.1

  entry_short : 0 < s.entries.left → (length (key_at own s.entries.at) ≤ 512) × (length (body_of (entry_at own s.entries.at)) ≤ 16777216)
  entry_short h =
      let at = s.entries.at in
      let st = stands_here own s.entries.left at h w.entries in
      let i = st.inside in
      let e = st.end in
      let l = entry_length (key_at own at) (entry_at own at) in
      let m = w.entries.small in
      (st.key_short, omega arith)

  record_short : 0 < s.listed.left → length (record_at part s.listed.at).path ≤ 512
  record_short h =
      let m = s.listed.left in
      let to = s.listed.at in
      let k = (record_at part to).path in
      let b = tree_at part (m - 1) (record_end part to) in
      let u : every (fitting a) (keys ((k, node_of (record_at part to)) ∷ b)) ≡ true
      = rw (ap tree_from (first_record part m to h)) at w.listed.under in
      leb-true (length k) 512 (and_true (below a k) (leb (length k) 512) (and_true (fitting a k) (every (fitting a) (keys b)) u).0).1

  -- what is next is short
  pub item_short : (h : Head) → Next own part s h → (length (item_at own part s h).0 ≤ 512) × (length (body_of (item_at own part s h).1) ≤ 16777216)
  item_short next.Entry g = entry_short g.0
  item_short next.Listed g =
      let x = record_short g.0 in
      let y = node_body (record_at part s.listed.at) x in
      (x, omega arith)

  -- and below a
  pub item_below : (h : Head) → Next own part s h → below a (item_at own part s h).0 ≡ true
  item_below next.Entry g = entry_below own part table a f s w g.0
  item_below next.Listed g = listed_below own part table a f s w g.0

  -- so it is longer than a
  pub item_longer : (h : Head) → Next own part s h → length a ≤ length (item_at own part s h).0
  item_longer h n = let l = below_length a (item_at own part s h).0 (item_below h n) in omega arith

  -- its key as the code has it
  pub key_short : (h : Head) → Next own part s h → (key : Path) → key ≡ (item_at own part s h).0 → length key ≤ 512
  key_short h n key e = let x = (item_short h n).0 in let l = ap length e in omega arith

-- nothing is to come where nothing is left
pub nothing_ahead : (own part : Bytes) (t : Table) (a : Path) (s : Stream) → remaining s ≤ 0 → ahead t a own part s ≡ []
nothing_ahead own part t a s h = nothing_next own part t a s.entries.left s.entries.at s.listed.left s.listed.at (omega arith)
    (omega arith)

-- a path that is not empty may be the first
pub first_behind : (a : Path) (v : Entry) (c : Table) → 0 < length a → ascends a c ≡ true → ascends [] ((a, v) ∷ c) ≡ true
first_behind [] v c h g = absurd (omega arith)
first_behind (x ∷ a) v c h g = g
