-- A merge goes on over what is next: what it shows then is what it showed before, without that.
use mathlib.Core.Path.{◌≡◌, ap, sym, subst, ◌∙◌}
use mathlib.Core.List.{[], ◌∷◌, ◌++◌}
use mathlib.Core.Bool.{true}
use Prim.Native.Nat.{ℕ, zero, suc, ◌+◌, ◌-◌, ◌<◌, ◌≤◌}
use native.Mathlib.Nat.{min-le_left}
use native.Mathlib.Omega.{arith}
use lib.ListN.{length, drop, length-take}
use Rattle.model.specs.Bytes.{Bytes, before, number_at}
use Rattle.model.specs.Path.{Path}
use Rattle.model.specs.Tree.{Entry, Node, Table, Tree}
use Rattle.model.specs.Listing.{record_at, record_end, node_of, tree_from}
use Rattle.model.specs.Table.{key_at, entry_at, entry_end, entries_at}
use Rattle.model.specs.Plain.{visible_tree}
use Rattle.model.proofs.Orders.{eqb_eq}
use Rattle.model.proofs.Maps.{Above, Ascending, ascends_is}
use Rattle.base_fields.proofs.Common.{before_Lt}
use Rattle.listing_records.specs.Place.{tree_at}
use Rattle.listing_records.specs.Place as listing
use Rattle.listing_records.specs.declared.Place as records
use Rattle.listing_records.proofs.Places.{stands, first_record, climbs}
use Rattle.table_entries.specs.Place.{Standing}
use Rattle.table_entries.specs.declared.Place.{Place}
use Rattle.table_entries.proofs.Entries.{first_entry, stands_here}
use Rattle.view_merge.specs.Merges.{ahead, remaining, passed, Merging, Next, head_path, head_node, tree_of}
use Rattle.view_merge.specs.declared.Merge.{Merge}
use Rattle.view_merge.specs.declared.Head.{Head}
use Rattle.view_merge.specs.declared.Head.TheVariants as head
use Rattle.view_merge.proofs.Trees.{entry_next, record_next, both_next}

-- n entries, or records, from `at` on are above a path that is before the first of them
above_entries : (s : Bytes) (k : Path) (n at : ℕ) → (0 < n → before k (key_at s at) ≡ true) → Above k (entries_at s n at)
above_entries s k zero at b = tt
above_entries s k (suc n) at b = before_Lt k (key_at s at) (b (omega arith))

above_records : (s : Bytes) (k : Path) (n at : ℕ) → (0 < n → before k (record_at s at).path ≡ true) → Above k (tree_at s n at)
above_records s k zero at b = tt
above_records s k (suc n) at b = before_Lt k (record_at s at).path (b (omega arith))

-- the merge behind what was next
pub record Went (own part : Bytes) (m : Merge) (h : Head) (r : Merge) : Type 0 where
  pub fewer : remaining r < remaining m
  pub merging : Merging own part r
  pub far : passed m + length (head_path own part m h) + 2 ≤ passed r
  pub shows : ahead own part m ≡ tree_of (head_path own part m h) (head_node own part m h) ++ ahead own part r

module _ (own part : Bytes) (m : Merge) (w : Merging own part m) where
  abbrev n : ℕ
  n = m.entries.left

  abbrev at : ℕ
  at = m.entries.at

  abbrev i : ℕ
  i = m.records.left

  abbrev to : ℕ
  to = m.records.at

  abbrev key : Path
  key = key_at own at

  abbrev entry : Entry
  entry = entry_at own at

  abbrev path : Path
  path = (record_at part to).path

  abbrev node : Node
  node = node_of (record_at part to)

  abbrev entries : Table
  entries = entries_at own (n - 1) (entry_end own at)

  abbrev records' : Tree
  records' = tree_at part (i - 1) (record_end part to)

  first_two : 0 < n → entries_at own n at ≡ (key, entry) ∷ entries
  first_two h = first_entry own n at h

  entries_up : 0 < n → Above key entries × Ascending entries
  entries_up h =
      let u : Ascending ((key, entry) ∷ entries) = rw (first_two h) at (ascends_is [] (entries_at own n at) w.entries.up).1 in
      u

  first_listed : 0 < i → tree_at part i to ≡ (path, node) ∷ records'
  first_listed h = ap tree_from (first_record part i to h)

  records_up : 0 < i → Above path records' × Ascending records'
  records_up h = climbs part i to h w.records

  all_records_up : Ascending (tree_at part i to)
  all_records_up = (ascends_is [] (tree_at part i to) w.records.up).1

  all_entries_up : Ascending (entries_at own n at)
  all_entries_up = (ascends_is [] (entries_at own n at) w.entries.up).1

  -- an entry is longer than its key and two bytes, and so is a record
  entry_far : 0 < n → at + to + length key + 2 ≤ entry_end own at + to
  entry_far h = let k = (stands_here own n at h w.entries).key_length in omega arith

  record_far : to + length path + 2 ≤ record_end part to
  record_far =
      let e = length-take (number_at part to 2) (drop (to + 19) part) in
      let m = min-le_left (number_at part to 2) (length (drop (to + 19) part)) in
      omega arith

  went_entry : Next own part m head.Entry → Standing own (n - 1) (entry_end own at)
      → Went own part m head.Entry (record { entries = record { at = entry_end own at; left = n - 1 }; records = m.records })
  went_entry x v =
      let g = x.0 in
      let e = entries_up g in
      record {
        fewer = omega arith;
        merging = record { entries = v; records = w.records };
        far = entry_far g;
        shows = ap (λ (t : Table). visible_tree t (tree_at part i to)) (first_two g)
            ∙ entry_next key entry node entries (tree_at part i to) e.0 e.1 (above_records part key i to x.1) all_records_up;
      }

  went_record : Next own part m head.Record → listing.Standing part (i - 1) (record_end part to)
      → Went own part m head.Record (record { entries = m.entries; records = record { at = record_end part to; left = i - 1 } })
  went_record x v =
      let g = x.0 in
      let l = records_up g in
      record {
        fewer = omega arith;
        merging = record { entries = w.entries; records = v };
        far = let x = record_far in omega arith;
        shows = ap (visible_tree (entries_at own n at)) (first_listed g)
            ∙ record_next path entry node (entries_at own n at) records' (above_entries own path n at x.1) all_entries_up l.0 l.1;
      }

  went_both : Next own part m head.Both → Standing own (n - 1) (entry_end own at) → listing.Standing part (i - 1) (record_end part to)
      → Went own part m head.Both
      (record { entries = record { at = entry_end own at; left = n - 1 }; records = record { at = record_end part to; left = i - 1 } })
  went_both x u v =
      let g = x.0 in
      let h = x.1 in
      let e = entries_up g in
      let l = records_up h in
      record {
        fewer = omega arith;
        merging = record { entries = u; records = v };
        far = let x = entry_far g in omega arith;
        shows = (λ j. visible_tree (first_two g j) (first_listed h j))
            ∙ ap (λ (k : Path). visible_tree ((key, entry) ∷ entries) ((k, node) ∷ records')) (sym x.2)
            ∙ both_next key entry node entries records' e.0 e.1 (subst (λ (k : Path). Above k records') (sym x.2) l.0) l.1;
      }

  -- as the code goes on: h was told, and the places behind it are p and q
  module _ (h : Head) (x : Next own part m h) where
    pub past_entry : h ≡ head.Entry → (p : Place) → p ≡ record { at = entry_end own at; left = n - 1 } → Standing own p.left p.at
        → Went own part m h (record { entries = p; records = m.records })
    past_entry z p e v = rw (z, e) (went_entry (rw z at x) (rw e at v))

    pub past_record : h ≡ head.Record → (q : records.Place) → q ≡ record { at = record_end part to; left = i - 1 }
        → listing.Standing part q.left q.at → Went own part m h (record { entries = m.entries; records = q })
    past_record z q e v = rw (z, e) (went_record (rw z at x) (rw e at v))

    pub past_both : h ≡ head.Both → (p : Place) → p ≡ record { at = entry_end own at; left = n - 1 } → Standing own p.left p.at
        → (q : records.Place) → q ≡ record { at = record_end part to; left = i - 1 } → listing.Standing part q.left q.at
        → Went own part m h (record { entries = p; records = q })
    past_both z p e v q f u = rw (z, e, f) (went_both (rw z at x) (rw e at v) (rw f at u))

-- both places stand within what is read
records_within : (s : Bytes) (n at : ℕ) → listing.Standing s n at → at ≤ length s
records_within s zero at w = let e = eqb_eq at (length s) w.full in omega arith
records_within s (suc n) at w = let x = (stands s (suc n) at (omega arith) w).head in omega arith

pub merge_within : (own part : Bytes) (m : Merge) → Merging own part m → (passed m ≤ length own + length part) × (passed m ≤ 33554432)
merge_within own part m w =
    let a = w.entries.within in
    let b = w.entries.small in
    let c = records_within part m.records.left m.records.at w.records in
    let d = w.records.small in
    (omega arith, omega arith)
