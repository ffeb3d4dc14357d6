-- The item that is told to be next: what its readers ask, and what they answer.
use mathlib.Core.Path.{◌≡◌, ap, ◌∙◌}
use Prim.Native.Nat.{◌+◌, ◌≤◌}
use lib.ListN.{length}
use Rattle.model.specs.Bytes.{Bytes}
use Rattle.model.specs.Path.{Path}
use Rattle.model.specs.Tree.{Entry}
use Rattle.model.specs.Listing.{ListingRecord, record_at, node_of}
use Rattle.model.specs.Table.{type_of, mtime_of, size_of, body_of, key_at, entry_at}
use Rattle.model.specs.Rename.{as_entry}
use Rattle.listing_records.specs.Place.{Standing}
use Rattle.listing_records.proofs.Places.{stands}
use Rattle.table_entries.specs.declared.Fields.{Fields}
use Rattle.rename_carried.specs.Streams.{Next, item_at}
use Rattle.rename_carried.specs.declared.Stream.{Stream}
use Rattle.rename_carried.specs.declared.Head.{Head}
use Rattle.rename_carried.specs.declared.Head.TheVariants as next
use Rattle.rename_carried.proofs.Items.{listed_there}

-- the fields are an entry's
abbrev pub Fits : Fields → Entry → Type 0
Fits f e = (f.kind ≡ type_of e) × ((f.mtime ≡ mtime_of e) × (f.size ≡ size_of e))

module _ (own part : Bytes) (s : Stream) (h : Head) where
  -- what `listing_records::node_at` asks
  pub node_there : Standing part s.listed.left s.listed.at → Next own part s h → h ≡ next.Listed
      → (s.listed.at + 19 ≤ length part) × (length part ≤ 16777216)
  node_there w n z = ((stands part s.listed.left s.listed.at (listed_there own part s h n z) w).head, w.small)

  -- the key, the fields and the body of the entry that is the item
  module _ (z : h ≡ next.Entry) where
    of_entry : (key_at own s.entries.at, entry_at own s.entries.at) ≡ item_at own part s h
    of_entry = rw z

    pub entry_key : (k : Path) → k ≡ key_at own s.entries.at → k ≡ (item_at own part s h).0
    entry_key k e = e ∙ ap (λ (x : Path × Entry). x.0) of_entry

    pub entry_fields : (f : Fields) → (f.kind ≡ type_of (entry_at own s.entries.at)) → (f.mtime ≡ mtime_of (entry_at own s.entries.at))
        → (f.size ≡ size_of (entry_at own s.entries.at)) → Fits f (item_at own part s h).1
    entry_fields f i j k = rw z (i, (j, k))

    pub entry_body : (b : Bytes) → b ≡ body_of (entry_at own s.entries.at) → b ≡ body_of (item_at own part s h).1
    entry_body b e = e ∙ ap (λ (x : Path × Entry). body_of x.1) of_entry

  -- of the record that is the item
  module _ (z : h ≡ next.Listed) where
    abbrev q : ListingRecord
    q = record_at part s.listed.at

    of_listed : (q.path, as_entry (node_of q)) ≡ item_at own part s h
    of_listed = rw z

    pub listed_key : (k : Path) → k ≡ q.path → k ≡ (item_at own part s h).0
    listed_key k e = e ∙ ap (λ (x : Path × Entry). x.0) of_listed

    pub listed_fields : (f : Fields) → (f.kind ≡ type_of (as_entry (node_of q))) × (f.mtime ≡ mtime_of (as_entry (node_of q)))
        × (f.size ≡ size_of (as_entry (node_of q))) → Fits f (item_at own part s h).1
    listed_fields f e = rw z (e.0, (e.1, e.2))

    pub listed_body : (b : Bytes) → b ≡ body_of (as_entry (node_of q)) → b ≡ body_of (item_at own part s h).1
    listed_body b e = e ∙ ap (λ (x : Path × Entry). body_of x.1) of_listed
