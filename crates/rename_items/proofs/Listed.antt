-- A listed record's node as an entry: its body.
use mathlib.Core.Path.{◌≡◌, sym, ap, ◌∙◌}
use mathlib.Core.Bool.{Bool, true, false, cond}
use mathlib.Core.List.{[]}
use Rattle.std.specs.Prelude.{Some}
use lib.Dec.{eqb}
use Rattle.model.specs.Bytes.{Bytes}
use Rattle.model.specs.Tree.{listed, dir, file, link}
use Rattle.model.specs.Listing.{ListingRecord, node_of}
use Rattle.model.specs.Table.{body_of}
use Rattle.model.specs.Rename.{as_entry}
use Rattle.model.specs.Calls.{is_file, says}
use Rattle.model.proofs.Orders.{yea, nay, test}
use Rattle.listing_records.specs.Found.{found_as, found_kind}
use Rattle.listing_records.specs.declared.Found.{Found}

-- which node a record has
data NodeOf (q : ListingRecord) : Type 0 where
  a_dir : node_of q ≡ dir q.mtime → NodeOf q
  a_file : node_of q ≡ file q.mtime q.size (listed q.path) → NodeOf q
  a_link : node_of q ≡ link → NodeOf q

node_of_lem : (q : ListingRecord) → NodeOf q
node_of_lem q = elim (test (eqb q.type 1)) [
  | yea z ↦ a_dir (rw z)
  | nay z ↦ elim (test (eqb q.type 2)) [
    | yea y ↦ a_file (rw (z, y))
    | nay y ↦ a_link (rw (z, y))
  ]
]

module _ (q : ListingRecord) where
  body_stored : cond (says is_file (found_kind (Some (found_as (node_of q))))) q.path [] ≡ body_of (as_entry (node_of q))
  body_stored = elim (node_of_lem q) [ a_dir e ↦ (rw e) | a_file e ↦ (rw e) | a_link e ↦ (rw e) ]

-- the body: a file's is its path, and nothing is there else
module _ (q : ListingRecord) (f : Found) (b : Bool) (h : f ≡ found_as (node_of q)) (e : b ≡ says is_file (found_kind (Some f))) where
  by_test : cond b q.path [] ≡ body_of (as_entry (node_of q))
  by_test =
      ap (λ (x : Bool). cond x q.path []) (e ∙ ap (λ (x : Found). says is_file (found_kind (Some x))) h) ∙ body_stored q

  pub file_body : b ≡ true → (p : Bytes) → p ≡ q.path → p ≡ body_of (as_entry (node_of q))
  file_body z p i = i ∙ ap (λ (x : Bool). cond x q.path []) (sym z) ∙ by_test

  pub no_body : b ≡ false → [] ≡ body_of (as_entry (node_of q))
  no_body z = ap (λ (x : Bool). cond x q.path []) (sym z) ∙ by_test
