-- How long the names of a path's children can be: never longer than listing and table together, so an output as long as
-- both always suffices. Assumes a listing and a table in form.
use mathlib.Core.Path.{◌≡◌}
use mathlib.Core.Bool.{true, not, ◌&&◌}
use mathlib.Core.List.{[], ◌∷◌}
use mathlib.Core.Option.{Option, none, some}
use Prim.Native.Nat.{ℕ, zero, suc, ◌+◌, ◌≤◌}
use native.Mathlib.Omega.{arith}
use lib.Dec.{leb}
use lib.ListN.{length, drop, length-append, length-drop}
use lib.Seq.{length-take-le}
use borrow.Author.Tests.{leb-true}
use Rattle.model.specs.Bytes.{Bytes, number_at}
use Rattle.model.specs.Path.{Path}
use Rattle.model.specs.Map.{Map, put, del}
use Rattle.model.specs.Tree.{Node, Table, Tree, view, kind_of}
use Rattle.model.specs.Listing.{record_at, record_end, record_count, filled, records_from, tree_from, tree_in}
use Rattle.model.specs.Table.{entry_bytes, encode, table_in}
use Rattle.model.specs.Outcome.{Given}
use Rattle.model.specs.Plain.{laid, visible_tree}
use Rattle.model.specs.declared.Record.{Record}
use Rattle.model.proofs.Orders.{yea, nay, test, eqb_eq, and_true, Split, split, Cmp, cmp}
use Rattle.model.proofs.Codec.{entry_length, decoded}
use Rattle.model.proofs.Listings.{checked}
use Rattle.show_names.specs.Names.{child_of, name_start, is_link, names, name_bytes, child_names}

-- what a map's paths take as names, were each shown whole: two bytes of length and the path
abbrev weight : {A : Type 0} → Map A → ℕ
weight [] = 0
weight (x ∷ xs) = 2 + length x.0 + weight xs

module _ {A : Type 0} where
  weight_put : (k : Path) (v : A) (s : Map A) → weight (put k v s) ≤ 2 + length k + weight s
  weight_put k v [] = omega arith
  weight_put k v (x ∷ xs) =
      let i = weight_put k v xs in
      elim (cmp k x.0) [
        | Cmp.lt l w ↦ rw w (omega arith)
        | Cmp.eq e w ↦ rw w (omega arith)
        | Cmp.gt l w ↦ rw w (omega arith)
      ]

  weight_del : (k : Path) (s : Map A) → weight (del k s) ≤ weight s
  weight_del k [] = omega arith
  weight_del k (x ∷ xs) =
      let i = weight_del k xs in
      elim (split k x.0) [ Split.eq e w ↦ rw w (omega arith) | Split.ne e w ↦ rw w (omega arith) ]

weight_laid : (o : Option Node) (k : Path) (s : Tree) → weight (laid o k s) ≤ 2 + length k + weight s
weight_laid none k s = let i = weight_del k s in omega arith
weight_laid (some v) k s = weight_put k v s

weight_visible : (t : Table) (l : Tree) → weight (visible_tree t l) ≤ weight t + weight l
weight_visible [] l = omega arith
weight_visible (x ∷ xs) l =
    let i = weight_visible xs l in
    let j = weight_laid (view x.1) x.0 (visible_tree xs l) in
    omega arith

-- a name is a part of its path
names_weight : (p : Path) (s : Tree) → length (name_bytes (names p s)) ≤ weight s
names_weight p [] = omega arith
names_weight p (x ∷ xs) =
    let n : Bytes = drop (name_start p) x.0 in
    let i = names_weight p xs in
    let d = length-drop (name_start p) x.0 in
    let a = length-append n (name_bytes (names p xs)) in
    elim (test (child_of p x.0 && not (is_link (kind_of (some x.1))))) [
      | yea e ↦ rw e (omega arith)
      | nay e ↦ rw e (omega arith)
    ]

-- an entry has 24 bytes and its key, and a record 19 and its path
weight_encoded : (t : Table) → weight t ≤ length (encode t)
weight_encoded [] = omega arith
weight_encoded (x ∷ xs) =
    let i = weight_encoded xs in
    let e = entry_length x.0 x.1 in
    let a = length-append (entry_bytes x.0 x.1) (encode xs) in
    omega arith

weight_listed : (s : Bytes) (n at : ℕ) → filled s n at ≡ true → at + weight (tree_from (records_from s n at)) ≤ length s
weight_listed s zero at h = let e = eqb_eq at (length s) h in omega arith
weight_listed s (suc n) at h =
    let e = and_true (leb (at + 19) (length s) && leb (record_end s at) (length s)) (filled s n (record_end s at)) h in
    let u = leb-true (record_end s at) (length s) (and_true (leb (at + 19) (length s)) (leb (record_end s at) (length s))
    e.0).1 in
    let d = length-drop (at + 19) s in
    let k : length (record_at s at).path ≡ number_at s at 2 =
    length-take-le (number_at s at 2) (drop (at + 19) s) (omega arith) in
    let i = weight_listed s n (record_end s at) e.1 in
    omega arith

pub names_bound : (listing table : Bytes) (rec : Record) (p : Path) → Given listing table rec
    → length (child_names listing table rec p) ≤ length listing + length table
names_bound listing table rec p given =
    let t = table_in table rec in
    let l = tree_in listing in
    let a = names_weight p (visible_tree t l) in
    let b = weight_visible t l in
    let c = weight_encoded t in
    let d = (decoded table rec given.table_is).fits in
    let e = weight_listed listing (record_count listing) 9 (checked listing given.listing_is).full in
    omega arith
