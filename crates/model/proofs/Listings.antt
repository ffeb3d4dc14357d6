-- What it says that bytes are a listing, and that a record of one is in form: the rules, one by one.
use mathlib.Core.Path.{◌≡◌}
use mathlib.Core.Bool.{true, ◌&&◌}
use mathlib.Core.List.{[], ◌∷◌}
use Prim.Native.Nat.{◌≤◌}
use lib.Dec.{leb, eqb}
use lib.ListN.{length, take}
use borrow.Author.Tests.{leb-true}
use Rattle.model.specs.Bytes.{Bytes, every, number_at, same}
use Rattle.model.specs.Path.{is_path}
use Rattle.model.specs.Map.{ascends}
use Rattle.model.specs.Tree.{Tree}
use Rattle.model.specs.Listing.{ListingRecord, record_count, filled, records, headed, ruled, tree_in, placed, formed_record, is_listing}
use Rattle.model.proofs.Orders.{and_true}

-- of a listing
pub record Checked (s : Bytes) : Type 0 where
  pub long : 9 ≤ length s
  pub small : length s ≤ 16777216
  pub full : filled s (record_count s) 9 ≡ true
  pub up : ascends [] (tree_in s) ≡ true
  pub formed : every (formed_record (tree_in s)) (records s) ≡ true

pub checked : (s : Bytes) → is_listing s ≡ true → Checked s
checked s h =
    let l = tree_in s in
    let a = and_true (headed s && filled s (record_count s) 9 && ascends [] l) (every (formed_record l) (records s)) h in
    let b = and_true (headed s && filled s (record_count s) 9) (ascends [] l) a.0 in
    let c = and_true (headed s) (filled s (record_count s) 9) b.0 in
    let mark = same (take 3 s) (82 ∷ 68 ∷ 76 ∷ []) in
    let d = and_true (leb 9 (length s) && leb (length s) 16777216 && mark) (eqb (number_at s 3 2) 1) c.0 in
    let e = and_true (leb 9 (length s) && leb (length s) 16777216) mark d.0 in
    let f = and_true (leb 9 (length s)) (leb (length s) 16777216) e.0 in
    record {
      long = leb-true 9 (length s) f.0;
      small = leb-true (length s) 16777216 f.1;
      full = c.1;
      up = b.1;
      formed = a.1;
    }

-- of a record over the tree of its listing
pub record Parts (l : Tree) (r : ListingRecord) : Type 0 where
  pub path_is : is_path r.path ≡ true
  pub rules_are : ruled r ≡ true
  pub placed_is : placed l r ≡ true

pub parts : (l : Tree) (r : ListingRecord) → formed_record l r ≡ true → Parts l r
parts l r h =
    let e = and_true (is_path r.path && ruled r) (placed l r) h in
    let f = and_true (is_path r.path) (ruled r) e.0 in
    record { path_is = f.0; rules_are = f.1; placed_is = e.1 }
