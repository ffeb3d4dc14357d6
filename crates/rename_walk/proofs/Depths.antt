-- How deep a walk goes: as deep as the tree or deeper is the same, and a listing is at most 32 deep.
use mathlib.Core.Path.{◌≡◌, refl}
use mathlib.Core.List.{List, [], ◌∷◌}
use mathlib.Core.Bool.{true, ◌&&◌, ◌||◌}
use mathlib.Core.Option.{Option}
use Prim.Native.Nat.{ℕ, zero, suc, ◌+◌, ◌≤◌}
use native.Mathlib.Omega.{arith}
use lib.Dec.{leb}
use lib.ListN.{length}
use borrow.Author.Tests.{leb-true}
use Rattle.model.specs.Bytes.{every}
use Rattle.model.specs.Utf8.{utf8}
use Rattle.model.specs.Path.{Path, components, component, short, is_root, is_path, child}
use Rattle.model.specs.Map.{lookup, is_none}
use Rattle.model.specs.Tree.{Table, Tree}
use Rattle.model.specs.Listing.{ListingRecord, ruled, placed, formed_record, tree_from}
use Rattle.model.specs.Rename.{Walk, visits, children, last_first, walk, depth}
use Rattle.model.proofs.Orders.{yea, nay, test, and_true}
use Rattle.model.proofs.Walks.{level, child_level}
use Rattle.rename_walk.proofs.Cuts.{each_of, each_only}
use Rattle.rename_walk.proofs.Enters.{met, all_found, enter_same}

-- at the tree's depth a directory has no children
no_children : (t : Table) (d : Path) (l : Tree) → depth l ≤ level d → children t l d ≡ []
no_children t d [] h = refl
no_children t d (x ∷ xs) h = elim (test (child d x.0)) [
  | yea e ↦ (let f = child_level d x.0 e in absurd (omega arith))
  | nay e ↦ rw e (no_children t d xs (omega arith))
]

module _ (t : Table) (l : Tree) (b : Option ℕ) where
  pub walk_deep : (n m : ℕ) (d : Path) → depth l ≤ n + level d → depth l ≤ m + level d → (w : Walk) → walk n t l b d w ≡ walk m t l b d w
  walk_deep zero zero d h k w = refl
  walk_deep zero (suc m) d h k w = rw (no_children t d l (omega arith))
  walk_deep (suc n) zero d h k w = rw (no_children t d l (omega arith))
  walk_deep (suc n) (suc m) d h k w =
      let c = children t l d in
      let P : Path → Type 0 = λ p. child d p ≡ true in
      let e = each_only (met t d) (λ q. Unit {0}) P (λ q e z. (and_true (child d q) (is_none (lookup t q)) e).0) l (each_of (λ q. Unit {0}) (λ q. tt) l) in
      enter_same (walk n t l b) (walk m t l b) P
      (λ p e v. let f = child_level d p e in walk_deep n m p (omega arith) (omega arith) v)
      (last_first c []) (all_found P c [] e tt) (visits b w c)

path_level : (p : Path) → is_path p ≡ true → level p ≤ 32
path_level p h =
    let a = and_true (short p && utf8 p) (is_root p || every component (components p)) h in
    let c = and_true (short p) (utf8 p) a.0 in
    let e = and_true (leb (length p) 512) (leb (level p) 32) c.0 in
    leb-true (level p) 32 e.1

pub listing_depth : (l : Tree) (rs : List ListingRecord) → every (formed_record l) rs ≡ true → depth (tree_from rs) ≤ 32
listing_depth l [] h = omega arith
listing_depth l (r ∷ rs) h =
    let e = and_true (formed_record l r) (every (formed_record l) rs) h in
    let f = and_true (is_path r.path && ruled r) (placed l r) e.0 in
    let g = and_true (is_path r.path) (ruled r) f.0 in
    let u = path_level r.path g.0 in
    let ih = listing_depth l rs e.1 in
    omega arith
