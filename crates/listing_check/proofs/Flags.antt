-- The flags of the one pass: at k, whether the first k bytes of the path just read are listed as a directory.
use mathlib.Core.Path.{◌≡◌, refl, sym, ap, ◌∙◌}
use mathlib.Core.Bool.{Bool, false}
use mathlib.Core.List.{List, [], ◌∷◌}
use mathlib.Core.Option.{none}
use Prim.Native.Nat.{ℕ, ◌<◌, ◌≤◌}
use native.Mathlib.Omega.{arith}
use lib.Dec.{ltb, leb, eqb}
use lib.ListN.{length, get_or, take}
use lib.Seq.{take-length}
use borrow.Author.Tests.{ltb-true, ltb-false, leb-true, leb-false}
use Rattle.model.specs.Path.{Path}
use Rattle.model.specs.Map.{lookup}
use Rattle.model.specs.Tree.{Tree}
use Rattle.model.specs.Listing.{ListingRecord}
use Rattle.model.proofs.Orders.{Lt, Lt-≢, same_no, same_refl, yea, nay, Tested, test}
use Rattle.base_fields.specs.Read.{common}
use Rattle.base_fields.proofs.Common.{common_first, take_common, Lt-take, Lt_front}
use Rattle.listing_check.specs.Turn.{Marked}
use Rattle.listing_check.proofs.Pass.{directory_at, noted, Behind, behind_more, directory_same}

-- seen: what was read up to the path p
pub record Flagged (f : List Bool) (p : Path) (seen : Tree) : Type 0 where
  pub behind : Behind p seen
  pub flag : (k : ℕ) → k ≤ length p → get_or f k false ≡ directory_at seen (take k p)

not_there : (p q : Path) (l : Tree) → Lt p q → lookup l q ≡ none → directory_at l q ≡ false
not_there [] [] l h e = absurd h
not_there (b ∷ p) [] l h e = absurd h
not_there p (c ∷ q) l h e = rw e

-- a record itself, whose path is not empty
its_own : (p : Path) (r : ListingRecord) (l : Tree) → Lt p r.path → directory_at (noted r ∷ l) r.path ≡ eqb r.type 1
its_own p r l h = named r.path refl
  where
    named : (q : Path) → r.path ≡ q → directory_at (noted r ∷ l) q ≡ eqb r.type 1
    named [] e = absurd (nothing p (rw e at h))
      where
        nothing : (p : Path) → Lt p [] → ⊥
        nothing [] h = h
        nothing (b ∷ p) h = h
    named (c ∷ q) e = elim (test (eqb r.type 1)) [
      | yea t ↦ cc (same_refl (c ∷ q))
      | nay t ↦ elim (test (eqb r.type 2)) [ yea u ↦ cc (same_refl (c ∷ q)) | nay u ↦ cc (same_refl (c ∷ q)) ]
    ]

module _ (f e : List Bool) (p : Path) (seen : Tree) (r : ListingRecord) (w : Flagged f p seen) (o : Lt p r.path)
    (m : Marked f e (common p r.path) (length r.path) (eqb r.type 1)) where
  -- a proper front is listed where it was
  front : (k : ℕ) → k < length r.path → directory_at (noted r ∷ seen) (take k r.path) ≡ directory_at seen (take k r.path)
  front k h =
      let q : Path = take k r.path in
      directory_same (noted r ∷ seen) seen q (cc (same_no r.path q (λ z. Lt-≢ q r.path (Lt-take r.path k h) (sym z))))

  flagged : (k : ℕ) → k ≤ length r.path → Tested (leb k (common p r.path)) → Tested (ltb k (length r.path))
      → get_or e k false ≡ directory_at (noted r ∷ seen) (take k r.path)
  flagged k h (yea a) (yea b) =
      let c = leb-true k (common p r.path) a in
      m.stay k c
      ∙ w.flag k (omega (arith, common_first p r.path))
      ∙ ap (directory_at seen) (take_common p r.path k c)
      ∙ sym (front k (ltb-true k (length r.path) b))
  flagged k h (nay a) (yea b) =
      let c = leb-false k (common p r.path) a in
      let d = ltb-true k (length r.path) b in
      let l = Lt_front p r.path k o c in
      m.clear k c d ∙ sym (front k d ∙ not_there p (take k r.path) seen l (w.behind (take k r.path) l))
  flagged k h a (nay b) =
      let l : k ≡ length r.path = omega (arith, ltb-false k (length r.path) b) in
      rw (l, take-length r.path) (m.own ∙ sym (its_own p r seen o))

  pub marked : Flagged e r.path (noted r ∷ seen)
  marked = record {
    behind = behind_more p seen w.behind r o;
    flag = λ k h. flagged k h (test (leb k (common p r.path))) (test (ltb k (length r.path)));
  }
