-- One step of the pass: a path's answer by its parent's flag, and the flags with its own.
use mathlib.Core.Path.{◌≡◌, sym, ap, ◌∙◌}
use mathlib.Core.Bool.{Bool, false, ◌&&◌, ◌||◌}
use mathlib.Core.List.{List}
use Prim.Native.Nat.{ℕ, ◌<◌, ◌≤◌}
use native.Mathlib.Omega.{arith}
use lib.Dec.{eqb, leb, ltb}
use lib.ListN.{length, get_or, take, set}
use lib.Seq.{take-length, get_or-set_same, get_or-set_other}
use borrow.Author.Tests.{eqb-true, eqb-false, leb-true, leb-false, ltb-true, ltb-false}
use Rattle.model.specs.Path.{Path}
use Rattle.model.specs.Map.{is_none, lookup}
use Rattle.model.specs.Tree.{Table, Tree}
use Rattle.model.specs.Rename.{uncovered}
use Rattle.model.proofs.Orders.{bot, Tested, yea, nay, test}
use Rattle.base_fields.specs.Read.{common}
use Rattle.base_fields.proofs.Common.{common_first, take_common, Lt-take, Lt_front, before_Lt, Lt_before}
use Rattle.base_paths.proofs.Ancestors.{before_slash}
use Rattle.base_paths.specs.Ancestors.{Parted}
use Rattle.rename_uncovered.specs.Cover.{Covering, Following}
use Rattle.rename_uncovered.proofs.Parents.{below_longer_front, slash_there, child_uncovered, other_uncovered}

module _ (t : Table) (a : Path) (l : Tree) (f : List Bool) (p q : Path) (c : Covering t a l f p) (w : Following a l p q) where
  -- a listed front of q that is not q is a front of p
  shared_front : (k : ℕ) → k < length q → is_none (lookup l (take k q)) ≡ false → k ≤ common p q
  shared_front k h n = elim (test (leb k (common p q))) [
    | yea z ↦ leb-true k (common p q) z
    | nay z ↦ (let o = Lt_front p q k (before_Lt p q w.after) (leb-false k (common p q) z) in
        let e = w.next (take k q) (Lt_before p (take k q) o) (Lt_before (take k q) q (Lt-take q k h)) in
        absurd (bot (cc)))
  ]

  kept_flag : (k : ℕ) → k < length q → is_none (lookup l (take k q)) ≡ false → get_or f k false ≡ uncovered t a (take k q)
  kept_flag k h n =
      let o = shared_front k h n in
      let e = take_common p q k o in
      let g = common_first p q in
      c.flag k (omega arith) (rw e n) ∙ ap (uncovered t a) e

  module _ (i : ℕ) (d : Parted q (length a) i) (x : Bool) (e : x ≡ is_none (lookup t q)) where
    abbrev reached : Bool
    reached = x && (eqb i (length a) || get_or f i false)

    pub answered : reached ≡ uncovered t a q
    answered = elim (test (eqb i (length a))) [
      | yea z ↦ rw (z, e) (sym (child_uncovered t a q i w.under d (eqb-true i (length a) z)))
      | nay z ↦ (let n = eqb-false i (length a) z in
          let m = d.low in
          let u : length a < i = omega arith in
          let v = w.placed (take i q) (below_longer_front a q i w.under u) (before_slash q i d.high (slash_there t a q i w.under d)) in
          rw (z, e, kept_flag i d.high v) (sym (other_uncovered t a q i w.under d u)))
    ]

    module _ (s : length q < length f) where
      flagged : (k : ℕ) → k ≤ length q → is_none (lookup l (take k q)) ≡ false → Tested (ltb k (length q))
          → get_or (set f (length q) reached) k false ≡ uncovered t a (take k q)
      flagged k h n (yea z) =
          let o = ltb-true k (length q) z in
          get_or-set_other f (length q) k reached false (λ y. omega arith) ∙ kept_flag k o n
      flagged k h n (nay z) =
          let o = ltb-false k (length q) z in
          let y : k ≡ length q = omega arith in
          rw (y, take-length q) (get_or-set_same f (length q) reached false s ∙ answered)

      pub covered : Covering t a l (set f (length q) reached) q
      covered = record { flag = λ k h n. flagged k h n (test (ltb k (length q))) }

-- as the code asks, with a's length
pub stepped : (f : List Bool) (q : Path) (from i : ℕ) → Parted q from i → length q < length f → (x : Bool)
    → (t : Table) (a : Path) (l : Tree) (p : Path) → Covering t a l f p → Following a l p q → from ≡ length a → x ≡ is_none (lookup t q)
    → ((x && (eqb i from || get_or f i false)) ≡ uncovered t a q) × Covering t a l (set f (length q) (x && (eqb i from || get_or f i false))) q
stepped f q from i d s x t a l p c w e n =
    let g : Parted q (length a) i = rw e at d in
    rw e (answered t a l f p q c w i g x n, covered t a l f p q c w i g x n s)
