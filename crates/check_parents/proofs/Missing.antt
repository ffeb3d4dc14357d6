-- The loop over the ancestors of a path that mkdir makes: what is found and what is to come are together all that is missing.
use mathlib.Core.Path.{◌≡◌, refl, sym, ap, ◌∙◌}
use mathlib.Core.Bool.{Bool, true, false, not}
use mathlib.Core.List.{List, [], ◌∷◌, ◌++◌, map, append_assoc, append-nil}
use Prim.Native.Nat.{ℕ, suc, ◌+◌, ◌<◌, ◌≤◌}
use native.Mathlib.Omega.{arith}
use lib.Dec.{eqb, ltb}
use lib.ListN.{length, length-map, take}
use lib.Seq.{length-take-le}
use borrow.Author.Tests.{ltb-true, ltb-false, lt-ltb, le-leb}
use Rattle.model.specs.Bytes.{cons_if}
use Rattle.model.specs.Path.{Path, components, is_path, ancestors}
use Rattle.model.specs.Tree.{Kind, is_nothing, is_directory}
use Rattle.model.specs.Checks.{Check, pass, ◌then◌, ancestor_at, ancestors_in, missing}
use Rattle.model.proofs.Orders.{yea, nay, test}
use Rattle.model.proofs.Codec.{path_shallow}
use Rattle.model.proofs.Texts.{on_first_length}
use Rattle.base_paths.specs.Ancestors.{next_slash, ancestors_from}
use Rattle.base_paths.proofs.Ancestors.{begin, turn, done}
use Rattle.check_judged.specs.Judged.{refuses}
use Rattle.base_paths.specs.Dirs.{climbs}
use Rattle.check_parents.specs.Missing.{missing_ends}
use Rattle.check_judged.proofs.Checked.{refused_stops, passed_on}
use Rattle.check_parents.proofs.Checked.{passed_nothing}
use Rattle.base_paths.proofs.Ends.{climbs_step}
use Rattle.check_parents.proofs.Parents.{proper}

-- a path has one ancestor less than components
ancestor_count : (p : Path) → suc (length (ancestors p)) ≡ length (components p)
ancestor_count [] = refl
ancestor_count (b ∷ p) =
    let ih = ancestor_count p in
    let e = length-map (ancestors p) (λ (q : Path). b ∷ q) in
    let f = on_first_length b (components p) in
    elim (test (eqb b 47)) [ yea w ↦ rw w (ap suc (ap suc e ∙ ih)) | nay w ↦ rw w (ap suc e ∙ ih ∙ sym f) ]

-- one that is missing is counted to those found, or is the first to come
found : (b : Bool) (k : ℕ) (q : Path) (qs : List Path) (es ds : List ℕ) → length q ≡ k
    → (es ++ cons_if b k []) ++ (map length qs ++ ds) ≡ es ++ (map length (cons_if b q qs) ++ ds)
found true k q qs es ds e = append_assoc es (k ∷ []) (map length qs ++ ds) ∙ ap (λ (z : ℕ). es ++ (z ∷ (map length qs ++ ds))) (sym e)
found false k q qs es ds e = ap (λ (z : List ℕ). z ++ (map length qs ++ ds)) (append-nil es)

-- at a turn of the loop the ancestors from k on are to come, and es are the ends found, n of them
pub record Going (g : Path → Kind) (p : Path) (k : ℕ) (es : List ℕ) (n : ℕ) : Type 0 where
  pub judged : ancestors_in (length p) g (ancestors_from p k) ≡ ancestors_in (length p) g (ancestors p)
  pub ends : es ++ (map length (missing g (ancestors_from p k)) ++ (length p ∷ [])) ≡ missing_ends g p
  pub climb : climbs 0 (length p) (es ++ (k ∷ [])) ≡ true
  pub room : n + length (ancestors_from p k) ≤ 31

module _ (g : Path → Kind) (p : Path) where
  above : (k : ℕ) → 0 < k → k ≤ length p → climbs 0 (length p) ([] ++ (k ∷ [])) ≡ true
  above k h i = cc (lt-ltb 0 k h, le-leb k (length p) i)

  pub going_first : (k : ℕ) → is_path p ≡ true → 0 < length p → k ≡ next_slash p 0 → k ≤ length p → Going g p k [] 0
  going_first k h o e b =
      let f = begin p k e in
      let z = ancestor_count p in
      let s = path_shallow p h in
      let y = ap length f.1 in
      let d : 0 < k = elim (test (ltb k (length p))) [
        | yea w ↦ proper p k h f.0 (ltb-true k (length p) w)
        | nay w ↦ let v = ltb-false k (length p) w in omega arith
      ] in
      record {
        judged = ap (ancestors_in (length p) g) (sym f.1);
        ends = ap (λ (qs : List Path). map length (missing g qs) ++ (length p ∷ [])) (sym f.1);
        climb = above k d b;
        room = omega arith;
      }

  module _ (k : ℕ) (es : List ℕ) (n : ℕ) (v : Going g p k es n) where
    pub going_last : length p ≤ k → k ≤ length p
        → (pass ≡ ancestors_in (length p) g (ancestors p))
        × (es ++ (length p ∷ []) ≡ missing_ends g p)
        × (n ≤ 31)
        × (climbs 0 (length p) (es ++ (length p ∷ [])) ≡ true)
    going_last h i =
        let e = done p k h in
        let z : k ≡ length p = omega arith in
        let r = v.room in (
          sym (ap (ancestors_in (length p) g) e) ∙ v.judged,
          sym (ap (λ (qs : List Path). es ++ (map length (missing g qs) ++ (length p ∷ []))) e) ∙ v.ends,
          omega arith,
          ap (λ (m : ℕ). climbs 0 (length p) (es ++ (m ∷ []))) (sym z) ∙ v.climb,
        )

    pub going_room : k ≡ next_slash p k → k < length p → n < 31
    going_room a h =
        let e = ap length (turn p k (next_slash p (k + 1)) a h refl).1 in
        let r = v.room in
        omega arith

    -- the ancestor of k bytes shows x, and c is what its check gives
    module _ (a : k ≡ next_slash p k) (h : k < length p) (x : Kind) (y : x ≡ g (take k p)) (c : Check) (u : c ≡ ancestor_at k (length p) x) where
      here : (j : ℕ) → j ≡ next_slash p (k + 1) → (c then ancestors_in (length p) g (ancestors_from p j)) ≡ ancestors_in (length p) g (ancestors p)
      here j e =
          let m = length-take-le k p (omega arith) in
          ap (λ (z : Check). z then ancestors_in (length p) g (ancestors_from p j)) (u ∙ ap (ancestor_at k (length p)) y)
          ∙ ap (λ (z : ℕ). ancestor_at z (length p) (g (take k p)) then ancestors_in (length p) g (ancestors_from p j)) (sym m)
          ∙ sym (ap (ancestors_in (length p) g) (turn p k j a h e).1)
          ∙ v.judged

      pub going_stop : refuses c ≡ true → c ≡ ancestors_in (length p) g (ancestors p)
      going_stop r = let j = next_slash p (k + 1) in sym (refused_stops c (ancestors_in (length p) g (ancestors_from p j)) r) ∙ here j refl

      pub going_next : (j : ℕ) (ds : List ℕ) (m : ℕ) → refuses c ≡ false → j ≡ next_slash p (k + 1) → k + 1 ≤ j → j ≤ length p
          → ds ≡ es ++ cons_if (not (is_directory x)) k [] → m ≤ n + 1 → Going g p j ds m
      going_next j ds m r e i l w o =
          let t = (turn p k j a h e).1 in
          let q = ap length t in
          let s = v.room in
          let isn = passed_nothing k (length p) x (ap refuses (sym u) ∙ r) in
          record {
            judged = sym (passed_on c (ancestors_in (length p) g (ancestors_from p j)) r) ∙ here j e;
            ends =
                ap (λ (z : List ℕ). z ++ (map length (missing g (ancestors_from p j)) ++ (length p ∷ [])))
                (w ∙ ap (λ (b : Bool). es ++ cons_if b k []) (isn ∙ ap is_nothing y))
                ∙ found (is_nothing (g (take k p))) k (take k p) (missing g (ancestors_from p j)) es (length p ∷ []) (length-take-le k p (omega arith))
                ∙ sym (ap (λ (qs : List Path). es ++ (map length (missing g qs) ++ (length p ∷ []))) t)
                ∙ v.ends;
            climb =
                ap (λ (z : List ℕ). climbs 0 (length p) (z ++ (j ∷ []))) w
                ∙ climbs_step (length p) k (not (is_directory x)) 0 es j (omega arith) l v.climb;
            room = omega arith;
          }
