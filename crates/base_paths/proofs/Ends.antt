-- Ends in an array, and ends that climb: one more behind them.
use mathlib.Core.Path.{◌≡◌, refl, ap, sym, ◌∙◌}
use mathlib.Core.Bool.{Bool, true, false, not, ◌&&◌}
use mathlib.Core.List.{List, [], ◌∷◌, ◌++◌, append-nil}
use Prim.Native.Nat.{ℕ, ◌<◌, ◌≤◌}
use native.Mathlib.Omega.{arith}
use lib.Dec.{leb, ltb}
use borrow.Author.Tests.{ltb-true, leb-true, lt-ltb, le-leb}
use Rattle.model.specs.Bytes.{cons_if}
use Rattle.model.proofs.Orders.{and_true}
use Rattle.base_paths.specs.Dirs.{climbs}

-- one more where a test fails, or none
pub unmade : (es : List ℕ) (e : ℕ) (b : Bool) → b ≡ true → es ≡ es ++ cons_if (not b) e []
unmade es e b h = rw h (sym (append-nil es))

pub made : (es : List ℕ) (e : ℕ) (b : Bool) → b ≡ false → es ++ (e ∷ []) ≡ es ++ cons_if (not b) e []
made es e b h = rw h

-- a front of what climbs climbs; its last may be a later one, and a later one may follow
module _ (n k : ℕ) where
  parts : (a e : ℕ) (es : List ℕ) → climbs a n (e ∷ es) ≡ true → (a < e) × (e ≤ n) × (climbs e n es ≡ true)
  parts a e es h =
      let u = and_true (ltb a e) (leb e n && climbs e n es) h in
      let v = and_true (leb e n) (climbs e n es) u.1 in
      (ltb-true a e u.0, leb-true e n v.0, v.1)

  joined : (a e : ℕ) (es : List ℕ) → a < e → e ≤ n → climbs e n es ≡ true → climbs a n (e ∷ es) ≡ true
  joined a e es h i u = cc (lt-ltb a e h, le-leb e n i, u)

  pub climbs_front : (a : ℕ) (es : List ℕ) → climbs a n (es ++ (k ∷ [])) ≡ true → climbs a n es ≡ true
  climbs_front a [] h = refl
  climbs_front a (e ∷ es) h = let u = parts a e (es ++ (k ∷ [])) h in joined a e es u.0 u.1 (climbs_front e es u.2)

  climbs_later : (a : ℕ) (es : List ℕ) (j : ℕ) → k < j → j ≤ n → climbs a n (es ++ (k ∷ [])) ≡ true → climbs a n (es ++ (j ∷ [])) ≡ true
  climbs_later a [] j l m h = let u = parts a k [] h in let v = u.0 in joined a j [] (omega arith) m refl
  climbs_later a (e ∷ es) j l m h =
      let u = parts a e (es ++ (k ∷ [])) h in
      joined a e (es ++ (j ∷ [])) u.0 u.1 (climbs_later e es j l m u.2)

  climbs_more : (a : ℕ) (es : List ℕ) (j : ℕ) → k < j → j ≤ n → climbs a n (es ++ (k ∷ [])) ≡ true
      → climbs a n ((es ++ (k ∷ [])) ++ (j ∷ [])) ≡ true
  climbs_more a [] j l m h = let u = parts a k [] h in joined a k (j ∷ []) u.0 u.1 (joined k j [] l m refl)
  climbs_more a (e ∷ es) j l m h =
      let u = parts a e (es ++ (k ∷ [])) h in
      joined a e ((es ++ (k ∷ [])) ++ (j ∷ [])) u.0 u.1 (climbs_more e es j l m u.2)

  pub climbs_step : (b : Bool) (a : ℕ) (es : List ℕ) (j : ℕ) → k < j → j ≤ n → climbs a n (es ++ (k ∷ [])) ≡ true
      → climbs a n ((es ++ cons_if b k []) ++ (j ∷ [])) ≡ true
  climbs_step true a es j l m h = climbs_more a es j l m h
  climbs_step false a es j l m h = ap (λ (ds : List ℕ). climbs a n (ds ++ (j ∷ []))) (append-nil es) ∙ climbs_later a es j l m h
