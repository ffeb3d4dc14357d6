-- The loop over a path's ancestors, from the top: at each turn the next is looked at, and what is to come decides as the whole did.
use mathlib.Core.Path.{◌≡◌, refl, sym, ap, ◌∙◌}
use mathlib.Core.Bool.{true, false}
use Prim.Native.Nat.{ℕ, zero, suc, ◌+◌, ◌<◌, ◌≤◌}
use native.Mathlib.Omega.{arith}
use lib.ListN.{length, take, drop}
use Rattle.model.specs.Bytes.{Bytes}
use Rattle.model.specs.Path.{Path, is_path, ends_here}
use Rattle.model.specs.Tree.{View, Kind, kind, is_directory}
use Rattle.model.specs.Checks.{Check, pass, ◌then◌, parent_at, parents_in, parent_checks}
use Rattle.model.specs.declared.Record.{Record}
use Rattle.model.proofs.Texts.{proper_ancestor}
use Rattle.base_paths.specs.Ancestors.{next_slash, ancestors_from}
use Rattle.base_paths.proofs.Ancestors.{begin, turn, done, next_slash_lem, before_slash}
use Rattle.listing_records.proofs.Steps.{ends_next}
use Rattle.view_at.specs.Sight.{Sees}
use Rattle.view_at.specs.declared.Sight.{Sight}
use Rattle.view_at.proofs.Sights.{sees_on}
use Rattle.check_parents.proofs.Checked.{parent_passes, parent_stops}

-- an ancestor of a path is not the root
pub proper : (p : Path) (k : ℕ) → is_path p ≡ true → k ≡ next_slash p k → k < length p → 0 < k
proper p zero h e l = absurd (proper_ancestor p (take 0 p) h (before_slash p 0 l (next_slash_lem p 0 0 e l).0) refl)
proper p (suc k) h e l = omega arith

-- at a turn of the loop k is the end of an ancestor, or the path's, and the sight g is good from there on
pub record Along (l s : Bytes) (r : Record) (p : Path) (g : Sight) (k : ℕ) : Type 0 where
  pub path : is_path p ≡ true
  pub slash : k ≡ next_slash p k
  pub within : k ≤ length p
  pub sees : Sees l s r p g k

module _ (l s : Bytes) (r : Record) (p : Path) where
  pub along_first : (g : Sight) (k : ℕ) → is_path p ≡ true → ((q : Path) → Sees l s r q g 0) → k ≡ next_slash p 0 → k ≤ length p → Along l s r p g k
  along_first g k h v e b = record {
    path = h;
    slash = (begin p k e).0;
    within = b;
    sees = sees_on l s r p g 0 k (omega arith) (v p);
  }

  module _ (g : Sight) (k : ℕ) (a : Along l s r p g k) (h : k < length p) where
    pub along_look : (0 < k) × (k ≤ length p) × (ends_here (drop k p) ≡ true)
    along_look = (proper p k a.path a.slash h, a.within, ends_next p k k a.slash)

    pub along_next : (f : Sight) (j : ℕ) → Sees l s r p f (k + 1) → j ≡ next_slash p (k + 1) → k + 1 ≤ j → j ≤ length p → Along l s r p f j
    along_next f j v e u b = record {
      path = a.path;
      slash = (turn p k j a.slash h e).0;
      within = b;
      sees = sees_on l s r p f (k + 1) j u v;
    }

-- the check of the parents, from k on
module _ (w : ℕ) (f : View) (p : Path) where
  pub parents_first : (k : ℕ) → k ≡ next_slash p 0 → parents_in w (length p) (kind f) (ancestors_from p k) ≡ parent_checks w f p
  parents_first k e = ap (parents_in w (length p) (kind f)) (sym (begin p k e).1)

  pub parents_last : (k : ℕ) → length p ≤ k → parents_in w (length p) (kind f) (ancestors_from p k) ≡ parent_checks w f p → pass ≡ parent_checks w f p
  parents_last k h e = sym (ap (parents_in w (length p) (kind f)) (done p k h)) ∙ e

  module _ (k : ℕ) (x : Kind) (a : k ≡ next_slash p k) (h : k < length p) (e : parents_in w (length p) (kind f) (ancestors_from p k) ≡ parent_checks w f p)
      (y : x ≡ kind f (take k p)) where
    here : (j : ℕ) → j ≡ next_slash p (k + 1) → (parent_at w (length p) x then parents_in w (length p) (kind f) (ancestors_from p j)) ≡ parent_checks w f p
    here j u =
        ap (λ (z : Kind). parent_at w (length p) z then parents_in w (length p) (kind f) (ancestors_from p j)) y
        ∙ sym (ap (parents_in w (length p) (kind f)) (turn p k j a h u).1)
        ∙ e

    pub parents_next : (j : ℕ) → j ≡ next_slash p (k + 1) → is_directory x ≡ true → parents_in w (length p) (kind f) (ancestors_from p j) ≡ parent_checks w f p
    parents_next j u d = sym (parent_passes w (length p) x (parents_in w (length p) (kind f) (ancestors_from p j)) d) ∙ here j u

    pub parents_stop : (c : Check) → is_directory x ≡ false → c ≡ parent_at w (length p) x → c ≡ parent_checks w f p
    parents_stop c d u =
        let j = next_slash p (k + 1) in
        u ∙ sym (parent_stops w (length p) x (parents_in w (length p) (kind f) (ancestors_from p j)) d) ∙ here j refl
