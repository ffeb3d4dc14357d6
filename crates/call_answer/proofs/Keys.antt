-- 3 and the checks behind it, for a call with one path: where these refuse the root, a path that passes is a key.
use mathlib.Core.Path.{◌≡◌, refl, sym, ◌∙◌}
use mathlib.Core.Bool.{true}
use mathlib.Core.List.{[], ◌∷◌}
use Prim.Native.Nat.{◌≤◌}
use lib.ListN.{length}
use Rattle.model.specs.Bytes.{before}
use Rattle.model.specs.Path.{Path, is_path}
use Rattle.model.specs.Checks.{Check, pass, ◌then◌, form}
use Rattle.model.proofs.Invariant.{then_pass, form_is}
use Rattle.model.proofs.Codec.{path_short}
use Rattle.check_judged.specs.Judged.{refuses}
use Rattle.check_judged.proofs.Checked.{refused_not_passed}
use Rattle.check_judged.proofs.Thens.{goes_on}

-- a path that passes 3 is one
pub is_path_lem : (p : Path) → pass ≡ form 0 p → is_path p ≡ true
is_path_lem p e = form_is 0 p (sym e)

-- the path p, and the checks behind 3 at each path
module _ (p : Path) (k : Path → Check) (root : refuses (k []) ≡ true) where
  may : (c : Check) → c ≡ (form 0 p then k p) → c ≡ pass → (before [] p ≡ true) × (length p ≤ 512)
  may c e h =
      let t = then_pass (form 0 p) (k p) (sym e ∙ h) in
      (not_root_lem p t.1, path_short p (form_is 0 p t.0))
    where
      not_root_lem : (q : Path) → k q ≡ pass → before [] q ≡ true
      not_root_lem [] e = absurd (refused_not_passed (k []) root e)
      not_root_lem (b ∷ q) e = refl

  -- 3 passes, and the checks behind it gave c
  pub by_checks : pass ≡ form 0 p → (c : Check) → c ≡ k p → (c ≡ (form 0 p then k p)) × (c ≡ pass → (before [] p ≡ true) × (length p ≤ 512))
  by_checks h c d = let x = goes_on (form 0 p) (k p) c h d in (x, may c x)
