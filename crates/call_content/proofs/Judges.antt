-- 11 by append's own budget, behind the checks that say how long the new content is.
use mathlib.Core.Path.{◌≡◌, sym, ap, ◌∙◌}
use mathlib.Core.Bool.{Bool, true, false, ◌||◌}
use mathlib.Core.Option.{Option}
use Prim.Native.Nat.{ℕ, ◌+◌}
use lib.Dec.{leb}
use lib.ListN.{length, length-append}
use Rattle.model.specs.Bytes.{Bytes}
use Rattle.model.specs.Path.{Path}
use Rattle.model.specs.Tree.{Node, Table, View}
use Rattle.model.specs.Table.{charge}
use Rattle.model.specs.Checks.{pass, refuse, unless, limited}
use Rattle.model.specs.Content.{is_own, content_of, appended, append_checks, append_memory}
use Rattle.model.proofs.Contents.{count_passed, lent_content}

-- whether o is an own file was found to be b
module _ (E limit : ℕ) (t : Table) (o : Option Node) (n : ℕ) (b : Bool) (e : b ≡ is_own o) where
  pub own_unasked : b ≡ true → pass ≡ append_memory (limited E limit) t o n
  own_unasked h = ap (λ (x : Bool). unless 11 (x || leb (charge E t + n) limit)) (sym (sym e ∙ h))

  -- c is the charge, k the content's length, and f whether both are within the limit
  module _ (h : b ≡ false) (c k : ℕ) (u : c ≡ charge E t) (v : is_own o ≡ false → n ≡ k) (f : Bool) (w : f ≡ leb (c + k) limit) where
    asked : unless 11 f ≡ append_memory (limited E limit) t o n
    asked =
        let x = v (sym e ∙ h) in
        ap (unless 11) (w ∙ ap (λ (i : ℕ). leb (i + k) limit) u ∙ ap (λ (i : ℕ). leb (charge E t + i) limit) (sym x))
        ∙ ap (λ (i : Bool). unless 11 (i || leb (charge E t + n) limit)) (sym (sym e ∙ h))

    pub over_budget_lem : f ≡ false → refuse 11 0 0 ≡ append_memory (limited E limit) t o n
    over_budget_lem x = ap (unless 11) (sym x) ∙ asked

-- where append's checks pass, the new content of what is no own file has as many bytes as are lent and added
pub appended_length : (f : View) (p : Path) (d b : Bytes) → pass ≡ append_checks f p b → is_own (f p) ≡ false
    → length (appended (f p) d b) ≡ length b + length d
appended_length f p d b e k =
    length-append (content_of (f p) b) d
    ∙ ap (λ (c : Bytes). length c + length d) (lent_content (f p) b k (count_passed f p b (sym e)))
