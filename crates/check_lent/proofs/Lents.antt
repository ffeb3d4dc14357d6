-- 1 and 2, by what the code found of the table, the work buffer and the listing.
use mathlib.Core.Path.{◌≡◌, refl, sym, ap, ◌∙◌}
use mathlib.Core.Bool.{Bool, true, false, ◌&&◌}
use Rattle.model.specs.Checks.{refuse, ◌then◌, unless}
use Rattle.model.proofs.Orders.{bot}

-- t whether the table is one, w whether the work buffer is long enough, l whether the listing is one
pub no_table : (t w l : Bool) → t ≡ false → refuse 1 0 0 ≡ (unless 1 (t && w) then unless 2 l)
no_table true w l h = absurd (bot (cc))
no_table false w l h = refl

behind_table : (t w l : Bool) → t ≡ true → w ≡ true → unless 2 l ≡ (unless 1 (t && w) then unless 2 l)
behind_table true true l h i = refl
behind_table true false l h i = absurd (bot (cc))
behind_table false w l h i = absurd (bot (cc))

pub no_listing : (t w l : Bool) → t ≡ true → w ≡ true → l ≡ false → refuse 2 0 0 ≡ (unless 1 (t && w) then unless 2 l)
no_listing t w l h i j = sym (ap (unless 2) j) ∙ behind_table t w l h i
