-- 1, 2 and 3, which every call begins with: what is known once they pass.
use mathlib.Core.Path.{◌≡◌, refl, sym, ap}
use mathlib.Core.Bool.{Bool, true, false, cond, ◌&&◌}
use Prim.Native.Nat.{ℕ}
use lib.Dec.{leb}
use lib.ListN.{length}
use Rattle.model.specs.Bytes.{Bytes}
use Rattle.model.specs.Path.{Path, is_path}
use Rattle.model.specs.Listing.{is_listing}
use Rattle.model.specs.Table.{is_table}
use Rattle.model.specs.Checks.{Check, pass, refuse, ◌then◌, unless, form}
use Rattle.model.specs.declared.Record.{Record}
use Rattle.model.proofs.Orders.{bot}
use Rattle.model.proofs.Invariant.{then_pass, form_is}
use Rattle.check_judged.specs.Judged.{refuses}

-- t whether the table is one, w whether the work buffer is long enough, l whether the listing is one, p whether the path is one
abbrev pub firsts : (t w l p : Bool) → Check
firsts t w l p = unless 1 (t && w) then unless 2 l then cond p pass (refuse 3 0 0)

pub all_four : (t w l p : Bool) → refuses (firsts t w l p) ≡ false → (t ≡ true) × (w ≡ true) × (l ≡ true) × (p ≡ true)
all_four true true true true h = (refl, refl, refl, refl)
all_four true true true false h = absurd (bot (cc))
all_four true true false p h = absurd (bot (cc))
all_four true false l p h = absurd (bot (cc))
all_four false w l p h = absurd (bot (cc))

-- the checks of the table with a work buffer of n bytes, and of the listing
abbrev pub table_form : Bytes → Record → ℕ → Check
table_form table r n = unless 1 (is_table table r && leb (length table) n)

abbrev pub listing_form : Bytes → Check
listing_form listing = unless 2 (is_listing listing)

-- all passed, with a work buffer of n bytes
module _ (listing table : Bytes) (r : Record) (n : ℕ) (path : Path) where
  pub known : pass ≡ firsts (is_table table r) (leb (length table) n) (is_listing listing) (is_path path)
      → (is_table table r ≡ true) × (leb (length table) n ≡ true) × (is_listing listing ≡ true) × (is_path path ≡ true)
  known e = all_four (is_table table r) (leb (length table) n) (is_listing listing) (is_path path) (sym (ap refuses e))

-- 3 passed of two paths: both are paths
pub both_paths : (a b : Path) → (form 0 a then form 1 b) ≡ pass → (is_path a ≡ true) × (is_path b ≡ true)
both_paths a b h =
    let e = then_pass (form 0 a) (form 1 b) h in
    (form_is 0 a e.0, form_is 1 b e.1)
