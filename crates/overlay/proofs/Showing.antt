-- From what showing a directory gives to what its export answers and leaves. The answer fits: the names have no more bytes than listing and table
-- together, and a refusal's length is that of a path in form.
use mathlib.Core.Path.{◌≡◌, refl, sym, subst}
use mathlib.Core.Bool.{Bool, true, false, cond, ◌&&◌}
use mathlib.Core.List.{List}
use Prim.Native.Nat.{ℕ, ◌<◌, ◌≤◌}
use native.Mathlib.Omega.{arith}
use lib.Dec.{leb}
use lib.ListN.{length}
use Rattle.model.specs.Bytes.{Bytes}
use Rattle.model.specs.Path.{Path, is_path}
use Rattle.model.specs.Map.{is_none, lookup}
use Rattle.model.specs.Tree.{shown, Kind, nothing, a_directory, a_file, a_link, kind}
use Rattle.model.specs.Listing.{is_listing, tree_in}
use Rattle.model.specs.Table.{is_table, table_in}
use Rattle.model.specs.Checks.{pass, refuse, ◌then◌, unless, directory_at}
use Rattle.model.specs.Answer.{told}
use Rattle.model.specs.Output.{written_by}
use Rattle.std.specs.Prelude.{Result}
use Rattle.model.specs.declared.Refusal.{Refusal}
use Rattle.model.specs.declared.Record.{Record}
use Rattle.model.proofs.Codec.{decoded, path_short}
use Rattle.model.proofs.Listings.{checked}
use Rattle.show_names.specs.Names.{link_on_way, child_names, showing}
use Rattle.show_names.proofs.Bounds.{names_bound}
use Rattle.overlay_packed.specs.Packed.{packed, Fits, record_in}
use Rattle.overlay.specs.Exported.{write_left, children_shown}
use Rattle.overlay.proofs.Filling.{not_filled, fill_settled}

-- every answer of showing fits
module _ (l t : Bytes) (r : Record) (p : Path) (o : Bytes) where
  abbrev names : Bytes
  names = child_names l t r p

  names_small : is_table t r ≡ true → is_listing l ≡ true → length names < 0x1_0000_0000_0000
  names_small h g =
      let a = names_bound l t r p (record { listing_is = g; table_is = h }) in
      let b = (decoded t r h).length_most in
      let c = (checked l g).small in
      omega arith

  checks_fit : (a b f x : Bool) (k : Kind) (d : Bool) → (f ≡ true → length p ≤ 512) → (a ≡ true → b ≡ true → length names < 0x1_0000_0000_0000)
      → Fits (written_by (unless 1 a then unless 2 b then cond f pass (refuse 3 0 0)
      then (cond x (refuse 4 0 (length p)) pass then directory_at (length p) k) then unless 13 d) names o).reply
  checks_fit false b f x k d s h = (omega arith, omega arith, omega arith)
  checks_fit true false f x k d s h = (omega arith, omega arith, omega arith)
  checks_fit true true false x k d s h = (omega arith, omega arith, omega arith)
  checks_fit true true true true k d s h = let n = s refl in (omega arith, omega arith, omega arith)
  checks_fit true true true false nothing d s h = let n = s refl in (omega arith, omega arith, omega arith)
  checks_fit true true true false a_file d s h = let n = s refl in (omega arith, omega arith, omega arith)
  checks_fit true true true false a_link d s h = let n = s refl in (omega arith, omega arith, omega arith)
  checks_fit true true true false a_directory false s h = (omega arith, omega arith, omega arith)
  checks_fit true true true false a_directory true s h = h refl refl

  pub showing_fits : Fits (showing l t r p o).reply
  showing_fits =
      checks_fit (is_table t r) (is_listing l) (is_path p) (is_none (lookup (table_in t r) p) && link_on_way (tree_in l) p)
      (kind (shown (table_in t r) (tree_in l)) p) (leb (length names) (length o)) (path_short p) names_small

-- the children of p in the table t with the record n
module _ (l t : Bytes) (n : List ℕ) (p : Path) (o : Bytes) where
  pub not_shown : (length n ≡ 4 → ⊥) → write_left 1 o ≡ children_shown l t n p o
  unfolding children_shown
  not_shown h = not_filled n o (λ r. showing l t r p o) h

  -- showing answered a, and left o'
  module _ (h : length n ≡ 4) (r : Record) (e : r ≡ record_in n) (a : Result ℕ Refusal) (f : told a ≡ (showing l t r p o).reply) (o' : Bytes) (g : o' ≡ (showing l t r p o).output) where
    pub answer_fits : Fits (told a)
    answer_fits = subst Fits (sym f) (showing_fits l t r p o)

    pub show_settled : (x : ℕ) → x ≡ packed (told a) → write_left x o' ≡ children_shown l t n p o
    unfolding children_shown
    show_settled x k = fill_settled n o (λ q. showing l t q p o) h r e (told a) f o' g x k
