-- What plan and walk need of the limit: the walk is one sum, whatever its order, and none of the sums is large.
-- Assumes a listing in form, of bytes.
use mathlib.Core.Path.{◌≡◌, refl, ap, ap₂, sym, ◌∙◌}
use mathlib.Core.Bool.{Bool, true, false, cond}
use mathlib.Core.Option.{none}
use Prim.Native.Nat.{ℕ, zero, suc, ◌+◌, ◌*◌, ◌≤◌, ◌<◌}
use native.Mathlib.Omega.{arith}
use lib.Dec.{ltb, eqb}
use lib.ListN.{length, get_or}
use borrow.Author.Tests.{lt-ltb, le-ltb, ne_eqb}
use Rattle.model.specs.Bytes.{Bytes}
use Rattle.model.specs.Path.{Path}
use Rattle.model.specs.Map.{lookup}
use Rattle.model.specs.Tree.{Table, Tree, Kind, kind, is_directory}
use Rattle.model.specs.Listing.{is_listing, tree_in}
use Rattle.model.specs.Table.{charge, is_table, table_in}
use Rattle.model.specs.Checks.{Check, pass, unlimited}
use Rattle.model.specs.Rename.{Stop, at_link, Walk, stopped, walk_from, walked, planned, if_directory, plan_and_walk}
use Rattle.model.specs.declared.Record.{Record}
use Rattle.model.proofs.Orders.{bot, yea, nay, test, eqb_eq}
use Rattle.model.proofs.Codec.{decoded, bounds, charge_is}
use Rattle.model.proofs.Formed.{Listing, listing_fine}
use Rattle.base_fields.proofs.Pieces.{bytes_of}
use Rattle.least_walk.specs.Total.{costs, any_stops, reached}
use Rattle.least_walk.proofs.Sums.{walk_total, walk_stops_at}
use Rattle.least_need.specs.Need.{walk_need, listed_need}
use Rattle.std.specs.Prelude as code
use Rattle.least_rename.specs.Reports.{NeededFor}

-- the walk's sum n, from a start on, where nothing was added and where something was
pub sum_none : (start n : ℕ) → n ≡ 0 → 0 ≡ cond (eqb n 0) 0 (start + n)
sum_none start n e = rw e refl

pub sum_some : (start n : ℕ) → (n ≡ 0 → ⊥) → start + n ≡ cond (eqb n 0) 0 (start + n)
sum_some start n h = rw (ne_eqb n 0 h) refl

-- a table's charge is small enough to add to
pub charge_small : (s : Bytes) (r : Record) → is_table s r ≡ true → r.charge ≤ 0x20_0000_0000
charge_small s r h =
    let d = decoded s r h in
    let b = bounds r.entry_size (table_in s r) d.size_most in
    omega (arith, b.1, d.fits, d.length_most, charge_is s r h)

-- a listing, of bytes
pub tree_fine : (s : Bytes) → ((i : ℕ) → get_or s i 0 < 256) → is_listing s ≡ true → Listing (tree_in s)
tree_fine s b h = listing_fine s (bytes_of s b) h

-- what the walk needs, where its source is listed as a directory, and where it is not
module _ (t : Table) (l : Tree) (a : Path) (f : Listing l) (k : Kind) where
  abbrev start : ℕ
  start = 2 * length a + 1

  abbrev without : Walk
  without = walk_from t l none a

  abbrev WalkNeeds : code.Option ℕ → Type 0
  WalkNeeds r = NeededFor (if_directory k (walked (length a) without)) (cond (is_directory k) (walk_need start without) 0) r

  pub walk_stopped : (d : Bool) → d ≡ is_directory k → d ≡ true → (b : Bool) → b ≡ any_stops (reached t l a) → b ≡ true → WalkNeeds code.None
  walk_stopped d e h b g j p =
      let w = walk_stops_at t l a f.sorted f.closed (sym g ∙ j) in
      no_pass w.0 w.1 (sym (ap (walked (length a)) w.2) ∙ sym (ap (λ (x : Bool). cond x (walked (length a) without) pass) (sym e ∙ h)) ∙ p)
    where
      no_pass : (x : Stop) (n : ℕ) → walked (length a) (stopped x n) ≡ pass → ⊥
      no_pass at_link n g = bot (cc)

  pub walk_sums : (d : Bool) → d ≡ is_directory k → d ≡ true → (b : Bool) → b ≡ any_stops (reached t l a) → b ≡ false
      → (n : ℕ) → n ≡ costs (reached t l a) → (m : ℕ) → m ≡ cond (eqb n 0) 0 (start + n) → WalkNeeds (code.Some m)
  walk_sums d e h b g j n i m v =
      let w = walk_total t l a f.sorted f.closed (sym g ∙ j) in
      let o = sym e ∙ h in (
        ap (λ (x : Bool). cond x (walked (length a) without) pass) o ∙ ap (walked (length a)) w,
        v ∙ ap (λ (x : ℕ). cond (eqb x 0) 0 (start + x)) i ∙ compared (costs (reached t l a)) ∙ sym (ap (walk_need start) w)
            ∙ sym (ap (λ (x : Bool). cond x (walk_need start without) 0) o),
      )
    where
      compared : (x : ℕ) → cond (eqb x 0) 0 (start + x) ≡ cond (ltb start (start + x)) (start + x) 0
      compared x = elim (test (eqb x 0)) [
        | yea u ↦ let z = eqb_eq x 0 u in rw (u, le-ltb start (start + x) (omega arith)) refl
        | nay u ↦ rw (u, lt-ltb start (start + x) (positive x u)) refl
      ]
        where
          positive : (x : ℕ) → eqb x 0 ≡ false → start < start + x
          positive zero u = absurd (bot (cc))
          positive (suc x) u = omega arith

-- the plan beside it, and what a directory needs
module _ (E : ℕ) (t : Table) (l : Tree) (a b : Path) where
  abbrev walk_check : Check
  walk_check = if_directory (kind (lookup l) a) (walked (length a) (walk_from t l none a))

  abbrev PlanNeeds : code.Option ℕ → Type 0
  PlanNeeds r = NeededFor (plan_and_walk unlimited t l a b) (charge E t + planned a b t + listed_need t l a) r

  pub plan_sums : (n : ℕ) → (walk_check ≡ pass) × (n ≡ listed_need t l a) → (c p m : ℕ) → c ≡ charge E t → p ≡ planned a b t
      → m ≡ c + p + n → PlanNeeds (code.Some m)
  plan_sums n x c p m i j k = (x.0, k ∙ ap₂ (λ (u v : ℕ). u + v + n) i j ∙ ap (λ (u : ℕ). charge E t + planned a b t + u) x.1)
