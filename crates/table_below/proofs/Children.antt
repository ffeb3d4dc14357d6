-- Whether a path is a child of a directory, by the bytes in common and the slashes behind them; whether a part has a child that is not deleted.
use mathlib.Core.Path.{◌≡◌, refl, ap, sym, ◌∙◌, subst}
use mathlib.Core.Bool.{Bool, true, false, not, ◌&&◌, ◌||◌}
use Prim.Native.Nat.{ℕ, ◌+◌, ◌-◌, ◌<◌, ◌≤◌}
use native.Mathlib.Omega.{arith}
use lib.Dec.{eqb}
use Rattle.model.specs.Bytes.{Bytes, number_at}
use Rattle.model.specs.Path.{Path, child}
use Rattle.model.specs.Tree.{Entry, own, reference, directory, deleted}
use Rattle.model.specs.Table.{type_of, key_at, entry_at, entry_end, entries_at}
use Rattle.table_entries.specs.Place.{Standing}
use Rattle.table_entries.specs.declared.Place.{Place}
use Rattle.table_entries.proofs.Entries.{first_entry, stands_here, left_some, left_next}
use Rattle.table_below.specs.Parts.{is_deleted, visible_in}

-- kind 4 is that of a deleted entry, and of no others
kind_of_lem : (e : Entry) → not (eqb (type_of e) 4) ≡ not (is_deleted e)
kind_of_lem (own m c) = refl
kind_of_lem (reference m z p) = refl
kind_of_lem (directory m) = refl
kind_of_lem deleted = refl

pub visible_here : (s : Bytes) (n at : ℕ) → 0 < n → Standing s n at → (d : Path) (k : ℕ) → k ≡ number_at s (at + 2) 2
    → (q : Path) → q ≡ key_at s at → (b : Bool) → b ≡ child d q
    → (b && not (eqb k 4)) ≡ (child d (key_at s at) && not (is_deleted (entry_at s at)))
visible_here s n at h w d k e q f b g =
    let x : not (eqb k 4) ≡ not (is_deleted (entry_at s at)) = ap (λ (j : ℕ). not (eqb j 4)) (e ∙ (stands_here s n at h w).type) ∙ kind_of_lem (entry_at s at) in
    let y : b ≡ child d (key_at s at) = g ∙ ap (child d) f in
    λ i. y i && x i

-- of the n entries from the start on, the m from `at` on are left, and none of those passed is such a child
pub record Looking (s : Bytes) (d : Path) (n m at : ℕ) : Type 0 where
  pub stand : Standing s m at
  pub are : visible_in d (entries_at s m at) ≡ visible_in d (entries_at s n 0)

pub look_start : (s : Bytes) (d : Path) (n : ℕ) → Standing s n 0 → Looking s d n (n - 0) 0
look_start s d n w = subst (λ (m : ℕ). Looking s d n m 0) (omega arith) (record { stand = w; are = refl })

module _ (s : Bytes) (d : Path) (n i at : ℕ) (w : Looking s d n (n - i) at) where
  module _ (h : i < n) (b : Bool) (e : b ≡ (child d (key_at s at) && not (is_deleted (entry_at s at)))) where
    opened : visible_in d (entries_at s (n - i) at) ≡ (b || visible_in d (entries_at s (n - i - 1) (entry_end s at)))
    opened = rw (first_entry s (n - i) at (left_some n i h), e)

    passed : b ≡ false → visible_in d (entries_at s (n - i - 1) (entry_end s at)) ≡ visible_in d (entries_at s n 0)
    passed z = sym (opened ∙ ap (λ (t : Bool). t || visible_in d (entries_at s (n - i - 1) (entry_end s at))) z) ∙ w.are

    pub look_found : b ≡ true → true ≡ visible_in d (entries_at s n 0)
    look_found z = sym (opened ∙ ap (λ (t : Bool). t || visible_in d (entries_at s (n - i - 1) (entry_end s at))) z) ∙ w.are

    pub look_on : b ≡ false → (q : Place) → q ≡ record { at = entry_end s at; left = n - i - 1 } → Standing s q.left q.at → Looking s d n (n - (i + 1)) q.at
    look_on z q f g =
        let l : q.left ≡ n - (i + 1) = ap (λ (p : Place). p.left) f ∙ left_next n i in
        subst (λ (m : ℕ). Looking s d n m q.at) l (record {
          stand = g;
          are = ap (λ (p : Place). visible_in d (entries_at s p.left p.at)) f ∙ passed z;
        })

  pub look_end : n ≤ i → false ≡ visible_in d (entries_at s n 0)
  look_end h =
      let z : n - i ≡ 0 = omega (arith, h) in
      sym (ap (λ (m : ℕ). visible_in d (entries_at s m at)) z) ∙ w.are
