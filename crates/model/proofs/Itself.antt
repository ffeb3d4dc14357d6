-- A move of a path onto itself, on entries over a tree: what passes its checks, by what is shown. All of it is said
-- of all tables, with or without the invariant.
use mathlib.Core.Path.{◌≡◌, refl, ap, ap₂}
use mathlib.Core.List.{[]}
use mathlib.Core.Bool.{Bool, true, false, cond, not, ◌&&◌}
use mathlib.Core.Option.{Option, none}
use Prim.Native.Nat.{ℕ}
use lib.ListN.{length}
use Rattle.model.specs.Path.{Path}
use Rattle.model.specs.Map.{lookup}
use Rattle.model.specs.Tree.{Entry, Table, Tree, View, over, shown, Kind, nothing, a_directory, a_file, a_link, kind, is_nothing}
use Rattle.model.specs.Checks.{pass, ◌then◌, Memory}
use Rattle.model.specs.Rename.{not_link, not_deleted, rename_paths, rename_types, rename_memory, onto_itself, rename_checks}
use Rattle.model.specs.Calls.{exists, says}
use Rattle.model.specs.Posix.{Prefixed}
use Rattle.model.proofs.Orders.{bot, same_refl}
use Rattle.model.proofs.Invariant.{entry_at, at_none, at_own, at_reference, at_directory, at_deleted, kind_at, then_both, parents_pass}
use Rattle.model.proofs.Small.{root_refused, root_passes}
use Rattle.model.proofs.Passed.{PathsPassed, itself_is, passed_paths}

-- what exists says yes to is there, and is no link; and the converse
exists_visible : (k : Kind) → says exists k ≡ true → is_nothing k ≡ false
exists_visible nothing h = cc
exists_visible a_directory h = refl
exists_visible a_file h = refl
exists_visible a_link h = cc

pub exists_there : (k : Kind) → says exists k ≡ true → k ≡ nothing → ⊥
exists_there k h e = bot (cc)

exists_no_link : (w n : ℕ) (k : Kind) → says exists k ≡ true → not_link w n k ≡ pass
exists_no_link w n nothing h = cc
exists_no_link w n a_directory h = refl
exists_no_link w n a_file h = refl
exists_no_link w n a_link h = cc

visible_exists : (n : ℕ) (k : Kind) → is_nothing k ≡ false → not_link 0 n k ≡ pass → says exists k ≡ true
visible_exists n nothing h g = cc
visible_exists n a_directory h g = refl
visible_exists n a_file h g = refl
visible_exists n a_link h g = cc

-- an accepted move onto itself, by what is shown
pub record ItselfOk (f : View) (a b : Path) : Type 0 where
  pub one : a ≡ b
  pub proper : a ≡ [] → ⊥
  pub visible : says exists (kind f a) ≡ true

pub itself_ok : (t : Table) (l : Tree) (a b : Path) → onto_itself (shown t l) a b ≡ true → PathsPassed t l a b → ItselfOk (shown t l) a b
itself_ok t l a b e p =
    let i = itself_is (shown t l) a b e in
    record {
      one = i.0;
      proper = root_refused 0 a p.source_not_root;
      visible = visible_exists (length a) (kind (shown t l) a) i.1 p.source_no_link;
    }

module _ (t : Table) (l : Tree) (a : Path) (visible : says exists (kind (shown t l) a) ≡ true) where
  pub itself_onto : onto_itself (shown t l) a a ≡ true
  itself_onto = ap₂ (λ (x y : Bool). x && not y) (same_refl a) (exists_visible (kind (shown t l) a) visible)

  -- below directories it passes
  module _ (proper : a ≡ [] → ⊥) (above : Prefixed (shown t l) a) where
    not_deleted_lem : not_deleted (length a) (lookup t a) ≡ pass
    not_deleted_lem = elim (entry_at (lookup t a)) [
      | at_none e ↦ cc
      | at_own m c e ↦ cc
      | at_reference m z p e ↦ cc
      | at_directory m e ↦ cc
      | at_deleted e ↦ absurd (exists_there (kind (shown t l) a) visible
          (kind_at (shown t l) a none (ap (λ (o : Option Entry). over o (lookup l a)) e) proper))
    ]

    itself_paths : rename_paths t l a a ≡ pass
    itself_paths = passed_paths t l a a (record {
      source_not_root = root_passes 0 a proper;
      destination_not_root = root_passes 1 a proper;
      destination_parents = parents_pass 1 (length a) (kind (shown t l)) a above;
      destination_no_link = exists_no_link 1 (length a) (kind (shown t l) a) visible;
      source_parents = parents_pass 0 (length a) (kind (shown t l)) a above;
      source_not_deleted = not_deleted_lem;
      source_no_link = exists_no_link 0 (length a) (kind (shown t l) a) visible;
    })

    pub itself_checks : (m : Memory) → rename_checks m t l a a ≡ pass
    itself_checks m = then_both (rename_paths t l a a) _ itself_paths
        (ap (λ (b : Bool). cond b pass (rename_types t l a a then rename_memory m t l a a)) itself_onto)
