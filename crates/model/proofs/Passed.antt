-- What it means that rename's checks pass: a record for each of their three parts, with a field for each check, and
-- which of the parts were asked.
use mathlib.Core.Path.{◌≡◌, refl, ap, ap₂, sym, ◌∙◌}
use mathlib.Core.Bool.{Bool, true, false, cond, not, ◌&&◌}
use Prim.Native.Nat.{ℕ}
use lib.ListN.{length}
use Rattle.model.specs.Bytes.{same}
use Rattle.model.specs.Path.{Path, below}
use Rattle.model.specs.Map.{lookup, rekey}
use Rattle.model.specs.Tree.{Table, Tree, View, shown, Kind, nothing, a_directory, a_file, a_link, kind, is_nothing}
use Rattle.model.specs.Checks.{Check, pass, refuse, ◌then◌, parent_checks, not_root, no_visible_child, Memory, charged}
use Rattle.model.specs.Rename.{not_link, not_deleted, no_clash, present, if_directory, plan, budget, walk_from, walked, carried, moved, keys_fit}
use Rattle.model.specs.Rename.{rename_paths, rename_types, directory_memory, rename_memory, onto_itself, rename_checks}
use Rattle.model.proofs.Orders.{Split, split, same_no, same_refl, bot, yea, nay, test, and_true}
use Rattle.model.proofs.Invariant.{then_pass, then_both}

-- `rename_paths`: each path by itself
pub record PathsPassed (t : Table) (l : Tree) (a b : Path) : Type 0 where
  pub source_not_root : not_root 0 a ≡ pass
  pub destination_not_root : not_root 1 b ≡ pass
  pub destination_parents : parent_checks 1 (shown t l) b ≡ pass
  pub destination_no_link : not_link 1 (length b) (kind (shown t l) b) ≡ pass
  pub source_parents : parent_checks 0 (shown t l) a ≡ pass
  pub source_not_deleted : not_deleted (length a) (lookup t a) ≡ pass
  pub source_no_link : not_link 0 (length a) (kind (shown t l) a) ≡ pass

-- `rename_types`: both together
pub record TypesPassed (t : Table) (l : Tree) (a b : Path) : Type 0 where
  pub types_agree : no_clash (length b) (kind (shown t l) a) (kind (shown t l) b) ≡ pass
  pub destination_empty : if_directory (kind (shown t l) a) (if_directory (kind (shown t l) b) (no_visible_child 1 t l b)) ≡ pass
  pub not_below : cond (below a b) (refuse 10 0 (length a)) pass ≡ pass
  pub source_present : present (length a) (kind (shown t l) a) ≡ pass

-- `rename_memory`: what moving takes of the memory
pub record MemoryPassed (m : Memory) (t : Table) (l : Tree) (a b : Path) : Type 0 where
  pub plan_fits : if_directory (kind (shown t l) a) (plan m t a b) ≡ pass
  pub walk_passes : if_directory (kind (shown t l) a) (if_directory (kind (lookup l) a) (walked (length a) (walk_from t l (budget m t a b) a))) ≡ pass
  pub charge_fits : charged m (moved t l a b) ≡ pass
  pub keys_fit_lem : keys_fit m (rekey a b (carried t l a)) ≡ pass

-- all three, of two paths
pub record MovePassed (m : Memory) (t : Table) (l : Tree) (a b : Path) : Type 0 where
  pub two : a ≡ b → ⊥
  pub paths : PathsPassed t l a b
  pub types : TypesPassed t l a b
  pub memory : MemoryPassed m t l a b

pub data RenamePassed (m : Memory) (t : Table) (l : Tree) (a b : Path) : Type 0 where
  itself : onto_itself (shown t l) a b ≡ true → PathsPassed t l a b → RenamePassed m t l a b
  elsewhere : MovePassed m t l a b → RenamePassed m t l a b

-- a source that `present` passes is visible
present_visible : (n : ℕ) (k : Kind) → present n k ≡ pass → is_nothing k ≡ false
present_visible n nothing h = absurd (bot (cc))
present_visible n a_directory h = refl
present_visible n a_file h = refl
present_visible n a_link h = refl

-- what `onto_itself` says
not_false : (b : Bool) → not b ≡ true → b ≡ false
not_false true h = absurd (bot (cc))
not_false false h = refl

module _ (f : View) (a b : Path) where
  pub itself_is : onto_itself f a b ≡ true → (a ≡ b) × (is_nothing (kind f a) ≡ false)
  itself_is h =
      let e = and_true (same a b) (not (is_nothing (kind f a))) h in
      (elim (split a b) [ Split.eq x y ↦ x | Split.ne x y ↦ absurd (bot (cc)) ], not_false (is_nothing (kind f a)) e.1)

  pub two_elsewhere : (a ≡ b → ⊥) → onto_itself f a b ≡ false
  two_elsewhere n = rw (same_no a b n)

  -- a source that is there, and is not moved onto itself, is moved to another path
  pub elsewhere_two : (n : ℕ) → onto_itself f a b ≡ false → present n (kind f a) ≡ pass → a ≡ b → ⊥
  elsewhere_two n h p e =
      let o : true ≡ false = sym (ap₂ (λ (x y : Bool). x && not y) (ap (same a) (sym e) ∙ same_refl a) (present_visible n (kind f a) p)) ∙ h in
      bot (cc)

-- two checks that are made of a directory, each by itself
directory_pass : (k : Kind) (x y : Check) → if_directory k (x then y) ≡ pass → (if_directory k x ≡ pass) × (if_directory k y ≡ pass)
directory_pass nothing x y h = (refl, refl)
directory_pass a_directory x y h = then_pass x y h
directory_pass a_file x y h = (refl, refl)
directory_pass a_link x y h = (refl, refl)

module _ (t : Table) (l : Tree) (a b : Path) where
  pub paths_passed : rename_paths t l a b ≡ pass → PathsPassed t l a b
  paths_passed h =
      let f = shown t l in
      let from = then_pass (not_root 0 a) _ h in
      let to = then_pass (not_root 1 b) _ from.1 in
      let above = then_pass (parent_checks 1 f b) _ to.1 in
      let shows = then_pass (not_link 1 (length b) (kind f b)) _ above.1 in
      let over = then_pass (parent_checks 0 f a) _ shows.1 in
      let last = then_pass (not_deleted (length a) (lookup t a)) (not_link 0 (length a) (kind f a)) over.1 in
      record {
        source_not_root = from.0;
        destination_not_root = to.0;
        destination_parents = above.0;
        destination_no_link = shows.0;
        source_parents = over.0;
        source_not_deleted = last.0;
        source_no_link = last.1;
      }

  pub passed_paths : PathsPassed t l a b → rename_paths t l a b ≡ pass
  passed_paths p =
      let f = shown t l in
      then_both (not_root 0 a) _ p.source_not_root (
      then_both (not_root 1 b) _ p.destination_not_root (
      then_both (parent_checks 1 f b) _ p.destination_parents (
      then_both (not_link 1 (length b) (kind f b)) _ p.destination_no_link (
      then_both (parent_checks 0 f a) _ p.source_parents (
      then_both (not_deleted (length a) (lookup t a)) _ p.source_not_deleted p.source_no_link)))))

  pub types_passed : rename_types t l a b ≡ pass → TypesPassed t l a b
  types_passed h =
      let f = shown t l in
      let clash = then_pass (no_clash (length b) (kind f a) (kind f b)) _ h in
      let vacant = then_pass (if_directory (kind f a) (if_directory (kind f b) (no_visible_child 1 t l b))) _ clash.1 in
      let last = then_pass (cond (below a b) (refuse 10 0 (length a)) pass) (present (length a) (kind f a)) vacant.1 in
      record { types_agree = clash.0; destination_empty = vacant.0; not_below = last.0; source_present = last.1 }

  pub passed_types : TypesPassed t l a b → rename_types t l a b ≡ pass
  passed_types p =
      let f = shown t l in
      then_both (no_clash (length b) (kind f a) (kind f b)) _ p.types_agree (
      then_both (if_directory (kind f a) (if_directory (kind f b) (no_visible_child 1 t l b))) _ p.destination_empty (
      then_both (cond (below a b) (refuse 10 0 (length a)) pass) _ p.not_below p.source_present))

module _ (m : Memory) (t : Table) (l : Tree) (a b : Path) where
  memory_passed : rename_memory m t l a b ≡ pass → MemoryPassed m t l a b
  memory_passed h =
      let first = then_pass (directory_memory m t l a b) _ h in
      let walk = if_directory (kind (lookup l) a) (walked (length a) (walk_from t l (budget m t a b) a)) in
      let both = directory_pass (kind (shown t l) a) (plan m t a b) walk first.0 in
      let last = then_pass (charged m (moved t l a b)) (keys_fit m (rekey a b (carried t l a))) first.1 in
      record { plan_fits = both.0; walk_passes = both.1; charge_fits = last.0; keys_fit_lem = last.1 }

  pub rename_passed : rename_checks m t l a b ≡ pass → RenamePassed m t l a b
  rename_passed h =
      let later = rename_types t l a b then rename_memory m t l a b in
      let first = then_pass (rename_paths t l a b) (cond (onto_itself (shown t l) a b) pass later) h in
      let paths = paths_passed t l a b first.0 in
      elim (test (onto_itself (shown t l) a b)) [
        | yea e ↦ RenamePassed.itself e paths
        | nay e ↦
            let last = then_pass (rename_types t l a b) (rename_memory m t l a b) (sym (ap (λ (x : Bool). cond x pass later) e) ∙ first.1) in
            let types = types_passed t l a b last.0 in
            RenamePassed.elsewhere (record {
              two = elsewhere_two (shown t l) a b (length a) e types.source_present;
              paths = paths;
              types = types;
              memory = memory_passed last.1;
            })
      ]
