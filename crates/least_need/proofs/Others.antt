-- No check but those of the limit gives 11: so what the rules give without a limit is never 11.
-- Assumes nothing.
use mathlib.Core.Path.{◌≡◌, refl}
use mathlib.Core.List.{List, [], ◌∷◌}
use mathlib.Core.Bool.{Bool, true, false, cond, ◌||◌}
use mathlib.Core.Option.{Option, none, some}
use Prim.Native.Nat.{ℕ, ◌+◌}
use lib.Dec.{eqb, ltb}
use lib.ListN.{length}
use Rattle.model.specs.Bytes.{every}
use Rattle.model.specs.Path.{Path, short, below, ancestors}
use Rattle.model.specs.Map.{lookup, keys, rekey}
use Rattle.model.specs.Tree.{Entry, own, reference, directory, deleted, Table, Tree, View, shown, Kind, nothing, a_directory, a_file, a_link, kind, is_directory}
use Rattle.model.specs.Checks.{Check, pass, refuse, ◌then◌, unless, parent_at, parents_in, parent_checks, write_at, write_checks, ancestor_at, ancestors_in, mkdir_parents, mkdir_at}
use Rattle.model.specs.Checks.{unlink_at, unlink_entry, not_root, visible_child, no_visible_child, directory_at, rmdir_entry, unlimited}
use Rattle.model.specs.Rename.{Walk, sum, over_budget, stopped, at_link, walk_from, walked, not_link, not_deleted, no_clash, present, carried}
use Rattle.model.specs.Rename.{directory_memory, rename_paths, rename_types, onto_itself}
use Rattle.model.specs.Content.{needed, own_at}
use Rattle.model.specs.Calls.{Call, write, append, write_inside, mkdir, unlink, rmdir, rename, rules}
use Rattle.model.proofs.Walks.{walk_budget}
use Rattle.least_need.specs.Need.{key_checks, other_rules}

-- whether a check gives 11
abbrev pub over_limit : Check → Bool
over_limit pass = false
over_limit (refuse n w k) = eqb n 11

-- a check that does not
record Other (x : Check) : Type 0 where
  holds : over_limit x ≡ false

by : {x : Check} → over_limit x ≡ false → Other x
by h = record { holds = h }

infixr 30 ◌next◌
◌next◌ : {x y : Check} → Other x → Other y → Other (x then y)
◌next◌ {x = x} {y = y} h g = by (go x h.holds)
  where
    go : (x : Check) → over_limit x ≡ false → over_limit (x then y) ≡ false
    go pass e = g.holds
    go (refuse n w k) e = e

other_unless : (n : ℕ) (b : Bool) → eqb n 11 ≡ false → Other (unless n b)
other_unless n true h = by refl
other_unless n false h = by h

other_cond : (b : Bool) {x y : Check} → Other x → Other y → Other (cond b x y)
other_cond true h g = h
other_cond false h g = g

other_parent : (w n : ℕ) (k : Kind) → Other (parent_at w n k)
other_parent w n nothing = by refl
other_parent w n a_directory = by refl
other_parent w n a_file = by refl
other_parent w n a_link = by refl

other_parents : (w n : ℕ) (g : Path → Kind) (qs : List Path) → Other (parents_in w n g qs)
other_parents w n g [] = by refl
other_parents w n g (q ∷ qs) = other_parent w n (g q) next other_parents w n g qs

other_ancestor : (j n : ℕ) (k : Kind) → Other (ancestor_at j n k)
other_ancestor j n nothing = by refl
other_ancestor j n a_directory = by refl
other_ancestor j n a_file = by refl
other_ancestor j n a_link = by refl

other_ancestors : (n : ℕ) (g : Path → Kind) (qs : List Path) → Other (ancestors_in n g qs)
other_ancestors n g [] = by refl
other_ancestors n g (q ∷ qs) = other_ancestor (length q) n (g q) next other_ancestors n g qs

other_above : (f : View) (p : Path) (w : ℕ) → Other (parent_checks w f p)
other_above f p w = other_parents w (length p) (kind f) (ancestors p)

other_write_at : (n : ℕ) (k : Kind) → Other (write_at n k)
other_write_at n nothing = by refl
other_write_at n a_directory = by refl
other_write_at n a_file = by refl
other_write_at n a_link = by refl

other_write : (f : View) (p : Path) → Other (write_checks f p)
other_write f p = other_above f p 0 next other_write_at (length p) (kind f p)

other_made : (f : View) (p : Path) (up : Bool) → Other (mkdir_parents f p up)
other_made f p true = other_ancestors (length p) (kind f) (ancestors p)
other_made f p false = other_above f p 0

other_mkdir_at : (n : ℕ) (ok : Bool) (k : Kind) (x : Check) → Other x → Other (mkdir_at n ok k x)
other_mkdir_at n ok nothing x h = h
other_mkdir_at n ok a_directory x h = other_cond ok (by refl) (by refl)
other_mkdir_at n ok a_file x h = by refl
other_mkdir_at n ok a_link x h = by refl

other_unlink_at : (n : ℕ) (k : Kind) → Other (unlink_at n k)
other_unlink_at n nothing = by refl
other_unlink_at n a_directory = by refl
other_unlink_at n a_file = by refl
other_unlink_at n a_link = by refl

other_unlink_entry : (n : ℕ) (o : Option Entry) (x : Check) → Other x → Other (unlink_entry n o x)
other_unlink_entry n none x h = h
other_unlink_entry n (some (own m c)) x h = by refl
other_unlink_entry n (some (reference m z q)) x h = by refl
other_unlink_entry n (some (directory m)) x h = by refl
other_unlink_entry n (some deleted) x h = by refl

other_directory_at : (n : ℕ) (k : Kind) → Other (directory_at n k)
other_directory_at n nothing = by refl
other_directory_at n a_directory = by refl
other_directory_at n a_file = by refl
other_directory_at n a_link = by refl

other_rmdir_entry : (n : ℕ) (o : Option Entry) (x : Check) → Other x → Other (rmdir_entry n o x)
other_rmdir_entry n none x h = h
other_rmdir_entry n (some (own m c)) x h = by refl
other_rmdir_entry n (some (reference m z q)) x h = by refl
other_rmdir_entry n (some (directory m)) x h = by refl
other_rmdir_entry n (some deleted) x h = by refl

other_root : (w : ℕ) (p : Path) → Other (not_root w p)
other_root w [] = by refl
other_root w (c ∷ p) = by refl

other_link : (w n : ℕ) (k : Kind) → Other (not_link w n k)
other_link w n nothing = by refl
other_link w n a_directory = by refl
other_link w n a_file = by refl
other_link w n a_link = by refl

other_deleted : (n : ℕ) (o : Option Entry) → Other (not_deleted n o)
other_deleted n none = by refl
other_deleted n (some (own m c)) = by refl
other_deleted n (some (reference m z q)) = by refl
other_deleted n (some (directory m)) = by refl
other_deleted n (some deleted) = by refl

other_clash : (n : ℕ) (k j : Kind) → Other (no_clash n k j)
other_clash n k nothing = by refl
other_clash n k a_directory = other_cond (is_directory k) (by refl) (by refl)
other_clash n k a_file = other_cond (is_directory k) (by refl) (by refl)
other_clash n k a_link = by refl

other_present : (n : ℕ) (k : Kind) → Other (present n k)
other_present n nothing = by refl
other_present n a_directory = by refl
other_present n a_file = by refl
other_present n a_link = by refl

other_walked : (n : ℕ) (w : Walk) → (w ≡ over_budget → ⊥) → Other (walked n w)
other_walked n (sum s) h = by refl
other_walked n over_budget h = absurd (h refl)
other_walked n (stopped at_link s) h = by refl

module _ (t : Table) (l : Tree) where
  other_empty : (w : ℕ) (p : Path) → Other (no_visible_child w t l p)
  other_empty w p =
      other_cond (visible_child (shown t l) p (keys t) || visible_child (shown t l) p (keys l)) (by refl) (by refl)

  module _ (a b : Path) where
    other_paths : Other (rename_paths t l a b)
    other_paths =
        other_root 0 a
        next other_root 1 b
        next other_above (shown t l) b 1
        next other_link 1 (length b) (kind (shown t l) b)
        next other_above (shown t l) a 0
        next other_deleted (length a) (lookup t a)
        next other_link 0 (length a) (kind (shown t l) a)

    other_types : Other (rename_types t l a b)
    other_types =
        let k = is_directory (kind (shown t l) a) in
        let j = is_directory (kind (shown t l) b) in
        other_clash (length b) (kind (shown t l) a) (kind (shown t l) b)
        next other_cond k (other_cond j (other_empty 1 b) (by refl)) (by refl)
        next other_cond (below a b) (by refl) (by refl)
        next other_present (length a) (kind (shown t l) a)

    other_moves : Other (directory_memory unlimited t l a b)
    other_moves =
        let w = other_walked (length a) (walk_from t l none a) (walk_budget t l a) in
        other_cond (is_directory (kind (shown t l) a)) (other_cond (is_directory (kind (lookup l) a)) w (by refl)) (by refl)

  other_plain : (c : Call) → Other (rules unlimited t l c)
  other_plain (write p m c) = other_write (shown t l) p next by refl
  other_plain (append p m d b) = (other_write (shown t l) p next other_unless 17 (eqb (length b) (needed (shown t l p))) refl) next by refl
  other_plain (write_inside p m o d) =
      (other_cond (own_at (shown t l) p) (by refl) (by refl)
      next other_unless 18 (ltb (o + length d) 0x1_0000_0000_0000_0000) refl) next by refl
  other_plain (mkdir p up ok m) = other_mkdir_at (length p) ok (kind (shown t l) p) _ (other_made (shown t l) p up next by refl)
  other_plain (unlink p) =
      other_unlink_entry (length p) (lookup t p) _ (other_above (shown t l) p 0 next other_unlink_at (length p) (kind (shown t l) p)) next by refl
  other_plain (rmdir p) =
      (other_root 0 p
      next other_rmdir_entry (length p) (lookup t p) _ (other_above (shown t l) p 0 next other_directory_at (length p) (kind (shown t l) p))
      next other_empty 0 p) next by refl
  other_plain (rename a b) = other_paths a b next other_cond (onto_itself (shown t l) a b) (by refl) (other_types a b next other_moves a b next by refl)

  other_keys : (c : Call) → Other (key_checks t l c)
  other_keys (write p m c) = by refl
  other_keys (append p m d b) = by refl
  other_keys (write_inside p m o d) = by refl
  other_keys (mkdir p up ok m) = by refl
  other_keys (unlink p) = by refl
  other_keys (rmdir p) = by refl
  other_keys (rename a b) =
      let ks = keys (rekey a b (carried t l a)) in
      other_cond (onto_itself (shown t l) a b) (by refl) (other_unless 12 (every short ks) refl)

  pub other_rules_lem : (c : Call) → over_limit (other_rules t l c) ≡ false
  other_rules_lem c = (other_plain c next other_keys c).holds
