-- Demand 3 on lists, for one call: what is accepted the plain tree's rules accept, what they allow is refused only with a cause, and an accepted call keeps
-- the invariant and the equality of the visible tree with the plain one.
use mathlib.Core.Path.{◌≡◌, refl, ap, sym, ◌∙◌, fun_ext, subst, subst⁻¹}
use mathlib.Core.Logic.{◌↔◌, inl, inr}
use mathlib.Core.List.{List, [], ◌∷◌}
use mathlib.Core.Bool.{Bool, true, false, cond, ◌||◌}
use mathlib.Core.Option.{Option, none, some}
use Prim.Native.Nat.{ℕ, ◌+◌, ◌-◌, ◌<◌}
use native.Mathlib.Omega.{arith}
use lib.Dec.{leb}
use lib.ListN.{length}
use borrow.Author.Tests.{leb-false}
use Rattle.model.specs.Bytes.{Bytes, every, cons_if, same}
use Rattle.model.specs.Path.{Path, short, below, ancestors, rest}
use Rattle.model.specs.Map.{lookup, put, puts, del, each, keys, rekey, outside}
use Rattle.model.specs.Tree.{held, Node, dir, file, link, Entry, own, reference, directory, deleted, Table, Tree, View, view, over, shown}
use Rattle.model.specs.Tree.{Kind, nothing, a_directory, a_file, a_link, kind_of, kind, is_nothing, is_directory}
use Rattle.model.specs.Table.{charge}
use Rattle.model.specs.Checks.{Check, pass, refuse, ◌then◌, unless, parent_checks, write_checks, mkdir_at, mkdir_parents, missing, makes, unlink_at, unlink_checks}
use Rattle.model.specs.Checks.{no_visible_child, rmdir_checks, Memory, limited, unlimited, charged}
use Rattle.model.specs.Rename.{not_link, not_deleted, no_clash, present, if_directory, planned, plan, budget, at_link, stops, Walk, sum, over_budget, stopped, walk_from, walked}
use Rattle.model.specs.Rename.{carried, moved, keys_fit, rename_paths, rename_types, plan_and_walk, directory_memory, rename_memory, onto_itself, rename_checks}
use Rattle.model.specs.Content.{is_own, content_of, appended, append_checks, append_memory, inside_checks, spliced}
use Rattle.model.specs.Calls.{Call, write, append, write_inside, mkdir, unlink, rmdir, rename, changed, rules}
use Rattle.model.specs.Plain.{plain_write, plain_effect}
use Rattle.model.specs.Cause.{MovesDirectory, Exceeds, charge_above, plan_above, walk_above, content_above, key_above}
use Rattle.model.proofs.Orders.{same_refl, bot, yea, nay, test, mem}
use Rattle.model.proofs.Orders.{rest_self, rest_below, rest_nil, below_rest}
use Rattle.model.proofs.Maps.{upd, or_else, lookup_put, lookup_del, lookup_puts, lookup_each, Ascending, ascending_put, ascending_del, ascending_puts, ascending_outside}
use Rattle.model.proofs.Invariant.{kind_is, nothing_is, directory_is, file_is, link_is, entry_at, at_none, at_own, at_reference, at_directory, at_deleted}
use Rattle.model.proofs.Invariant.{Closed, closed_above, Inv, shown_put, shown_over, kind_at, kind_entry, then_pass, then_both, parents_dirs, parents_pass, inv_empty}
use Rattle.model.proofs.Small.{write_inv, unlink_inv, unlink_regular, rmdir_inv, RmdirOk, rmdir_ok, ok_rmdir, met_nothing, met_directory, mkdir_met, makes_missing, makes_none, mkdir_inv, mkdir_up, mkdir_lookup, made_at, childless_empty, empty_childless, root_refused, root_passes}
use Rattle.model.proofs.Contents.{append_passed, inside_passed, inside_write}
use Rattle.model.proofs.Moves.{Held, RenameOk, move_view, move_inv, move_tree, plain_move_lem, entry_free, listed_stop, kind_link, kind_absent}
use Rattle.model.proofs.Passed.{PathsPassed, TypesPassed, MovePassed, RenamePassed, two_elsewhere, passed_paths, passed_types, rename_passed}
use Rattle.model.proofs.Itself.{ItselfOk, itself_ok, exists_there, itself_onto, itself_checks}
use Rattle.model.proofs.Walks.{Met, walk_stops, walk_met, walk_budget, walk_over}

-- the table t over the listing l and the plain tree s: the invariant, and the same tree
pub record Sound (t : Table) (l s : Tree) : Type 0 where
  pub inv : Inv t l
  pub tree : shown t l ≡ lookup s
  pub sorted : Ascending s

-- a check passes, or it refuses with 11 or 12 and with their cause
pub data Caused (E limit : ℕ) (t : Table) (l : Tree) (c : Call) : Check → Type 0 where
  passed : Caused E limit t l c pass
  because : (n : ℕ) → Exceeds E limit t l c n → Caused E limit t l c (refuse n 0 0)

-- without a limit it passes
abbrev pub Allowed : Memory → Table → Tree → Call → Check → Type 0
Allowed (limited E limit) t l c x = Caused E limit t l c x
Allowed unlimited t l c x = x ≡ pass

-- an accepted rename, by what is shown
pub data RenameIs (f : View) (a b : Path) : Type 0 where
  itself : ItselfOk f a b → RenameIs f a b
  elsewhere : RenameOk f a b → RenameIs f a b

-- what mkdir accepts
pass_nothing : (n : ℕ) (ok : Bool) (k : Kind) (y : Check) → k ≡ nothing → y ≡ pass → mkdir_at n ok k y ≡ pass
pass_nothing n ok k y e u = ap (λ (k : Kind). mkdir_at n ok k y) e ∙ u

pass_directory : (n : ℕ) (ok : Bool) (k : Kind) (y : Check) → k ≡ a_directory → ok ≡ true → mkdir_at n ok k y ≡ pass
pass_directory n ok k y e u = ap (λ (k : Kind). mkdir_at n ok k y) e ∙ ap (λ (b : Bool). cond b pass (refuse 6 0 n)) u

module _ (t : Table) (l : Tree) (c : Call) where
  caused_then : {E limit : ℕ} {x y : Check} → Caused E limit t l c x → Caused E limit t l c y → Caused E limit t l c (x then y)
  caused_then passed d = d
  caused_then (because n e) d = because n e

  allowed_then : (m : Memory) (x y : Check) → Allowed m t l c x → Allowed m t l c y → Allowed m t l c (x then y)
  allowed_then (limited E limit) x y a b = caused_then a b
  allowed_then unlimited x y a b = cc

  allowed_pass : (m : Memory) (x : Check) → x ≡ pass → Allowed m t l c x
  allowed_pass (limited E limit) x h = subst⁻¹ (Caused E limit t l c) h passed
  allowed_pass unlimited x h = h

  -- a refusal by a test that fails only with a cause
  -- a check that mkdir accepts with y left out
  allowed_mkdir : (m : Memory) (n : ℕ) (ok : Bool) (k : Kind) (x y : Check) → mkdir_at n ok k (x then pass) ≡ pass → Allowed m t l c y → Allowed m t l c (mkdir_at n ok k (x then y))
  allowed_mkdir m n ok k x y h a = elim (mkdir_met n ok k (x then pass) h) [
    | met_nothing e u ↦ subst⁻¹ (λ (k : Kind). Allowed m t l c (mkdir_at n ok k (x then y))) e (allowed_then m x y (allowed_pass m x (then_pass x pass u).0) a)
    | met_directory e u ↦ allowed_pass m (mkdir_at n ok k (x then y)) (pass_directory n ok k (x then y) e u)
  ]

  caused_unless : (E limit n : ℕ) (b : Bool) → (b ≡ false → Exceeds E limit t l c n) → Caused E limit t l c (unless n b)
  caused_unless E limit n true h = passed
  caused_unless E limit n false h = because n (h refl)

  allowed_charged : (m : Memory) → Allowed m t l c (charged m (changed t l c))
  allowed_charged (limited E limit) = caused_unless E limit 11 (leb (charge E (changed t l c)) limit) (λ h. charge_above (leb-false (charge E (changed t l c)) limit h))
  allowed_charged unlimited = refl

  -- append's budget, unless the file is an own one
  allowed_content : (m : Memory) (p : Path) (e : ℕ) (d b : Bytes) → c ≡ append p e d b
      → Allowed m t l c (append_memory m t (shown t l p) (length (appended (shown t l p) d b)))
  allowed_content (limited E limit) p e d b h =
      go (is_own (shown t l p)) (length (appended (shown t l p) d b)) (content_above p e d b h)
    where
      go : (o : Bool) (n : ℕ) → (limit < charge E t + n → Exceeds E limit t l c 11) → Caused E limit t l c (unless 11 (o || leb (charge E t + n) limit))
      go true n y = passed
      go false n y = caused_unless E limit 11 (leb (charge E t + n) limit) (λ x. y (leb-false (charge E t + n) limit x))
  allowed_content unlimited p e d b h = refl

  allowed_plan : (m : Memory) (a b : Path) → MovesDirectory t l c a b → Allowed m t l c (plan m t a b)
  allowed_plan (limited E limit) a b d = caused_then
      (caused_unless E limit 11 (leb (charge E t) limit) (λ h. let e = leb-false (charge E t) limit h in plan_above a b d (omega arith)))
      (caused_unless E limit 11 (leb (planned a b t) (limit - charge E t)) (λ h. let e = leb-false (planned a b t) (limit - charge E t) h in plan_above a b d (omega arith)))
  allowed_plan unlimited a b d = refl

  allowed_keys : (m : Memory) (a b : Path) → c ≡ rename a b → Allowed m t l c (keys_fit m (rekey a b (carried t l a)))
  allowed_keys (limited E limit) a b e = caused_unless E limit 12 (every short (keys (rekey a b (carried t l a)))) (λ h. key_above a b e h)
  allowed_keys unlimited a b e = refl

  -- the walk, where no node that stops it is to be met
  allowed_walk : Ascending l → (m : Memory) (a b : Path) → MovesDirectory t l c a b → kind (lookup l) a ≡ a_directory → (Met t l a → ⊥)
      → Allowed m t l c (walked (length a) (walk_from t l (budget m t a b) a))
  allowed_walk asc (limited E limit) a b d k no_stop = go (walk_from t l (some B) a) refl
    where
      B : ℕ
      B = limit - charge E t - planned a b t

      go : (w : Walk) → walk_from t l (some B) a ≡ w → Caused E limit t l c (walked (length a) w)
      go (sum s) e = passed
      go (stopped y n) e = absurd (no_stop (walk_met t l (some B) a y n asc e))
      go over_budget e = elim (walk_over t l a B e) [
        | inl x ↦ absurd (no_stop (walk_met t l none a x.0 x.1 asc x.2))
        | inr x ↦ let h = x.2 in because 11 (walk_above a b x.0 d k x.1 x.3 (omega arith))
      ]
  allowed_walk asc unlimited a b d k no_stop = go (walk_from t l none a) refl
    where
      go : (w : Walk) → walk_from t l none a ≡ w → walked (length a) w ≡ pass
      go (sum s) e = refl
      go (stopped y n) e = absurd (no_stop (walk_met t l none a y n asc e))
      go over_budget e = absurd (walk_budget t l a e)

module _ (t : Table) (l : Tree) (cl : Closed (lookup l)) (i : Inv t l) (a b : Path) where
  -- a walk that goes through has met no visible node that stops it
  no_stop_below : (B : Option ℕ) (n : ℕ) → if_directory (kind (lookup l) a) (walked n (walk_from t l B a)) ≡ pass
      → (q : Path) (x : Node) → below a q ≡ true → shown t l q ≡ some x → stops x ≡ true → ⊥
  no_stop_below B n h q x y g e =
      let z = listed_stop t l i a b q x g e in
      go z.0 z.1 (cl a q x y z.0) (walk_from t l B a) refl
    where
      go : lookup l q ≡ some x → lookup t q ≡ none → kind (lookup l) a ≡ a_directory → (w : Walk) → walk_from t l B a ≡ w → ⊥
      go z free d (sum s) u = walk_stops t l B a cl s u q x y z e free (λ p v w. entry_free t l cl i p q x w z free)
      go z free d over_budget u = bot (cc)
      go z free d (stopped at_link s) u = bot (cc)

  -- a source that is no link does not stop the walk
  no_stop_at : (n : ℕ) → not_link 0 n (kind (shown t l) a) ≡ pass → (a ≡ [] → ⊥) → (x : Node) → shown t l a ≡ some x → stops x ≡ true → ⊥
  no_stop_at n h r (dir m) g e = bot (cc)
  no_stop_at n h r (file m z c) g e = bot (cc)
  no_stop_at n h r link g e = bot (cc (kind_at (shown t l) a (some link) g r))

  moved_ok : (m : Memory) → MovePassed m t l a b → RenameOk (shown t l) a b
  moved_ok m p =
      let from = root_refused 0 a p.paths.source_not_root in
      let to = root_refused 1 b p.paths.destination_not_root in
      let ty = p.types.types_agree in
      record {
        two = p.two;
        source = from;
        target = to;
        up = λ q z. parents_dirs 1 (length b) (kind (shown t l)) b q p.paths.destination_parents z;
        found = found' p.types.source_present from;
        apart = apart' p.types.not_below;
        free = free' ty p.types.destination_empty;
        unstopped = unstopped' p.memory.walk_passes p.paths.source_no_link from;
        target_link = link' p.paths.destination_no_link to;
        over_dir = dir' ty;
        over_file = file' ty p.types.source_present p.paths.source_no_link;
      }
    where
      found' : present (length a) (kind (shown t l) a) ≡ pass → (a ≡ [] → ⊥) → shown t l a ≡ none → ⊥
      found' h r e = bot (cc (kind_at (shown t l) a none e r))

      apart' : cond (below a b) (refuse 10 0 (length a)) pass ≡ pass → below a b ≡ true → ⊥
      apart' h e = bot (cc)

      dir' : no_clash (length b) (kind (shown t l) a) (kind (shown t l) b) ≡ pass → kind (shown t l) b ≡ a_directory → kind (shown t l) a ≡ a_directory
      dir' h e = elim (kind_is (kind (shown t l) a)) [ directory_is k ↦ k | nothing_is k ↦ cc | file_is k ↦ cc | link_is k ↦ cc ]

      free' : no_clash (length b) (kind (shown t l) a) (kind (shown t l) b) ≡ pass
          → if_directory (kind (shown t l) a) (if_directory (kind (shown t l) b) (no_visible_child 1 t l b)) ≡ pass → (q : Path) (n : Node) → below b q ≡ true → shown t l q ≡ some n → ⊥
      free' h g q n z e = let c = i.closed b q n z e in let d = dir' h c in childless_empty t l b 1 i.closed (cc) q n z e

      unstopped' : if_directory (kind (shown t l) a) (if_directory (kind (lookup l) a) (walked (length a) (walk_from t l (budget m t a b) a))) ≡ pass
          → not_link 0 (length a) (kind (shown t l) a) ≡ pass → (a ≡ [] → ⊥) → (q s : Path) (n : Node) → rest a q ≡ some s → shown t l q ≡ some n → stops n ≡ true → ⊥
      unstopped' h g r q [] n e z y = no_stop_at (length a) g r n (cc (rest_nil a q e)) y
      unstopped' h g r q (c ∷ s) n e z y =
          let u = rest_below a q c s e in
          let k = i.closed a q n u z in
          no_stop_below (budget m t a b) (length a) (cc) q n u z y

      link' : not_link 1 (length b) (kind (shown t l) b) ≡ pass → (b ≡ [] → ⊥) → shown t l b ≡ some link → ⊥
      link' h r e = bot (cc (kind_at (shown t l) b (some link) e r))

      file' : no_clash (length b) (kind (shown t l) a) (kind (shown t l) b) ≡ pass → present (length a) (kind (shown t l) a) ≡ pass
          → not_link 0 (length a) (kind (shown t l) a) ≡ pass → kind (shown t l) b ≡ a_file → kind (shown t l) a ≡ a_file
      file' h g r e = elim (kind_is (kind (shown t l) a)) [ directory_is k ↦ cc | nothing_is k ↦ cc | file_is k ↦ k | link_is k ↦ cc ]

  pub rename_ok : (m : Memory) → rename_checks m t l a b ≡ pass → RenameIs (shown t l) a b
  rename_ok m h = elim (rename_passed m t l a b h) [
    | RenamePassed.itself e p ↦ RenameIs.itself (itself_ok t l a b e p)
    | RenamePassed.elsewhere p ↦ RenameIs.elsewhere (moved_ok m p)
  ]

  ok_move : Ascending l → RenameOk (shown t l) a b → (m : Memory) → Allowed m t l (rename a b) (rename_checks m t l a b)
  ok_move asc o m =
      let e = two_elsewhere (shown t l) a b o.two in
      let later = rename_types t l a b then rename_memory m t l a b in
      next (rename_paths t l a b) _ (fine (rename_paths t l a b) (passed_paths t l a b paths'))
      (subst⁻¹ (λ (x : Bool). Allowed m t l (rename a b) (cond x pass later)) e (
      next (rename_types t l a b) _ (fine (rename_types t l a b) (passed_types t l a b types')) (
      next (directory_memory m t l a b) _ (directory' e) (
      next (charged m (moved t l a b)) _ (subst (λ (x : Bool). Allowed m t l (rename a b) (charged m (cond x t (moved t l a b)))) e (allowed_charged t l (rename a b) m))
      (allowed_keys t l (rename a b) m a b refl)))))
    where
      ka : Kind
      ka = kind (shown t l) a

      kb : Kind
      kb = kind (shown t l) b

      next : (x y : Check) → Allowed m t l (rename a b) x → Allowed m t l (rename a b) y → Allowed m t l (rename a b) (x then y)
      next = allowed_then t l (rename a b) m

      fine : (x : Check) → x ≡ pass → Allowed m t l (rename a b) x
      fine = allowed_pass t l (rename a b) m

      no_a : ka ≡ a_link → ⊥
      no_a z = o.unstopped a [] link (rest_self a) (kind_link t l i a b a o.source z) refl

      no_b : kb ≡ a_link → ⊥
      no_b z = o.target_link (kind_link t l i a b b o.target z)

      is_a : ka ≡ nothing → ⊥
      is_a z = o.found (kind_absent t l i a b a o.source z)

      link_b : not_link 1 (length b) kb ≡ pass
      link_b = elim (kind_is kb) [ link_is z ↦ absurd (no_b z) | nothing_is z ↦ cc | file_is z ↦ cc | directory_is z ↦ cc ]

      link_a : not_link 0 (length a) ka ≡ pass
      link_a = elim (kind_is ka) [ link_is z ↦ absurd (no_a z) | nothing_is z ↦ cc | file_is z ↦ cc | directory_is z ↦ cc ]

      there : not_deleted (length a) (lookup t a) ≡ pass
      there = elim (entry_at (lookup t a)) [ at_none z ↦ cc | at_own m d z ↦ cc | at_reference m s p z ↦ cc | at_directory m z ↦ cc | at_deleted z ↦ absurd (o.found (cc)) ]

      agree : no_clash (length b) ka kb ≡ pass
      agree = elim (kind_is kb) [
        | link_is z ↦ cc
        | nothing_is z ↦ cc
        | directory_is z ↦ cc (o.over_dir z)
        | file_is z ↦ cc (o.over_file z)
      ]

      vacant : if_directory ka (if_directory kb (no_visible_child 1 t l b)) ≡ pass
      vacant = let e = empty_childless t l b 1 o.free in elim (test (is_directory ka)) [ nay z ↦ cc | yea z ↦ elim (test (is_directory kb)) [ yea y ↦ cc | nay y ↦ cc ] ]

      apart' : cond (below a b) (refuse 10 0 (length a)) pass ≡ pass
      apart' = elim (test (below a b)) [ yea z ↦ absurd (o.apart z) | nay z ↦ cc ]

      found' : present (length a) ka ≡ pass
      found' = elim (kind_is ka) [ nothing_is z ↦ absurd (is_a z) | link_is z ↦ cc | file_is z ↦ cc | directory_is z ↦ cc ]

      paths' : PathsPassed t l a b
      paths' = record {
        source_not_root = root_passes 0 a o.source;
        destination_not_root = root_passes 1 b o.target;
        destination_parents = parents_pass 1 (length b) (kind (shown t l)) b o.up;
        destination_no_link = link_b;
        source_parents = parents_pass 0 (length a) (kind (shown t l)) a (closed_above (shown t l) i.closed a is_a);
        source_not_deleted = there;
        source_no_link = link_a;
      }

      types' : TypesPassed t l a b
      types' = record { types_agree = agree; destination_empty = vacant; not_below = apart'; source_present = found' }

      if_dir : (k : Kind) (x : Check) → (k ≡ a_directory → Allowed m t l (rename a b) x) → Allowed m t l (rename a b) (if_directory k x)
      if_dir nothing x h = fine pass refl
      if_dir a_directory x h = h refl
      if_dir a_file x h = fine pass refl
      if_dir a_link x h = fine pass refl

      met : Met t l a → ⊥
      met x = let r = below_rest a x.path x.under in o.unstopped x.path (47 ∷ r.0) x.node r.1 (cc (x.is_there, x.free)) x.ends

      directory' : onto_itself (shown t l) a b ≡ false → Allowed m t l (rename a b) (directory_memory m t l a b)
      directory' e = if_dir ka (plan_and_walk m t l a b) (λ k.
          let moves : MovesDirectory t l (rename a b) a b = record { renames = refl; moves = k; elsewhere = e } in
          next (plan m t a b) _ (allowed_plan t l (rename a b) m a b moves) (
          if_dir (kind (lookup l) a) (walked (length a) (walk_from t l (budget m t a b) a)) (λ d.
          allowed_walk t l (rename a b) asc m a b moves d met)))

  ok_rename : Ascending l → RenameIs (shown t l) a b → (m : Memory) → Allowed m t l (rename a b) (rename_checks m t l a b)
  ok_rename asc (RenameIs.itself o) m = subst (λ (p : Path). Allowed m t l (rename a p) (rename_checks m t l a p)) o.one
      (allowed_pass t l (rename a a) m (rename_checks m t l a a)
      (itself_checks t l a o.visible o.proper (closed_above (shown t l) i.closed a (exists_there (kind (shown t l) a) o.visible)) m))
  ok_rename asc (RenameIs.elsewhere o) m = ok_move asc o m

-- the plain tree with directories at a path and at its missing ancestors
abbrev plain_made : Tree → Path → ℕ → Tree
plain_made s p m = puts (each (dir m) (p ∷ missing (kind (lookup s)) (ancestors p))) s

module _ (t : Table) (l s : Tree) (g : Sound t l s) where
  plain_closed : Closed (lookup s)
  plain_closed = subst Closed g.tree g.inv.closed

  plain_inv : Inv [] s
  plain_inv = inv_empty s plain_closed

  agree_write : (p : Path) → write_checks (shown t l) p ≡ write_checks (lookup s) p
  agree_write p = ap (λ (f : View). write_checks f p) g.tree

  agree_append : (p : Path) (b : Bytes) → append_checks (shown t l) p b ≡ append_checks (lookup s) p b
  agree_append p b = ap (λ (f : View). append_checks f p b) g.tree

  agree_inside : (p : Path) (o : ℕ) (d : Bytes) → inside_checks (shown t l) p o d ≡ inside_checks (lookup s) p o d
  agree_inside p o d = ap (λ (f : View). inside_checks f p o d) g.tree

  agree_kind : (p : Path) → kind (shown t l) p ≡ kind (lookup s) p
  agree_kind p = ap (λ (f : View). kind f p) g.tree

  agree_mkdir : (p : Path) (up : Bool) → mkdir_parents (shown t l) p up ≡ mkdir_parents (lookup s) p up
  agree_mkdir p up = ap (λ (f : View). mkdir_parents f p up) g.tree

  agree_unlink : (p : Path) → (unlink_checks t l p ≡ pass) ↔ (unlink_checks [] s p ≡ pass)
  agree_unlink p = (forth, back)
    where
      e : (parent_checks 0 (shown t l) p then unlink_at (length p) (kind (shown t l) p)) ≡ unlink_checks [] s p
      e = ap (λ (f : View). parent_checks 0 f p then unlink_at (length p) (kind f p)) g.tree

      shows : (x : Entry) (n : Node) → lookup t p ≡ some x → view x ≡ some n → kind_of (view x) ≡ a_file → unlink_checks [] s p ≡ pass
      shows x n h v r = sym e ∙ cc (kind_entry t l g.inv p x h, parents_pass 0 (length p) (kind (shown t l)) p (λ q b. g.inv.closed q p n b (cc)))

      forth : unlink_checks t l p ≡ pass → unlink_checks [] s p ≡ pass
      forth h = elim (entry_at (lookup t p)) [
        | at_none a ↦ cc (e)
        | at_own m d a ↦ shows (own m d) _ a refl refl
        | at_reference m z q a ↦ shows (reference m z q) _ a refl refl
        | at_directory m a ↦ cc
        | at_deleted a ↦ cc
      ]

      back : unlink_checks [] s p ≡ pass → unlink_checks t l p ≡ pass
      back h =
          let k = unlink_regular (length p) (kind (shown t l) p) (then_pass (parent_checks 0 (shown t l) p) (unlink_at (length p) (kind (shown t l) p)) (e ∙ h)).1 in
          elim (entry_at (lookup t p)) [
            | at_none a ↦ cc (e)
            | at_own m d a ↦ cc
            | at_reference m z q a ↦ cc
            | at_directory m a ↦ cc (kind_entry t l g.inv p (directory m) a)
            | at_deleted a ↦ cc (kind_entry t l g.inv p deleted a)
          ]

  agree_rmdir : (p : Path) → (rmdir_checks t l p ≡ pass) ↔ (rmdir_checks [] s p ≡ pass)
  agree_rmdir p = (
    λ h. ok_rmdir [] s plain_inv p (subst (λ (f : View). RmdirOk f p) g.tree (rmdir_ok t l g.inv p h)),
    λ h. ok_rmdir t l g.inv p (subst⁻¹ (λ (f : View). RmdirOk f p) g.tree (rmdir_ok [] s plain_inv p h)),
  )

  agree_at : (p : Path) (ok : Bool) (y : Check) → mkdir_at (length p) ok (kind (shown t l) p) y ≡ mkdir_at (length p) ok (kind (lookup s) p) y
  agree_at p ok y = ap (λ (k : Kind). mkdir_at (length p) ok k y) (agree_kind p)

  -- no call is accepted that the plain tree's rules refuse
  pub accepts : Closed (lookup l) → (m : Memory) (c : Call) → rules m t l c ≡ pass → rules unlimited [] s c ≡ pass
  accepts cl m (write p d x) h = then_both (write_checks (lookup s) p) pass
      (sym (agree_write p) ∙ (then_pass (write_checks (shown t l) p) (charged m (changed t l (write p d x))) h).0) refl
  accepts cl m (append p e d b) h =
      then_both (append_checks (lookup s) p b) (pass then pass) (sym (agree_append p b) ∙ (append_passed m t l p e d b h).checks) refl
  accepts cl m (write_inside p e o d) h =
      then_both (inside_checks (lookup s) p o d) pass (sym (agree_inside p o d) ∙ (inside_passed m t l p e o d h).checks) refl
  accepts cl m (mkdir p up ok d) h = sym (agree_at p ok (mkdir_parents (lookup s) p up then pass))
      ∙ elim (mkdir_met (length p) ok (kind (shown t l) p) (mkdir_parents (shown t l) p up then charged m (changed t l (mkdir p up ok d))) h) [
        | met_nothing e u ↦ pass_nothing (length p) ok (kind (shown t l) p) (mkdir_parents (lookup s) p up then pass) e
            (then_both (mkdir_parents (lookup s) p up) pass (sym (agree_mkdir p up) ∙ (then_pass (mkdir_parents (shown t l) p up) (charged m (changed t l (mkdir p up ok d))) u).0) refl)
        | met_directory e u ↦ pass_directory (length p) ok (kind (shown t l) p) (mkdir_parents (lookup s) p up then pass) e u
      ]
  accepts cl m (unlink p) h = then_both (unlink_checks [] s p) pass ((agree_unlink p).0 (then_pass (unlink_checks t l p) (charged m (changed t l (unlink p))) h).0) refl
  accepts cl m (rmdir p) h = let e = then_pass (rmdir_checks t l p) (charged m (changed t l (rmdir p))) h in
      then_both (rmdir_checks [] s p) pass ((agree_rmdir p).0 e.0) refl
  accepts cl m (rename a b) h =
      ok_rename [] s plain_closed plain_inv a b g.sorted (subst (λ (f : View). RenameIs f a b) g.tree (rename_ok t l cl g.inv a b m h)) unlimited

  -- and none that they allow is refused but by 11 or 12, with its cause
  pub allows : Closed (lookup l) → Ascending l → (m : Memory) (c : Call) → rules unlimited [] s c ≡ pass → Allowed m t l c (rules m t l c)
  allows cl al m (write p d x) h = allowed_then t l (write p d x) m (write_checks (shown t l) p) (charged m (changed t l (write p d x)))
      (allowed_pass t l (write p d x) m (write_checks (shown t l) p) (agree_write p ∙ (then_pass (write_checks (lookup s) p) pass h).0))
      (allowed_charged t l (write p d x) m)
  allows cl al m (append p e d b) h =
      let c = append p e d b in
      let y = append_memory m t (shown t l p) (length (appended (shown t l p) d b)) in
      allowed_then t l c m (append_checks (shown t l) p b) (y then charged m (changed t l c))
      (allowed_pass t l c m (append_checks (shown t l) p b) (agree_append p b ∙ (append_passed unlimited [] s p e d b h).checks))
      (allowed_then t l c m y (charged m (changed t l c)) (allowed_content t l c m p e d b refl) (allowed_charged t l c m))
  allows cl al m (write_inside p e o d) h =
      let c = write_inside p e o d in
      allowed_then t l c m (inside_checks (shown t l) p o d) (charged m (changed t l c))
      (allowed_pass t l c m (inside_checks (shown t l) p o d) (agree_inside p o d ∙ (inside_passed unlimited [] s p e o d h).checks))
      (allowed_charged t l c m)
  allows cl al m (mkdir p up ok d) h = allowed_mkdir t l (mkdir p up ok d) m (length p) ok (kind (shown t l) p) (mkdir_parents (shown t l) p up) (charged m (changed t l (mkdir p up ok d)))
      (ap (λ (x : Check). mkdir_at (length p) ok (kind (shown t l) p) (x then pass)) (agree_mkdir p up) ∙ agree_at p ok (mkdir_parents (lookup s) p up then pass) ∙ h)
      (allowed_charged t l (mkdir p up ok d) m)
  allows cl al m (unlink p) h = allowed_then t l (unlink p) m (unlink_checks t l p) (charged m (changed t l (unlink p)))
      (allowed_pass t l (unlink p) m (unlink_checks t l p) ((agree_unlink p).1 (then_pass (unlink_checks [] s p) pass h).0))
      (allowed_charged t l (unlink p) m)
  allows cl al m (rmdir p) h = allowed_then t l (rmdir p) m (rmdir_checks t l p) (charged m (changed t l (rmdir p)))
      (allowed_pass t l (rmdir p) m (rmdir_checks t l p) ((agree_rmdir p).1 (then_pass (rmdir_checks [] s p) pass h).0))
      (allowed_charged t l (rmdir p) m)
  allows cl al m (rename a b) h =
      ok_rename t l cl g.inv a b al (subst⁻¹ (λ (f : View). RenameIs f a b) g.tree (rename_ok [] s plain_closed plain_inv a b unlimited h)) m

  sort : (c : Call) → Ascending (plain_effect s c)
  sort (write p m c) = ascending_put p _ s g.sorted
  sort (append p m d b) = ascending_put p _ s g.sorted
  sort (write_inside p m o d) = ascending_put p _ s g.sorted
  sort (mkdir p up ok m) = elim (test (is_directory (kind (lookup s) p))) [
    | yea e ↦ rw e g.sorted
    | nay e ↦ rw e (ascending_puts (each (dir m) (p ∷ missing (kind (lookup s)) (ancestors p))) s g.sorted)
  ]
  sort (unlink p) = ascending_del p s g.sorted
  sort (rmdir p) = ascending_del p s g.sorted
  sort (rename a b) = elim (test (same a b)) [
    | yea e ↦ rw e g.sorted
    | nay e ↦ rw e (ascending_puts (rekey a b (del b s)) (outside a (del b s)) (ascending_outside a (del b s) (ascending_del b s g.sorted)))
  ]

  -- the directories that mkdir makes are those of the plain tree
  mkdir_tree : (p : Path) (m : ℕ) → kind (shown t l) p ≡ nothing
      → (λ (q : Path). over (made_at m (makes (shown t l) p) q) (shown t l q)) ≡ lookup (cond (is_directory (kind (lookup s) p)) s (plain_made s p m))
  mkdir_tree p m e =
      let k = sym (agree_kind p) ∙ e in
      let n = p ∷ missing (kind (lookup s)) (ancestors p) in
      ap (λ (f : View). (λ (q : Path). over (made_at m (makes f p) q) (f q))) g.tree
      ∙ fun_ext (λ q. ap (λ (ks : List Path). over (made_at m ks q) (lookup s q)) (makes_all (lookup s) p k)
      ∙ made_over m (mem q n) (lookup s q) ∙ ap (λ (o : Option Node). or_else o (lookup s q)) (sym (lookup_each (dir m) n q)) ∙ sym (lookup_puts (each (dir m) n) s q))
      ∙ sym (ap (λ (k : Kind). lookup (cond (is_directory k) s (plain_made s p m))) k)
    where
      makes_all : (f : View) (p : Path) → kind f p ≡ nothing → makes f p ≡ (p ∷ missing (kind f) (ancestors p))
      makes_all f p e = makes_missing f p e ∙ ap (λ (k : Kind). cons_if (is_nothing k) p (missing (kind f) (ancestors p))) e

      made_over : (m : ℕ) (b : Bool) (o : Option Node) → over (cond b (some (directory m)) none) o ≡ or_else (cond b (some (dir m)) none) o
      made_over m true o = refl
      made_over m false o = refl

  mkdir_kept : (p : Path) (up ok : Bool) (m : ℕ) (y : Check) → mkdir_at (length p) ok (kind (shown t l) p) (mkdir_parents (shown t l) p up then y) ≡ pass
      → Sound (changed t l (mkdir p up ok m)) l (plain_effect s (mkdir p up ok m))
  mkdir_kept p up ok m y h = elim (mkdir_met (length p) ok (kind (shown t l) p) (mkdir_parents (shown t l) p up then y) h) [
    | met_nothing e u ↦ record {
      inv = mkdir_inv t l g.inv p m e (mkdir_up t l g.inv p m (shown t l) up (then_pass (mkdir_parents (shown t l) p up) y u).0);
      tree = shown_over t (changed t l (mkdir p up ok m)) l (made_at m (makes (shown t l) p)) (mkdir_lookup t l g.inv p m) ∙ mkdir_tree p m e;
      sorted = sort (mkdir p up ok m);
    }
    | met_directory e u ↦ record {
      inv = subst⁻¹ (λ (x : Table). Inv x l) (still e) g.inv;
      tree = ap (λ (x : Table). shown x l) (still e) ∙ g.tree ∙ sym (ap (λ (k : Kind). lookup (cond (is_directory k) s (plain_made s p m))) (sym (agree_kind p) ∙ e));
      sorted = sort (mkdir p up ok m);
    }
  ]
    where
      still : kind (shown t l) p ≡ a_directory → changed t l (mkdir p up ok m) ≡ t
      still e = ap (λ (ks : List Path). puts (each (directory m) ks) t) (makes_none (shown t l) p e)

  -- a file whose whole content is written, whichever call does it
  written : (p : Path) (d : ℕ) (x : Bytes) → write_checks (shown t l) p ≡ pass → Sound (put p (own d x) t) l (plain_write p d x s)
  written p d x h = record {
    inv = write_inv t l g.inv p d x h;
    tree = shown_put t l p (own d x) ∙ ap (λ (f : View). upd f p (some (file d (length x) (held x)))) g.tree
        ∙ sym (fun_ext (lookup_put p (file d (length x) (held x)) s));
    sorted = ascending_put p _ s g.sorted;
  }

  -- a content made from what is there: the same from the plain tree
  written_from : (F : Option Node → Bytes) (p : Path) (d : ℕ) → write_checks (shown t l) p ≡ pass
      → Sound (put p (own d (F (shown t l p))) t) l (plain_write p d (F (lookup s p)) s)
  written_from F p d h = subst (λ (f : View). Sound (put p (own d (F (shown t l p))) t) l (plain_write p d (F (f p)) s)) g.tree
      (written p d (F (shown t l p)) h)

  rename_kept : Held l → Closed (lookup l) → (a b : Path) → RenameIs (shown t l) a b → Sound (changed t l (rename a b)) l (plain_effect s (rename a b))
  rename_kept hl cl a b (RenameIs.itself o) = subst (λ (p : Path). Sound (changed t l (rename a p)) l (plain_effect s (rename a p))) o.one
      (rw (itself_onto t l a o.visible) (rw (same_refl a) g))
  rename_kept hl cl a b (RenameIs.elsewhere o) = rw (two_elsewhere (shown t l) a b o.two) (record {
    inv = move_inv t l hl cl g.inv a b o;
    tree = move_tree t l hl cl g.inv a b o ∙ ap (move_view a b) g.tree ∙ sym (plain_move_lem s a b (subst (λ (f : View). RenameOk f a b) g.tree o));
    sorted = sort (rename a b);
  })

  -- an accepted call keeps the invariant and the tree
  pub keeps : Held l → Closed (lookup l) → (m : Memory) (c : Call) → rules m t l c ≡ pass → Sound (changed t l c) l (plain_effect s c)
  keeps hl cl m (write p d x) h = written p d x (then_pass (write_checks (shown t l) p) (charged m (changed t l (write p d x))) h).0
  keeps hl cl m (append p e d b) h = written_from (λ (o : Option Node). appended o d b) p e (append_passed m t l p e d b h).writes
  keeps hl cl m (write_inside p e o d) h = written_from (λ (x : Option Node). spliced o d (content_of x [])) p e
      (inside_write t l g.inv p (inside_passed m t l p e o d h).own)
  keeps hl cl m (mkdir p up ok d) h = mkdir_kept p up ok d (charged m (changed t l (mkdir p up ok d))) h
  keeps hl cl m (unlink p) h = let e = then_pass (unlink_checks t l p) (charged m (changed t l (unlink p))) h in record {
    inv = unlink_inv t l g.inv p e.0;
    tree = shown_put t l p deleted ∙ ap (λ (f : View). upd f p none) g.tree ∙ sym (fun_ext (lookup_del p s));
    sorted = sort (unlink p);
  }
  keeps hl cl m (rmdir p) h = let e = then_pass (rmdir_checks t l p) (charged m (changed t l (rmdir p))) h in record {
    inv = rmdir_inv t l g.inv p e.0;
    tree = shown_put t l p deleted ∙ ap (λ (f : View). upd f p none) g.tree ∙ sym (fun_ext (lookup_del p s));
    sorted = sort (rmdir p);
  }
  keeps hl cl m (rename a b) h = rename_kept hl cl a b (rename_ok t l cl g.inv a b m h)

-- the empty table over a listing, with the listing as the plain tree
pub sound_empty : (l : Tree) → Closed (lookup l) → Ascending l → Sound [] l l
sound_empty l c a = record { inv = inv_empty l c; tree = refl; sorted = a }
