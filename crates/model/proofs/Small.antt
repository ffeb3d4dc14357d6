-- write, mkdir, unlink and rmdir keep the invariant; what their checks say of what is visible.
use mathlib.Core.Path.{◌≡◌, refl, ap, sym, ◌∙◌}
use mathlib.Core.Logic.{◌⊎◌, inl, inr}
use mathlib.Core.List.{List, [], ◌∷◌}
use mathlib.Core.Bool.{Bool, true, false, cond, not, ◌&&◌, ◌||◌}
use mathlib.Core.Option.{Option, none, some}
use Prim.Native.Nat.{ℕ}
use lib.ListN.{length}
use Rattle.model.specs.Bytes.{same}
use Rattle.model.specs.Path.{Path, below, child, ancestors}
use Rattle.model.specs.Map.{Map, lookup, put, puts, each, keys}
use Rattle.model.specs.Tree.{Node, dir, file, link, Entry, own, reference, directory, deleted, Table, Tree, View, over, shown}
use Rattle.model.specs.Tree.{Kind, nothing, a_directory, a_file, a_link, kind_of, kind, is_nothing}
use Rattle.model.specs.Checks.{Check, pass, ◌then◌, parent_checks, write_at, write_checks, ancestor_at, ancestors_in, mkdir_at, mkdir_parents, missing, makes}
use Rattle.model.specs.Checks.{unlink_at, unlink_checks, not_root, visible_child, no_visible_child, directory_at, rmdir_entry, rmdir_checks}
use Rattle.model.proofs.Orders.{split, Split, and_true, bot, yea, nay, test, has_none, is_some, opt, mem, mem_ancestors, below_trans}
use Rattle.model.proofs.Maps.{or_else, lookup_puts, lookup_each}
use Rattle.model.proofs.Invariant.{entry_at, at_none, at_own, at_reference, at_directory, at_deleted, Closed, closed_above, Inv, kind_at, kind_entry, then_pass, parents_dirs, parents_pass, inv_put, inv_over}
use Rattle.model.proofs.Rules.{child_below, child_root, way}

pub unlink_regular : (n : ℕ) (k : Kind) → unlink_at n k ≡ pass → k ≡ a_file
unlink_regular n nothing h = cc
unlink_regular n a_directory h = cc
unlink_regular n a_file h = refl
unlink_regular n a_link h = cc

module _ (t : Table) (l : Tree) (i : Inv t l) (p : Path) where
  no_link : (kind (shown t l) p ≡ a_directory → ⊥) → (kind (shown t l) p ≡ a_link → ⊥) → (p ≡ [] → ⊥) × (lookup l p ≡ some link → ⊥)
  no_link nd na =
      let root : p ≡ [] → ⊥ = λ e. nd (cc) in
      (root, λ h. na (kind_at (shown t l) p (some link) (cc (i.uncovered p h)) root))

  pub write_inv : (m : ℕ) (d : List ℕ) → write_checks (shown t l) p ≡ pass → Inv (put p (own m d) t) l
  write_inv m d h =
      let k = then_pass (parent_checks 0 (shown t l) p) (write_at (length p) (kind (shown t l) p)) h in
      let nd : kind (shown t l) p ≡ a_directory → ⊥ = λ e. bot (cc k.1) in
      let r = no_link nd (λ e. bot (cc k.1)) in
      inv_put t l i p (own m d) (λ q n b s. nd (i.closed p q n b s)) (λ n q v b. parents_dirs 0 (length p) (kind (shown t l)) p q k.0 b)
      r.1 (λ m' s q z. cc) r.0

  -- what an accepted unlink found
  pub unlink_found : unlink_checks t l p ≡ pass → kind (shown t l) p ≡ a_file
  unlink_found h = elim (entry_at (lookup t p)) [
    | at_none e ↦ unlink_regular (length p) (kind (shown t l) p) (then_pass (parent_checks 0 (shown t l) p) (unlink_at (length p) (kind (shown t l) p)) (cc)).1
    | at_own m d e ↦ kind_entry t l i p (own m d) e
    | at_reference m s q e ↦ kind_entry t l i p (reference m s q) e
    | at_directory m e ↦ cc
    | at_deleted e ↦ cc
  ]

  pub unlink_inv : unlink_checks t l p ≡ pass → Inv (put p deleted t) l
  unlink_inv h =
      let k = unlink_found h in
      let nd : kind (shown t l) p ≡ a_directory → ⊥ = λ e. bot (cc) in
      let r = no_link nd (λ e. bot (cc)) in
      inv_put t l i p deleted (λ q n b s. nd (i.closed p q n b s)) (λ n q v b. absurd (bot (cc))) r.1 (λ m' s q z. cc) r.0

-- mkdir
pub or_cases : (a b : Bool) → (a || b) ≡ true → (a ≡ true) ⊎ (b ≡ true)
or_cases true b h = inl refl
or_cases false b h = inr h

absent_is : (k : Kind) → is_nothing k ≡ true → k ≡ nothing
absent_is nothing h = refl
absent_is a_directory h = cc
absent_is a_file h = cc
absent_is a_link h = cc

pub mem_absent : (g : Path → Kind) (qs : List Path) (q : Path) → mem q (missing g qs) ≡ (mem q qs && is_nothing (g q))
mem_absent g [] q = refl
mem_absent g (k ∷ ks) q =
    let ih = mem_absent g ks q in
    elim (split k q) [
      | Split.eq x w ↦ elim (test (is_nothing (g k))) [ yea e ↦ cc | nay e ↦ elim (test (mem q ks)) [ yea c ↦ cc | nay c ↦ cc ] ]
      | Split.ne x w ↦ elim (test (is_nothing (g k))) [ yea e ↦ cc | nay e ↦ cc ]
    ]

parent_may : (n : ℕ) (q : Path) (k : Kind) → ancestor_at (length q) n k ≡ pass → (k ≡ a_directory) ⊎ (k ≡ nothing)
parent_may n q nothing h = inr refl
parent_may n q a_directory h = inl refl
parent_may n q a_file h = inl (cc)
parent_may n q a_link h = inl (cc)

parents_may : (n : ℕ) (g : Path → Kind) (qs : List Path) → ancestors_in n g qs ≡ pass → (q : Path) → mem q qs ≡ true → (g q ≡ a_directory) ⊎ (g q ≡ nothing)
parents_may n g [] h q b = inl (cc)
parents_may n g (k ∷ ks) h q b =
    let r = then_pass (ancestor_at (length k) n (g k)) (ancestors_in n g ks) h in
    elim (split k q) [ Split.eq e w ↦ rw (← e) (parent_may n k (g k) r.0) | Split.ne e w ↦ parents_may n g ks r.1 q (cc) ]

-- what an accepted mkdir has met at its path: nothing, and checks behind it that pass; or a directory, which exist_ok accepts
pub data MkdirMet (ok : Bool) (k : Kind) (later : Check) : Type 0 where
  met_nothing : k ≡ nothing → later ≡ pass → MkdirMet ok k later
  met_directory : k ≡ a_directory → ok ≡ true → MkdirMet ok k later

pub mkdir_met : (n : ℕ) (ok : Bool) (k : Kind) (later : Check) → mkdir_at n ok k later ≡ pass → MkdirMet ok k later
mkdir_met n ok nothing later h = met_nothing refl h
mkdir_met n true a_directory later h = met_directory refl refl
mkdir_met n false a_directory later h = absurd (bot (cc))
mkdir_met n ok a_file later h = absurd (bot (cc))
mkdir_met n ok a_link later h = absurd (bot (cc))

-- and what it then makes
pub makes_missing : (f : View) (p : Path) → kind f p ≡ nothing → makes f p ≡ missing (kind f) (p ∷ ancestors p)
makes_missing f p e = ap (λ (k : Kind). cond (is_nothing k) (missing (kind f) (p ∷ ancestors p)) []) e

pub makes_none : (f : View) (p : Path) → kind f p ≡ a_directory → makes f p ≡ []
makes_none f p e = ap (λ (k : Kind). cond (is_nothing k) (missing (kind f) (p ∷ ancestors p)) []) e

-- directories made at all the paths of a list
abbrev pub made_at : ℕ → List Path → Path → Option Entry
made_at m ks q = cond (mem q ks) (some (directory m)) none

unmade_at : (m : ℕ) (b : Bool) → b ≡ false → cond b (some (directory m)) none ≡ none
unmade_at m b e = ap (λ (c : Bool). cond c (some (directory m)) none) e

made_some : (m : ℕ) (x : Entry) (b : Bool) → cond b (some (directory m)) none ≡ some x → b ≡ true
made_some m x true h = refl
made_some m x false h = cc

no_reference : (m n s : ℕ) (p : Path) (b : Bool) → cond b (some (directory m)) none ≡ some (reference n s p) → ⊥
no_reference m n s p true h = bot (cc)
no_reference m n s p false h = bot (cc)

pub not_both : (k : Kind) → k ≡ a_directory → k ≡ nothing → ⊥
not_both k d n = bot (cc)

module _ (f : View) (p : Path) (m : ℕ) (c : Closed f) (a : kind f p ≡ nothing) (up : (q : Path) → below q p ≡ true → (kind f q ≡ a_directory) ⊎ (kind f q ≡ nothing)) where
  makes_is : (q : Path) → mem q (makes f p) ≡ ((same p q || below q p) && is_nothing (kind f q))
  makes_is q = cc (mem_absent (kind f) (p ∷ ancestors p) q, mem_ancestors p q)

  makes_absent : (q : Path) → mem q (makes f p) ≡ true → kind f q ≡ nothing
  makes_absent q h = absent_is (kind f q) (and_true (same p q || below q p) (is_nothing (kind f q)) (sym (makes_is q) ∙ h)).1

  makes_in : (q : Path) → below q p ≡ true → kind f q ≡ nothing → mem q (makes f p) ≡ true
  makes_in q b k = elim (split p q) [ Split.eq x w ↦ cc (makes_is q) | Split.ne x w ↦ cc (makes_is q) ]

  mkdir_closed : Closed (λ q. over (made_at m (makes f p) q) (f q))
  mkdir_closed q j n b h = elim (test (mem q (makes f p))) [
    | yea e ↦ there q e
    | nay e ↦ same_kind q e ∙ elim (test (mem j (makes f p))) [
      | nay e' ↦ c q j n b (cc)
      | yea e' ↦ elim (up q (near j e' b)) [ inl d ↦ d | inr d ↦ absurd (bot (cc (makes_in q (near j e' b) d))) ]
    ]
  ]
    where
      there : (q : Path) → mem q (makes f p) ≡ true → kind (λ z. over (made_at m (makes f p) z) (f z)) q ≡ a_directory
      there [] e = refl
      there (x ∷ xs) e = cc

      same_kind : (q : Path) → mem q (makes f p) ≡ false → kind (λ z. over (made_at m (makes f p) z) (f z)) q ≡ kind f q
      same_kind [] e = refl
      same_kind (x ∷ xs) e = cc

      near : (j : Path) → mem j (makes f p) ≡ true → below q j ≡ true → below q p ≡ true
      near j e b = elim (split p j) [ Split.eq x w ↦ cc | Split.ne x w ↦ below_trans q j p b (cc (and_true (same p j || below j p) (is_nothing (kind f j)) (sym (makes_is j) ∙ e)).0) ]

module _ (t : Table) (l : Tree) (i : Inv t l) (p : Path) (m : ℕ) where
  -- nothing is to be seen where a link is listed only if it has an entry, so no link is where nothing is
  absent_no_link : (k : Path) → kind (shown t l) k ≡ nothing → lookup l k ≡ some link → ⊥
  absent_no_link k h g = bot (cc (kind_at (shown t l) k (some link) (cc (i.uncovered k g)) (λ e. bot (cc))))

  pub mkdir_lookup : (q : Path) → lookup (puts (each (directory m) (makes (shown t l) p)) t) q ≡ or_else (made_at m (makes (shown t l) p) q) (lookup t q)
  mkdir_lookup q = cc (lookup_puts (each (directory m) (makes (shown t l) p)) t q, lookup_each (directory m) (makes (shown t l) p) q)

  pub mkdir_inv : kind (shown t l) p ≡ nothing → ((q : Path) → below q p ≡ true → (kind (shown t l) q ≡ a_directory) ⊎ (kind (shown t l) q ≡ nothing))
      → Inv (puts (each (directory m) (makes (shown t l) p)) t) l
  mkdir_inv a up = inv_over t (puts (each (directory m) (makes (shown t l) p)) t) l (made_at m (makes (shown t l) p)) mkdir_lookup i
      (mkdir_closed (shown t l) p m i.closed a up)
      (λ k h. elim (test (mem k (makes (shown t l) p))) [ yea e ↦ absurd (absent_no_link k (gap k e) h) | nay e ↦ unmade_at m (mem k (makes (shown t l) p)) e ])
      (λ k x s q h. absurd (no_reference m x s q (mem k (makes (shown t l) p)) h))
      (λ k x j q n h g b y z w. not_both (kind (shown t l) k) (i.closed k q n b (ap (λ (o : Option Entry). over o (lookup l q)) w ∙ y)) (gap k (made_some m (directory x) (mem k (makes (shown t l) p)) h)))
      (elim (test (mem [] (makes (shown t l) p))) [ yea e ↦ absurd (not_both a_directory refl (gap [] e)) | nay e ↦ unmade_at m (mem [] (makes (shown t l) p)) e ])
    where
      gap : (q : Path) → mem q (makes (shown t l) p) ≡ true → kind (shown t l) q ≡ nothing
      gap = makes_absent (shown t l) p m i.closed a up

  pub mkdir_up : (f : View) (up : Bool) → mkdir_parents f p up ≡ pass → (q : Path) → below q p ≡ true → (kind f q ≡ a_directory) ⊎ (kind f q ≡ nothing)
  mkdir_up f true h q b = parents_may (length p) (kind f) (ancestors p) h q (mem_ancestors p q ∙ b)
  mkdir_up f false h q b = inl (parents_dirs 0 (length p) (kind f) p q h b)

-- "not empty" is a visible child; where what is visible stands in directories, that is anything visible below
lookup_mem : {A : Type 0} (xs : Map A) (q : Path) (v : A) → lookup xs q ≡ some v → mem q (keys xs) ≡ true
lookup_mem [] q v h = cc
lookup_mem (x ∷ xs) q v h = elim (split x.0 q) [ Split.eq e w ↦ cc | Split.ne e w ↦ cc (lookup_mem xs q v (cc)) ]

module _ (f : View) (p : Path) where
  visible_none : (ks : List Path) → visible_child f p ks ≡ false → (q : Path) → mem q ks ≡ true → child p q ≡ true → is_nothing (kind f q) ≡ false → ⊥
  visible_none [] h q m c v = bot (cc)
  visible_none (k ∷ ks) h q m c v = elim (split k q) [
    | Split.eq e w ↦ bot (cc)
    | Split.ne e w ↦ elim (test (child p k && not (is_nothing (kind f k)))) [ yea r ↦ bot (cc) | nay r ↦ visible_none ks (cc) q (cc) c v ]
  ]

  none_visible : (ks : List Path) → ((q : Path) → child p q ≡ true → is_nothing (kind f q) ≡ true) → visible_child f p ks ≡ false
  none_visible [] h = refl
  none_visible (k ∷ ks) h = let ih = none_visible ks h in elim (test (child p k)) [ yea r ↦ cc (h k r) | nay r ↦ cc ]

some_kind : (n : Node) → is_nothing (kind_of (some n)) ≡ false
some_kind (dir m) = refl
some_kind (file m z b) = refl
some_kind link = refl

module _ (t : Table) (l : Tree) (p : Path) (w : ℕ) where
  pub childless : no_visible_child w t l p ≡ pass → (q : Path) (x : Node) → child p q ≡ true → shown t l q ≡ some x → ⊥
  childless h q x c g =
      let v : is_nothing (kind (shown t l) q) ≡ false = cc (kind_at (shown t l) q (some x) g (child_root p q c), some_kind x) in
      elim (test (visible_child (shown t l) p (keys t))) [
        | yea r ↦ bot (cc)
        | nay r ↦ elim (test (visible_child (shown t l) p (keys l))) [
          | yea r' ↦ bot (cc)
          | nay r' ↦ elim (opt (lookup t q)) [
            | is_some e y ↦ visible_none (shown t l) p (keys t) r q (lookup_mem t q e y) c v
            | has_none y ↦ visible_none (shown t l) p (keys l) r' q (lookup_mem l q x (cc)) c v
          ]
        ]
      ]

  pub childless_empty : Closed (shown t l) → no_visible_child w t l p ≡ pass → (q : Path) (x : Node) → below p q ≡ true → shown t l q ≡ some x → ⊥
  childless_empty cl h q x b g = elim (way p q b) [
    | inl c ↦ childless h q x c g
    | inr z ↦ elim (opt (shown t l z.0)) [
      | is_some y e ↦ childless h z.0 y z.1 e
      | has_none e ↦ bot (cc (cl z.0 q x z.2 g, kind_at (shown t l) z.0 none e (child_root p z.0 z.1)))
    ]
  ]

  pub empty_childless : ((q : Path) (x : Node) → below p q ≡ true → shown t l q ≡ some x → ⊥) → no_visible_child w t l p ≡ pass
  empty_childless h =
      let v : (q : Path) → child p q ≡ true → is_nothing (kind (shown t l) q) ≡ true = λ q c. elim (opt (shown t l q)) [
        | has_none e ↦ cc (kind_at (shown t l) q none e (child_root p q c))
        | is_some x e ↦ absurd (h q x (child_below p q c) e)
      ] in
      cc (none_visible (shown t l) p (keys t) v, none_visible (shown t l) p (keys l) v)

pub is_directory_lem : (n : ℕ) (k : Kind) → directory_at n k ≡ pass → k ≡ a_directory
is_directory_lem n nothing h = cc
is_directory_lem n a_directory h = refl
is_directory_lem n a_file h = cc
is_directory_lem n a_link h = cc

pub root_refused : (w : ℕ) (p : Path) → not_root w p ≡ pass → p ≡ [] → ⊥
root_refused w [] h e = bot (cc)
root_refused w (c ∷ p) h e = bot (cc)

pub root_passes : (w : ℕ) (p : Path) → (p ≡ [] → ⊥) → not_root w p ≡ pass
root_passes w [] r = absurd (r refl)
root_passes w (c ∷ p) r = refl

-- what rmdir's check on the path's own entry says of the kind there: without an entry, what the checks behind it say; else the entry is a directory
rmdir_entry_lem : (n : ℕ) (o : Option Entry) (y : Check) (k : Kind) → rmdir_entry n o y ≡ pass → (y ≡ pass → k ≡ a_directory) → ((m : ℕ) → o ≡ some (directory m) → k ≡ a_directory) → k ≡ a_directory
rmdir_entry_lem n none y k h a b = a h
rmdir_entry_lem n (some (own m c)) y k h a b = cc
rmdir_entry_lem n (some (reference m z q)) y k h a b = cc
rmdir_entry_lem n (some (directory m)) y k h a b = b m refl
rmdir_entry_lem n (some deleted) y k h a b = cc

pub record RmdirOk (f : View) (p : Path) : Type 0 where
  pub proper : p ≡ [] → ⊥
  pub is_dir : kind f p ≡ a_directory
  pub empty : (q : Path) (x : Node) → below p q ≡ true → f q ≡ some x → ⊥

module _ (t : Table) (l : Tree) (i : Inv t l) (p : Path) where
  pub rmdir_ok : rmdir_checks t l p ≡ pass → RmdirOk (shown t l) p
  rmdir_ok h =
      let a = then_pass (not_root 0 p) (rmdir_entry (length p) (lookup t p) (parent_checks 0 (shown t l) p then directory_at (length p) (kind (shown t l) p)) then no_visible_child 0 t l p) h in
      let b = then_pass (rmdir_entry (length p) (lookup t p) (parent_checks 0 (shown t l) p then directory_at (length p) (kind (shown t l) p))) (no_visible_child 0 t l p) a.1 in
      record {
        proper = root_refused 0 p a.0;
        is_dir = rmdir_entry_lem (length p) (lookup t p) (parent_checks 0 (shown t l) p then directory_at (length p) (kind (shown t l) p)) (kind (shown t l) p) b.0
            (λ y. is_directory_lem (length p) (kind (shown t l) p) (then_pass (parent_checks 0 (shown t l) p) (directory_at (length p) (kind (shown t l) p)) y).1)
            (λ m e. kind_entry t l i p (directory m) e);
        empty = childless_empty t l p 0 i.closed b.1;
      }

  pub ok_rmdir : RmdirOk (shown t l) p → rmdir_checks t l p ≡ pass
  ok_rmdir o =
      let k = o.is_dir in
      let c = empty_childless t l p 0 o.empty in
      let r : not_root 0 p ≡ pass = proper p o.proper in
      elim (entry_at (lookup t p)) [
        | at_none e ↦ cc (parents_pass 0 (length p) (kind (shown t l)) p (closed_above (shown t l) i.closed p (not_both (kind (shown t l) p) k)))
        | at_own m d e ↦ cc (kind_entry t l i p (own m d) e)
        | at_reference m s q e ↦ cc (kind_entry t l i p (reference m s q) e)
        | at_directory m e ↦ cc
        | at_deleted e ↦ cc (kind_entry t l i p deleted e)
      ]
    where
      proper : (p : Path) → (p ≡ [] → ⊥) → not_root 0 p ≡ pass
      proper [] h = absurd (h refl)
      proper (c ∷ cs) h = refl

  pub rmdir_inv : rmdir_checks t l p ≡ pass → Inv (put p deleted t) l
  rmdir_inv h = let o = rmdir_ok h in let k = o.is_dir in
      inv_put t l i p deleted o.empty (λ n q v b. absurd (bot (cc)))
      (λ g. bot (cc (kind_at (shown t l) p (some link) (cc (i.uncovered p g)) o.proper))) (λ m s q z. cc) o.proper
