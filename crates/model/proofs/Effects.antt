-- What an accepted call leaves alone, that it ends within its limit, and that it does to the visible tree what POSIX says.
use mathlib.Core.Path.{◌≡◌, refl, ap, sym, ◌∙◌, fun_ext, subst}
use mathlib.Core.Logic.{◌⊎◌, inl, inr}
use mathlib.Core.List.{List, [], ◌∷◌, ◌++◌}
use mathlib.Core.Bool.{Bool, true, false, cond, ◌&&◌, ◌||◌}
use mathlib.Core.Option.{Option, none, some}
use Prim.Native.Nat.{ℕ, ◌≤◌}
use lib.Dec.{leb}
use lib.ListN.{length}
use borrow.Author.Tests.{leb-true}
use Rattle.model.specs.Bytes.{same}
use Rattle.model.specs.Path.{Path, below, ancestors, rest}
use Rattle.model.specs.Map.{lookup, put, puts, only, each, keys, rekey, mapped}
use Rattle.model.specs.Tree.{Node, dir, file, link, Entry, own, directory, deleted, Table, Tree, View, shown}
use Rattle.model.specs.Tree.{Kind, nothing, a_directory, a_link, kind_of, kind, is_nothing, is_directory}
use Rattle.model.specs.Table.{charge}
use Rattle.model.specs.Checks.{Check, pass, ◌then◌, unless, parent_checks, write_checks, mkdir_at, mkdir_parents, missing, makes, unlink_checks, rmdir_checks}
use Rattle.model.specs.Checks.{Memory, limited, charged}
use Rattle.model.specs.Rename.{as_entry, uncovered, along, carried, moved, onto_itself}
use Rattle.model.specs.Content.{content_of, appended, spliced}
use Rattle.model.specs.Calls.{Call, write, append, write_inside, mkdir, unlink, rmdir, rename, changed, rules, exists, says}
use Rattle.model.specs.Posix.{Prefixed, Empty, make_directory, make_missing, make_directories, rename_file, Posix}
use Rattle.model.specs.Runs.{touches}
use Rattle.model.proofs.Orders.{split, Split, same_no, same_refl, below_irrefl, bot, yea, nay, test, has_none, is_some, opt, mem, mem_ancestors}
use Rattle.model.proofs.Orders.{rest_below, rest_nil}
use Rattle.model.proofs.Maps.{or_else, lookup_put, lookup_puts, lookup_each, lookup_rekey, lookup_keys, lookup_only}
use Rattle.model.proofs.Invariant.{kind_is, nothing_is, directory_is, file_is, link_is, Closed, closed_above, Inv, shown_put, shown_over, kind_at, then_pass, parents_dirs}
use Rattle.model.proofs.Small.{mkdir_up, mem_absent, met_nothing, met_directory, mkdir_met, makes_missing, makes_none, not_both, mkdir_lookup, made_at, unlink_found, rmdir_ok}
use Rattle.model.proofs.Contents.{append_passed, inside_passed}
use Rattle.model.proofs.Moves.{Held, RenameOk, move_view, move_tree}
use Rattle.model.proofs.Passed.{RenamePassed, two_elsewhere, rename_passed}
use Rattle.model.proofs.Itself.{exists_there, itself_onto}
use Rattle.model.proofs.Agree.{RenameIs, rename_ok}

-- the entries elsewhere stay

rest_none : (b k : Path) → same b k ≡ false → below b k ≡ false → rest b k ≡ none
rest_none b k h g = go (rest b k) refl
  where
    go : (o : Option Path) → rest b k ≡ o → rest b k ≡ none
    go none e = e
    go (some []) e = elim (split b k) [ Split.eq x y ↦ cc | Split.ne x y ↦ absurd (x (rest_nil b k e)) ]
    go (some (c ∷ r)) e = cc (rest_below b k c r e)

or_false : (a b : Bool) → (a || b) ≡ false → (a ≡ false) × (b ≡ false)
or_false true b h = (cc, cc)
or_false false b h = (refl, h)

not_along : (s : Kind) (a k : Path) → same a k ≡ false → below a k ≡ false → along s a k ≡ false
not_along s a k h g = elim (test (is_directory s)) [ yea e ↦ cc | nay e ↦ cc ]

only_none : (f : Path → Bool) (xs : Table) (k : Path) → f k ≡ false → lookup (only f xs) k ≡ none
only_none f xs k h = cc (lookup_only f xs k)

stays_moved : (c t : Table) (a b k : Path) → lookup c k ≡ none → rest b k ≡ none → lookup (puts (rekey a b c) (puts (each deleted (keys c)) t)) k ≡ lookup t k
stays_moved c t a b k h g =
    cc (lookup_puts (rekey a b c) (puts (each deleted (keys c)) t) k, lookup_puts (each deleted (keys c)) t k, lookup_keys deleted c k, lookup_rekey a b c k)

-- what is neither the path nor a missing ancestor of it is not made
unmade : (f : View) (p k : Path) → same p k ≡ false → (below k p && is_nothing (kind f k)) ≡ false → mem k (makes f p) ≡ false
unmade f p k x y = elim (test (is_nothing (kind f p))) [
  | nay z ↦ ap (λ (b : Bool). mem k (cond b (missing (kind f) (p ∷ ancestors p)) [])) z
  | yea z ↦ ap (λ (b : Bool). mem k (cond b (missing (kind f) (p ∷ ancestors p)) [])) z ∙ mem_absent (kind f) (p ∷ ancestors p) k
      ∙ ap (λ (b : Bool). (b || mem k (ancestors p)) && is_nothing (kind f k)) x ∙ ap (λ (b : Bool). b && is_nothing (kind f k)) (mem_ancestors p k) ∙ y
]

module _ (t : Table) (l : Tree) (k : Path) where
  stays_put : (p : Path) (e : Entry) → same p k ≡ false → lookup (put p e t) k ≡ lookup t k
  stays_put p e h = cc (lookup_put p e t k)

  pub stays : (c : Call) → touches (shown t l) c k ≡ false → lookup (changed t l c) k ≡ lookup t k
  stays (write p m x) h = stays_put p (own m x) h
  stays (append p m d b) h = stays_put p (own m (appended (shown t l p) d b)) h
  stays (write_inside p m o d) h = stays_put p (own m (spliced o d (content_of (shown t l p) []))) h
  stays (mkdir p up ok m) h =
      let ks = makes (shown t l) p in
      let e = or_false (same p k) (below k p && is_nothing (kind (shown t l) k)) h in
      lookup_puts (each (directory m) ks) t k ∙ ap (λ (o : Option Entry). or_else o (lookup t k))
      (lookup_each (directory m) ks k ∙ ap (λ (b : Bool). cond b (some (directory m)) none) (unmade (shown t l) p k e.0 e.1))
  stays (unlink p) h = stays_put p deleted h
  stays (rmdir p) h = stays_put p deleted h
  stays (rename a b) h =
      let e = or_false (same a k) (same b k || (below a k || below b k)) h in
      let g = or_false (same b k) (below a k || below b k) e.1 in
      let d = or_false (below a k) (below b k) g.1 in
      elim (test (onto_itself (shown t l) a b)) [
        | yea o ↦ rw o refl
        | nay o ↦ rw o (stays_moved (carried t l a) t a b k (only_none (along (kind (shown t l) a) a) (puts t (mapped as_entry (only (uncovered t a) l))) k
            (not_along (kind (shown t l) a) a k e.0 d.0)) (rest_none b k g.0 d.1))
      ]

-- within the limit

within : (n limit : ℕ) → unless 11 (leb n limit) ≡ pass → n ≤ limit
within n limit h = elim (test (leb n limit)) [ yea e ↦ leb-true n limit e | nay e ↦ absurd (bot (cc)) ]

-- where the path is a directory mkdir makes nothing
unchanged : (t : Table) (l : Tree) (p : Path) (m : ℕ) → kind (shown t l) p ≡ a_directory → puts (each (directory m) (makes (shown t l) p)) t ≡ t
unchanged t l p m e = ap (λ (ks : List Path). puts (each (directory m) ks) t) (makes_none (shown t l) p e)

module _ (E limit : ℕ) (t : Table) (l : Tree) where
  pub in_limit : (c : Call) → rules (limited E limit) t l c ≡ pass → (charge E (changed t l c) ≤ limit) ⊎ (changed t l c ≡ t)
  in_limit (write p m x) h = inl (within (charge E (changed t l (write p m x))) limit (then_pass (write_checks (shown t l) p) (charged (limited E limit) (changed t l (write p m x))) h).1)
  in_limit (append p m d b) h =
      inl (within (charge E (changed t l (append p m d b))) limit (append_passed (limited E limit) t l p m d b h).charge_fits)
  in_limit (write_inside p m o d) h =
      inl (within (charge E (changed t l (write_inside p m o d))) limit (inside_passed (limited E limit) t l p m o d h).charge_fits)
  in_limit (mkdir p up ok m) h = elim (mkdir_met (length p) ok (kind (shown t l) p) (mkdir_parents (shown t l) p up then charged (limited E limit) (changed t l (mkdir p up ok m))) h) [
    | met_nothing e u ↦ inl (within (charge E (changed t l (mkdir p up ok m))) limit (then_pass (mkdir_parents (shown t l) p up) (charged (limited E limit) (changed t l (mkdir p up ok m))) u).1)
    | met_directory e u ↦ inr (unchanged t l p m e)
  ]
  in_limit (unlink p) h = inl (within (charge E (changed t l (unlink p))) limit (then_pass (unlink_checks t l p) (charged (limited E limit) (changed t l (unlink p))) h).1)
  in_limit (rmdir p) h = inl (within (charge E (changed t l (rmdir p))) limit (then_pass (rmdir_checks t l p) (charged (limited E limit) (changed t l (rmdir p))) h).1)
  in_limit (rename a b) h = elim (rename_passed (limited E limit) t l a b h) [
    | RenamePassed.itself e p ↦ inr (rw e refl)
    | RenamePassed.elsewhere p ↦ inl (rw (two_elsewhere (shown t l) a b p.two) (within (charge E (moved t l a b)) limit p.memory.charge_fits))
  ]

-- POSIX

same_is : (a b : Path) → same a b ≡ true → a ≡ b
same_is a b h = elim (split a b) [ Split.eq e w ↦ e | Split.ne e w ↦ absurd (bot (cc)) ]

same_are : {A : Type 0} (b : Bool) (x : A) → cond b x x ≡ x
same_are true x = refl
same_are false x = refl

-- a path that is there is not made, whether or not it is listed: s says that it is the first path, m that it is a later one, n that nothing is there
not_first : (s m n : Bool) → (s ≡ true → n ≡ false) → (m && n) ≡ ((s || m) && n)
not_first true true n h = refl
not_first true false n h = sym (h refl)
not_first false m n h = refl

-- the first path is made; n' says that nothing is there thereafter
made_first : (s m n n' : Bool) (d o : Option Node) → (s ≡ true → n ≡ true) → (s ≡ false → n' ≡ n) → cond (m && n') d (cond s d o) ≡ cond ((s || m) && n) d o
made_first true m n n' d o h k = same_are (m && n') d ∙ sym (ap (λ (b : Bool). cond b d o) (h refl))
made_first false m n n' d o h k = ap (λ (b : Bool). cond (m && b) d o) (k refl)

-- mkdir() for each missing path in turn
made_missing : (m : ℕ) (qs : List Path) (f : View) (x : Path) → make_missing m qs f x ≡ cond (mem x qs && is_nothing (kind f x)) (some (dir m)) (f x)
made_missing m [] f x = refl
made_missing m (q ∷ qs) f x = elim (test (is_nothing (kind f q))) [
  | nay e ↦ ap (λ (b : Bool). make_missing m qs (cond b (make_directory m q f) f) x) e ∙ made_missing m qs f x
      ∙ ap (λ (b : Bool). cond b (some (dir m)) (f x)) (not_first (same q x) (mem x qs) (is_nothing (kind f x)) (λ s. there false e (same_is q x s)))
  | yea e ↦ ap (λ (b : Bool). make_missing m qs (cond b (make_directory m q f) f) x) e ∙ made_missing m qs (make_directory m q f) x
      ∙ made_first (same q x) (mem x qs) (is_nothing (kind f x)) (is_nothing (kind (make_directory m q f) x)) (some (dir m)) (f x)
      (λ s. there true e (same_is q x s)) (λ s. ap is_nothing (elsewhere x s))
]
  where
    there : (b : Bool) → is_nothing (kind f q) ≡ b → q ≡ x → is_nothing (kind f x) ≡ b
    there b e a = subst (λ (z : Path). is_nothing (kind f z) ≡ b) a e

    elsewhere : (x : Path) → same q x ≡ false → kind (make_directory m q f) x ≡ kind f x
    elsewhere [] s = refl
    elsewhere (c ∷ x) s = ap (λ (b : Bool). kind_of (cond b (some (dir m)) (f (c ∷ x)))) s

mem_end : (x p : Path) (qs : List Path) → mem x (qs ++ (p ∷ [])) ≡ (same p x || mem x qs)
mem_end x p [] = elim (test (same p x)) [ yea e ↦ cc | nay e ↦ cc ]
mem_end x p (q ∷ qs) = let ih = mem_end x p qs in elim (test (same q x)) [
  | yea e ↦ elim (test (same p x)) [ yea g ↦ cc | nay g ↦ cc ]
  | nay e ↦ cc
]

and-not : (a b : Bool) → (a ≡ true → b ≡ false) → (a && b) ≡ false
and-not true b h = h refl
and-not false b h = refl

just_first : (a b n : Bool) → (a ≡ true → n ≡ true) → (b ≡ true → n ≡ false) → ((a || b) && n) ≡ a
just_first true b n h k = h refl
just_first false true n h k = k refl
just_first false false n h k = refl

-- a tree g that shows directories made at the missing paths is the one that mkdir -p makes, and where no parent is missing the one that mkdir() makes
module _ (f g : View) (m : ℕ) (p : Path) (made : (q : Path) → g q ≡ cond (mem q (makes f p)) (some (dir m)) (f q)) where
  made_so : (q : Path) (b : Bool) → mem q (makes f p) ≡ b → g q ≡ cond b (some (dir m)) (f q)
  made_so q b e = made q ∙ ap (λ (c : Bool). cond c (some (dir m)) (f q)) e

  made_up : kind f p ≡ nothing → (q : Path) → g q ≡ make_directories m p f q
  made_up e q = made_so q (mem q (ancestors p ++ (p ∷ [])) && is_nothing (kind f q))
      (ap (mem q) (makes_missing f p e) ∙ mem_absent (kind f) (p ∷ ancestors p) q ∙ sym (ap (λ (b : Bool). b && is_nothing (kind f q)) (mem_end q p (ancestors p))))
      ∙ sym (made_missing m (ancestors p ++ (p ∷ [])) f q)

  -- a directory that is there stands in directories: none is missing
  made_there : kind f p ≡ a_directory → Prefixed f p → (q : Path) → g q ≡ make_directories m p f q
  made_there e c q = made_so q (mem q (ancestors p ++ (p ∷ [])) && is_nothing (kind f q))
      (ap (mem q) (makes_none f p e) ∙ sym (and-not (mem q (ancestors p ++ (p ∷ []))) (is_nothing (kind f q)) (λ z. ap is_nothing (here (sym (mem_end q p (ancestors p)) ∙ z)))))
      ∙ sym (made_missing m (ancestors p ++ (p ∷ [])) f q)
    where
      here : (same p q || mem q (ancestors p)) ≡ true → kind f q ≡ a_directory
      here z = elim (split p q) [
        | Split.eq x w ↦ subst (λ (k : Path). kind f k ≡ a_directory) x e
        | Split.ne x w ↦ c q (sym (mem_ancestors p q) ∙ sym (ap (λ (b : Bool). b || mem q (ancestors p)) w) ∙ z)
      ]

  made_one : kind f p ≡ nothing → Prefixed f p → (q : Path) → g q ≡ make_directory m p f q
  made_one e c q = made_so q (same p q) (ap (mem q) (makes_missing f p e) ∙ mem_absent (kind f) (p ∷ ancestors p) q ∙ just_first (same p q) (mem q (ancestors p)) (is_nothing (kind f q))
      (λ s. ap is_nothing (subst (λ (k : Path). kind f k ≡ nothing) (same_is p q s) e))
      (λ s. ap is_nothing (c q (sym (mem_ancestors p q) ∙ s))))

module _ (t : Table) (l : Tree) (i : Inv t l) where
  in_directories : (p : Path) → kind (shown t l) p ≡ a_directory → Prefixed (shown t l) p
  in_directories p e = closed_above (shown t l) i.closed p (not_both (kind (shown t l) p) e)

  -- the tree after directories were made at the missing paths
  made_shown : (p : Path) (up ok : Bool) (m : ℕ) (q : Path) → shown (changed t l (mkdir p up ok m)) l q ≡ cond (mem q (makes (shown t l) p)) (some (dir m)) (shown t l q)
  made_shown p up ok m q =
      let a = mkdir_lookup t l i p m q in
      let b = ap (λ (f : View). f q) (shown_over t (changed t l (mkdir p up ok m)) l (made_at m (makes (shown t l) p)) (mkdir_lookup t l i p m)) in
      elim (test (mem q (makes (shown t l) p))) [ yea e ↦ cc | nay e ↦ cc ]

  posix_mkdir : (p : Path) (up ok : Bool) (m : ℕ) (y : Check) → mkdir_at (length p) ok (kind (shown t l) p) (mkdir_parents (shown t l) p up then y) ≡ pass
      → Posix (shown t l) (shown (changed t l (mkdir p up ok m)) l) (mkdir p up ok m)
  posix_mkdir p true ok m y h = elim (mkdir_met (length p) ok (kind (shown t l) p) (mkdir_parents (shown t l) p true then y) h) [
    | met_nothing e u ↦ (
      record {
        prefixed = λ q b n. elim (mkdir_up t l i p m (shown t l) true (then_pass (mkdir_parents (shown t l) p true) y u).0 q b) [ inl d ↦ d | inr d ↦ absurd (n d) ];
        directory = λ n. absurd (n e);
      },
      fun_ext (made_up (shown t l) (shown (changed t l (mkdir p true ok m)) l) m p (made_shown p true ok m) e),
    )
    | met_directory e u ↦ (
      record { prefixed = λ q b n. in_directories p e q b; directory = λ n. e },
      fun_ext (made_there (shown t l) (shown (changed t l (mkdir p true ok m)) l) m p (made_shown p true ok m) e (in_directories p e)),
    )
  ]
  posix_mkdir p false ok m y h = elim (mkdir_met (length p) ok (kind (shown t l) p) (mkdir_parents (shown t l) p false then y) h) [
    | met_nothing e u ↦ let up = above p y u in (
      λ d. absurd (not_both (kind (shown t l) p) d e),
      λ n. (record { prefixed = up; absent = e }, fun_ext (made_one (shown t l) (shown (changed t l (mkdir p false ok m)) l) m p (made_shown p false ok m) e up)),
    )
    | met_directory e u ↦ (λ d. (u, ap (λ (x : Table). shown x l) (unchanged t l p m e)), λ n. absurd (n e))
  ]
    where
      above : (p : Path) (y : Check) → (parent_checks 0 (shown t l) p then y) ≡ pass → Prefixed (shown t l) p
      above p y u q b = parents_dirs 0 (length p) (kind (shown t l)) p q (then_pass (parent_checks 0 (shown t l) p) y u).0 b

  posix_unlink : (p : Path) → unlink_checks t l p ≡ pass → Posix (shown t l) (shown (put p deleted t) l) (unlink p)
  posix_unlink p h = let k = unlink_found t l i p h in (
    record { prefixed = closed_above (shown t l) i.closed p (λ e. bot (cc)); present = λ e. bot (cc); other = λ e. bot (cc) },
    shown_put t l p deleted,
  )

  none_of : (f : View) (p : Path) → ((q : Path) (n : Node) → below p q ≡ true → f q ≡ some n → ⊥) → Empty f p
  none_of f p h q b = elim (opt (f q)) [ has_none e ↦ e | is_some n e ↦ absurd (h q n b e) ]

  posix_rmdir : (p : Path) → rmdir_checks t l p ≡ pass → Posix (shown t l) (shown (put p deleted t) l) (rmdir p)
  posix_rmdir p h = let o = rmdir_ok t l i p h in (
    record { named = o.proper; prefixed = in_directories p o.is_dir; directory = o.is_dir; empty = none_of (shown t l) p o.empty },
    shown_put t l p deleted,
  )

  -- onto itself: no other action
  posix_itself : (a : Path) → (a ≡ [] → ⊥) → says exists (kind (shown t l) a) ≡ true → Posix (shown t l) (shown t l) (rename a a)
  posix_itself a proper visible =
      let up = closed_above (shown t l) i.closed a (exists_there (kind (shown t l) a) visible) in (
        record {
          named_old = proper;
          named_new = proper;
          prefixed_old = up;
          prefixed_new = up;
          present = exists_there (kind (shown t l) a) visible;
          onto_directory = λ d. d;
          onto_other = λ d n. d;
          onto_empty = λ n d. absurd (n refl);
          apart = below_irrefl a;
        },
        fun_ext (λ q. sym (ap (λ (c : Bool). cond c (shown t l q) (move_view a a (shown t l) q)) (same_refl a))),
      )

  posix_move : Held l → Closed (lookup l) → (a b : Path) → RenameOk (shown t l) a b → Posix (shown t l) (shown (moved t l a b) l) (rename a b)
  posix_move hl cl a b o = (
    record {
      named_old = o.source;
      named_new = o.target;
      prefixed_old = closed_above (shown t l) i.closed a (λ e. absent o e);
      prefixed_new = o.up;
      present = λ e. absent o e;
      onto_directory = o.over_dir;
      onto_other = λ d n. other o d n;
      onto_empty = λ x y. none_of (shown t l) b o.free;
      apart = o.apart;
    },
    move_tree t l hl cl i a b o ∙ fun_ext same_move,
  )
    where
      absent : RenameOk (shown t l) a b → kind (shown t l) a ≡ nothing → ⊥
      absent o e = elim (opt (shown t l a)) [ has_none x ↦ o.found x | is_some n x ↦ bot (cc (kind_at (shown t l) a (some n) x o.source, visible n)) ]
        where
          visible : (n : Node) → is_nothing (kind_of (some n)) ≡ false
          visible (dir m) = refl
          visible (file m z c) = refl
          visible link = refl

      other : RenameOk (shown t l) a b → kind (shown t l) a ≡ a_directory → (kind (shown t l) b ≡ nothing → ⊥) → kind (shown t l) b ≡ a_directory
      other o d n = elim (kind_is (kind (shown t l) b)) [
        | nothing_is e ↦ absurd (n e)
        | directory_is e ↦ e
        | file_is e ↦ cc (o.over_file e)
        | link_is e ↦ absurd (linked b e o.target o.target_link)
      ]
        where
          linked : (b : Path) → kind (shown t l) b ≡ a_link → (b ≡ [] → ⊥) → (shown t l b ≡ some link → ⊥) → ⊥
          linked [] e r n = r refl
          linked (c ∷ b) e r n = go (shown t l (c ∷ b)) refl
            where
              go : (x : Option Node) → shown t l (c ∷ b) ≡ x → ⊥
              go none h = bot (cc)
              go (some (dir m)) h = bot (cc)
              go (some (file m z y)) h = bot (cc)
              go (some link) h = n h

      same_move : (q : Path) → move_view a b (shown t l) q ≡ rename_file a b (shown t l) q
      same_move q = sym (ap (λ (c : Bool). cond c (shown t l q) (move_view a b (shown t l) q)) (same_no a b o.two))

  posix_rename : Held l → Closed (lookup l) → (a b : Path) → RenameIs (shown t l) a b → Posix (shown t l) (shown (changed t l (rename a b)) l) (rename a b)
  posix_rename hl cl a b (RenameIs.itself o) = subst (λ (p : Path). Posix (shown t l) (shown (changed t l (rename a p)) l) (rename a p)) o.one
      (rw (itself_onto t l a o.visible) (posix_itself a o.proper o.visible))
  posix_rename hl cl a b (RenameIs.elsewhere o) = rw (two_elsewhere (shown t l) a b o.two) (posix_move hl cl a b o)

  -- an accepted call does to the visible tree what the standard says
  pub posix : Held l → Closed (lookup l) → (m : Memory) (c : Call) → rules m t l c ≡ pass → Posix (shown t l) (shown (changed t l c) l) c
  posix hl cl m (write p d x) h = tt
  posix hl cl m (append p e d b) h = tt
  posix hl cl m (write_inside p e o d) h = tt
  posix hl cl m (mkdir p up ok d) h = posix_mkdir p up ok d (charged m (changed t l (mkdir p up ok d))) h
  posix hl cl m (unlink p) h = posix_unlink p (then_pass (unlink_checks t l p) (charged m (changed t l (unlink p))) h).0
  posix hl cl m (rmdir p) h = posix_rmdir p (then_pass (rmdir_checks t l p) (charged m (changed t l (rmdir p))) h).0
  posix hl cl m (rename a b) h = posix_rename hl cl a b (rename_ok t l cl i a b m h)
