-- rename keeps the invariant and moves what is visible; what its checks say of what is visible.
use mathlib.Core.Path.{◌≡◌, refl, ap, ap₂, sym, ◌∙◌, fun_ext, subst, subst⁻¹}
use mathlib.Core.Logic.{◌⊎◌, inl, inr}
use mathlib.Core.List.{List, [], ◌∷◌, ◌++◌, append-nil}
use mathlib.Core.Bool.{Bool, true, false, cond, not, ◌&&◌, ◌||◌}
use mathlib.Core.Option.{Option, none, some}
use Prim.Native.Nat.{ℕ}
use Rattle.model.specs.Bytes.{every, same}
use Rattle.model.specs.Path.{Path, below, ancestors, rest}
use Rattle.model.specs.Map.{is_none, by_rest, lookup, del, puts, only, each, keys, rekey, outside, mapped}
use Rattle.model.specs.Tree.{Body, listed, Node, dir, file, link, Entry, own, reference, directory, deleted, Table, Tree, View, view, over, shown}
use Rattle.model.specs.Tree.{Kind, nothing, a_directory, a_file, a_link, kind_of, kind, is_directory}
use Rattle.model.specs.Rename.{stops, as_entry, uncovered, along, carried, moved}
use Rattle.model.specs.Plain.{plain_move}
use Rattle.model.proofs.Orders.{split, Split, same_no, same_refl, bot, yea, nay, test, has_none, is_some, opt, mem, mem_ancestors}
use Rattle.model.proofs.Orders.{rest_is, rest_app, rest_self, below_rest, rest_below, rest_nil, inside_down, below_split, below_moved}
use Rattle.model.proofs.Maps.{upd, or_else, map_o, lookup_puts, lookup_rekey, lookup_outside, lookup_del, lookup_keys, lookup_mapped, lookup_only}
use Rattle.model.proofs.Invariant.{node_at, no_node, a_dir, file_node, link_node}
use Rattle.model.proofs.Invariant.{entry_at, at_none, at_own, at_reference, at_directory, at_deleted, Closed, Inv, shown_over, inv_over, kind_at, kind_entry}

-- the tree after a was moved to b
abbrev pub move_view : Path → Path → View → View
move_view a b f q = by_rest (rest b q) (λ s. f (a ++ s)) (by_rest (rest a q) (λ s. none) (f q))

-- an accepted rename to another path, by what is shown
pub record RenameOk (f : View) (a b : Path) : Type 0 where
  pub two : a ≡ b → ⊥
  pub source : a ≡ [] → ⊥
  pub target : b ≡ [] → ⊥
  pub up : (q : Path) → below q b ≡ true → kind f q ≡ a_directory
  pub found : f a ≡ none → ⊥
  pub apart : below a b ≡ true → ⊥
  pub free : (q : Path) (n : Node) → below b q ≡ true → f q ≡ some n → ⊥
  pub unstopped : (q s : Path) (n : Node) → rest a q ≡ some s → f q ≡ some n → stops n ≡ true → ⊥
  pub target_link : f b ≡ some link → ⊥
  pub over_dir : kind f b ≡ a_directory → kind f a ≡ a_directory
  pub over_file : kind f b ≡ a_file → kind f a ≡ a_file

append_root : (a s : Path) → (a ≡ [] → ⊥) → a ++ s ≡ [] → ⊥
append_root [] s h e = h refl
append_root (x ∷ a) s h e = bot (cc)

module _ (f : View) (a b : Path) (o : RenameOk f a b) (c : Closed f) where
  not_under : below b a ≡ true → ⊥
  not_under h = elim (opt (f a)) [ has_none e ↦ o.found e | is_some n e ↦ o.free a n h e ]

  move_kind : (q : Path) (x : Option Node) → (q ≡ [] → ⊥) → move_view a b f q ≡ x → kind (move_view a b f) q ≡ kind_of x
  move_kind q x r e = kind_at (move_view a b f) q x e r

  move_out : (q : Path) → rest b q ≡ none → rest a q ≡ none → kind (move_view a b f) q ≡ kind f q
  move_out [] u v = refl
  move_out (y ∷ q) u v = cc

  move_closed : Closed (move_view a b f)
  move_closed q k n h g = elim (opt (rest b k)) [
    | is_some r e ↦ elim (opt (rest b q)) [
      | is_some s d ↦ move_kind q (f (a ++ s)) (λ z. append_root b s o.target (sym (rest_is b q s d).0 ∙ z)) (cc) ∙ sym (kind_at f (a ++ s) (f (a ++ s)) refl (append_root a s o.source))
          ∙ c (a ++ s) (a ++ r) n (below_moved a b q k s r d e h) (cc)
      | has_none d ↦ let u = below_split b q k r e h d in move_out q d (out q u) ∙ o.up q u
    ]
    | has_none e ↦ elim (opt (rest a k)) [
      | is_some r d ↦ cc
      | has_none d ↦ move_out q (above b e) (above a d) ∙ c q k n h (cc)
    ]
  ]
    where
      above : (p : Path) → rest p k ≡ none → rest p q ≡ none
      above p e = elim (opt (rest p q)) [ has_none z ↦ z | is_some s z ↦ cc (below_rest p k (inside_down p q k s z h)).1 ]

      out : (q : Path) → below q b ≡ true → rest a q ≡ none
      out q u = elim (opt (rest a q)) [ has_none z ↦ z | is_some s z ↦ absurd (o.apart (inside_down a q b s z u)) ]

-- a listed file is held by its own path
abbrev pub Held : Tree → Type 0
Held l = (k : Path) (m s : ℕ) (d : Body) → lookup l k ≡ some (file m s d) → d ≡ listed k

abbrev gone_in : Option Entry → Option Entry
gone_in o = map_o (λ x. deleted) o

-- a listed path without an entry has no entry above it
pub entry_free : (t : Table) (l : Tree) → Closed (lookup l) → Inv t l → (p q : Path) (n : Node) → below p q ≡ true → lookup l q ≡ some n → lookup t q ≡ none → lookup t p ≡ none
entry_free t l cl i p q n b h z = elim (opt (lookup t p)) [
  | has_none e ↦ e
  | is_some x e ↦ let k = i.closed p q n b (cc) in let c = cl p q n b h in let w = kind_entry t l i p x e in absurd (elim (entry_at (some x)) [
    | at_none u ↦ bot (cc)
    | at_own m d u ↦ bot (cc)
    | at_reference m s r u ↦ bot (cc)
    | at_deleted u ↦ bot (cc)
    | at_directory m u ↦ elim (node_at (lookup l p)) [
      | no_node v ↦ bot (cc (kind_at (lookup l) p none v (λ r. bot (cc i.rootless))))
      | file_node f g j v ↦ bot (cc (kind_at (lookup l) p (some (file f g j)) v (λ r. bot (cc i.rootless))))
      | link_node v ↦ bot (cc (kind_at (lookup l) p (some link) v (λ r. bot (cc i.rootless))))
      | a_dir j v ↦ i.dirs p m j q n (cc) v b h z
    ]
  ])
]

module _ (t : Table) (l : Tree) (cl : Closed (lookup l)) (i : Inv t l) (a : Path) where
  -- the walk comes to every listed path without an entry
  all_free : (q : Path) (n : Node) → lookup l q ≡ some n → lookup t q ≡ none → (ps : List Path) → ((p : Path) → mem p ps ≡ true → below p q ≡ true)
      → every (λ p. not (below a p) || is_none (lookup t p)) ps ≡ true
  all_free q n h z [] b = refl
  all_free q n h z (p ∷ ps) b =
      let e = entry_free t l cl i p q n (b p (cc (same_refl p))) h z in
      let ih = all_free q n h z ps (λ r m. b r (elim (split p r) [ Split.eq x y ↦ cc | Split.ne x y ↦ cc ])) in
      elim (test (below a p)) [ yea w ↦ cc | nay w ↦ cc ]

  uncovered_all : (q : Path) (n : Node) → lookup l q ≡ some n → lookup t q ≡ none → uncovered t a q ≡ true
  uncovered_all q n h z = cc (all_free q n h z (ancestors q) (λ p m. sym (mem_ancestors q p) ∙ m))

-- a test that every listed node without an entry passes leaves out nothing that counts
all_listed : (o : Option Entry) (n : Option Node) (b : Bool) → (o ≡ none → (x : Node) → n ≡ some x → b ≡ true) → or_else o (map_o as_entry (cond b n none)) ≡ or_else o (map_o as_entry n)
all_listed (some e) n b h = refl
all_listed none (some x) b h = ap (λ (c : Bool). map_o as_entry (cond c (some x) none)) (h refl x refl)
all_listed none none true h = refl
all_listed none none false h = refl

else_else : {A : Type 0} (x y z : Option A) → or_else x (or_else y z) ≡ or_else (or_else x y) z
else_else none y z = refl
else_else (some a) y z = refl

-- what is carried from a path with the entry o and the listed node n is one of them, and where nothing is carried neither shows anything
data From (o : Option Entry) (n : Option Node) (x : Entry) : Type 0 where
  from_table : o ≡ some x → From o n x
  from_listing : (y : Node) → o ≡ none → n ≡ some y → as_entry y ≡ x → From o n x

entry_from : (b : Bool) (o : Option Entry) (n : Option Node) (x : Entry) → cond b (or_else o (map_o as_entry n)) none ≡ some x → From o n x
entry_from true (some e) n x h = from_table h
entry_from true none (some y) x h = from_listing y refl refl (cc)
entry_from true none none x h = absurd (bot (cc))
entry_from false o n x h = absurd (bot (cc))

none_from : (b : Bool) (o : Option Entry) (n : Option Node) → b ≡ true → cond b (or_else o (map_o as_entry n)) none ≡ none → over o n ≡ none
none_from true (some e) n z h = cc
none_from true none (some y) z h = cc
none_from true none none z h = refl
none_from false o n z h = cc

-- what is at a, or below a directory there, goes along
not_along : (s : Bool) (k : Kind) (u : Bool) → (s || (is_directory k && u)) ≡ false → (s ≡ true) ⊎ ((k ≡ a_directory) × (u ≡ true)) → ⊥
not_along s k u h (inl e) = bot (cc)
not_along true k u h (inr e) = bot (cc)
not_along false k u h (inr e) = bot (cc (e.0, e.1))

-- a listed node that is carried as a reference is the file referred to
referred : (q : Path) (g : View) (m s : ℕ) (p : Path) (n : Node) → ((i j : ℕ) (d : Body) → g q ≡ some (file i j d) → d ≡ listed q)
    → g q ≡ some n → as_entry n ≡ reference m s p → g p ≡ some (file m s (listed p))
referred q g m s p (dir i) w d z = cc
referred q g m s p (file i j y) w d z = cc (w i j y d)
referred q g m s p link w d z = cc

module _ (t : Table) (l : Tree) (held' : Held l) (cl : Closed (lookup l)) (i : Inv t l) (a b : Path) (o : RenameOk (shown t l) a b) where
  -- what is carried from a path
  M : Path → Option Entry
  M q = lookup (carried t l a) q

  M_is : (q : Path) → M q ≡ cond (along (kind (shown t l) a) a q) (or_else (lookup t q) (map_o as_entry (lookup l q))) none
  unfolding M
  M_is q = lookup_only (along (kind (shown t l) a) a) (puts t (mapped as_entry (only (uncovered t a) l))) q
      ∙ ap (λ (o : Option Entry). cond (along (kind (shown t l) a) a q) o none)
      (lookup_puts t (mapped as_entry (only (uncovered t a) l)) q
      ∙ ap (or_else (lookup t q)) (lookup_mapped as_entry (only (uncovered t a) l) q ∙ ap (map_o as_entry) (lookup_only (uncovered t a) l q))
      ∙ all_listed (lookup t q) (lookup l q) (uncovered t a q) (λ z n d. uncovered_all t l cl i a q n d z))

  -- what is at a or below it, and is not carried, is not visible
  M_none : (q s : Path) → rest a q ≡ some s → M q ≡ none → shown t l q ≡ none
  M_none q s r h = elim (test (along (kind (shown t l) a) a q)) [
    | yea z ↦ none_from (along (kind (shown t l) a) a q) (lookup t q) (lookup l q) z (sym (M_is q) ∙ h)
    | nay z ↦ elim (opt (shown t l q)) [ has_none e ↦ e | is_some n e ↦ absurd (left s n r z e) ]
  ]
    where
      left : (s : Path) (n : Node) → rest a q ≡ some s → along (kind (shown t l) a) a q ≡ false → shown t l q ≡ some n → ⊥
      left [] n r z e = not_along (same a q) (kind (shown t l) a) (below a q) z (inl (ap (same a) (sym (rest_nil a q r)) ∙ same_refl a))
      left (c ∷ s) n r z e = let y = rest_below a q c s r in not_along (same a q) (kind (shown t l) a) (below a q) z (inr (i.closed a q n y e, y))

  M_out : (q : Path) → rest a q ≡ none → M q ≡ none
  M_out q r = let w = M_is q in elim (test (along (kind (shown t l) a) a q)) [
    | nay z ↦ cc
    | yea z ↦ absurd (elim (split a q) [
      | Split.eq x y ↦ bot (cc (rest_self a))
      | Split.ne x y ↦ elim (test (below a q)) [
        | yea v ↦ bot (cc (below_rest a q v).1)
        | nay v ↦ elim (test (is_directory (kind (shown t l) a))) [ yea u ↦ bot (cc) | nay u ↦ bot (cc) ]
      ]
    ])
  ]

  M_from : (q : Path) (x : Entry) → M q ≡ some x → From (lookup t q) (lookup l q) x
  M_from q x h = entry_from (along (kind (shown t l) a) a q) (lookup t q) (lookup l q) x (sym (M_is q) ∙ h)

  M_some : (q s : Path) (x : Entry) → rest a q ≡ some s → M q ≡ some x → view x ≡ shown t l q
  M_some q s x r h = elim (M_from q x h) [
    | from_table e ↦ sym (ap (λ (y : Option Entry). over y (lookup l q)) e)
    | from_listing n e d z ↦ let v = ap (λ (y : Option Entry). over y (lookup l q)) e ∙ d in ap view (sym z) ∙ as_shown n d v ∙ sym v
  ]
    where
      as_shown : (n : Node) → lookup l q ≡ some n → shown t l q ≡ some n → view (as_entry n) ≡ some n
      as_shown (dir m) d v = refl
      as_shown (file m z y) d v = let w = held' q m z y d in ap (λ (c : Body). view (as_entry (file m z c))) w ∙ sym (ap (λ (c : Body). some (file m z c)) w)
      as_shown link d v = absurd (o.unstopped q s link r v refl)

  M_ref : (q : Path) (m s : ℕ) (p : Path) → M q ≡ some (reference m s p) → lookup l p ≡ some (file m s (listed p))
  M_ref q m s p h = elim (M_from q (reference m s p) h) [
    | from_table e ↦ i.refs q m s p e
    | from_listing n e d z ↦ referred q (lookup l) m s p n (held' q) d z
  ]

  -- the entries that are put
  E : Path → Option Entry
  E q = or_else (by_rest (rest b q) (λ s. M (a ++ s)) none) (gone_in (M q))

  E_is : (q : Path) → lookup (moved t l a b) q ≡ or_else (E q) (lookup t q)
  unfolding E M
  E_is q =
      let c = carried t l a in
      lookup_puts (rekey a b c) (puts (each deleted (keys c)) t) q
      ∙ ap₂ or_else (lookup_rekey a b c q) (lookup_puts (each deleted (keys c)) t q ∙ ap (λ (o : Option Entry). or_else o (lookup t q)) (lookup_keys deleted c q))
      ∙ else_else (by_rest (rest b q) (λ s. lookup (carried t l a) (a ++ s)) none) (gone_in (lookup (carried t l a) q)) (lookup t q)

  -- nothing else is visible at or below the target
  at_target : (q s : Path) → rest b q ≡ some s → M (a ++ s) ≡ none → shown t l q ≡ none
  at_target q [] h m = absurd (o.found (M_none a [] (rest_self a) (subst (λ (z : Path). M z ≡ none) (append-nil a) m)))
  at_target q (x ∷ s) h m = elim (opt (shown t l q)) [ has_none e ↦ e | is_some n e ↦ absurd (o.free q n (rest_below b q x s h) e) ]

  move_shown : (q : Path) → over (E q) (shown t l q) ≡ move_view a b (shown t l) q
  unfolding E
  move_shown q = elim (opt (rest b q)) [
    | is_some s e ↦ let v = rest_is b q s e in let r = rest_app a s v.1 in elim (opt (M (a ++ s))) [
      | is_some x d ↦ cc (M_some (a ++ s) s x r d)
      | has_none d ↦ let z = M_none (a ++ s) s r d in elim (opt (M q)) [ has_none g ↦ cc (at_target q s e d) | is_some y g ↦ cc ]
    ]
    | has_none e ↦ elim (opt (rest a q)) [
      | has_none r ↦ cc (M_out q r)
      | is_some u r ↦ elim (opt (M q)) [ has_none d ↦ cc (M_none q u r d) | is_some x d ↦ cc ]
    ]
  ]

  gone_not : (x : Option Entry) (y : Entry) → gone_in x ≡ some y → y ≡ deleted
  gone_not none y h = cc
  gone_not (some z) y h = cc

  -- what is put at a path: an entry moved there, or `deleted`
  E_some : (q : Path) (x : Entry) → E q ≡ some x → ((s : Path) × (rest b q ≡ some s) × (M (a ++ s) ≡ some x)) ⊎ (x ≡ deleted)
  unfolding E
  E_some q x h = elim (opt (rest b q)) [
    | has_none e ↦ inr (gone_not (M q) x (cc))
    | is_some s e ↦ elim (opt (M (a ++ s))) [
      | has_none d ↦ inr (gone_not (M q) x (cc))
      | is_some y d ↦ inl (s, e, cc)
    ]
  ]

  E_outside : (q : Path) → rest a q ≡ none → rest b q ≡ none → E q ≡ none
  unfolding E
  E_outside q u v = cc (M_out q u)

  outside_link : (k : Path) → shown t l k ≡ some link → (rest a k ≡ none) × (rest b k ≡ none)
  outside_link k h = (elim (opt (rest a k)) [ has_none e ↦ e | is_some s e ↦ absurd (o.unstopped k s link e h refl) ], elim (opt (rest b k)) [ has_none e ↦ e | is_some s e ↦ absurd (no s e) ])
    where
      no : (s : Path) → rest b k ≡ some s → ⊥
      no [] e = o.target_link (cc (rest_nil b k e))
      no (x ∷ s) e = o.free k link (rest_below b k x s e) h

  root_out : (p : Path) → (p ≡ [] → ⊥) → rest p [] ≡ none
  root_out [] h = absurd (h refl)
  root_out (x ∷ p) h = refl

  pub move_inv : Inv (moved t l a b) l
  move_inv = inv_over t (moved t l a b) l E E_is i
      (subst⁻¹ Closed (fun_ext move_shown) (move_closed (shown t l) a b o i.closed))
      (λ k h. let w = outside_link k (cc (i.uncovered k h)) in E_outside k w.0 w.1)
      (λ k m s p h. elim (E_some k (reference m s p) h) [ inl z ↦ M_ref (a ++ z.0) m s p z.2 | inr z ↦ cc ])
      (λ k m j q n h g y z u v. elim (E_some k (directory m) h) [ inl w ↦ o.free q n (inside_down b k q w.0 w.1 y) (cc) | inr w ↦ bot (cc) ])
      (E_outside [] (root_out a o.source) (root_out b o.target))

  pub move_tree : shown (moved t l a b) l ≡ move_view a b (shown t l)
  move_tree = shown_over t (moved t l a b) l E E_is ∙ fun_ext move_shown

else_none : (x y : Option Node) → y ≡ none → or_else x y ≡ x
else_none none y h = h
else_none (some n) y h = refl

none_either : (o : Option Path) → by_rest {B = Option Node} o (λ s. none) none ≡ none
none_either none = refl
none_either (some r) = refl

-- the plain move: without what is at b, what is at a or below it goes to b
module _ (f : View) (a b : Path) (o : RenameOk f a b) (q : Path) where
  cleared : (k : Path) (c : Bool) → same b k ≡ c → upd f b none k ≡ cond c none (f k)
  cleared k c h = ap (λ (x : Bool). cond x none (f k)) h

  bare : (r : Path) → rest b q ≡ some r → (b ≡ q → ⊥) → f q ≡ none
  bare [] d h = absurd (h (rest_nil b q d))
  bare (x ∷ r) d h = elim (opt (f q)) [ has_none z ↦ z | is_some n z ↦ absurd (o.free q n (rest_below b q x r d) z) ]

  -- nothing is left at the target or below it
  emptied : (r : Path) → rest b q ≡ some r → upd f b none q ≡ none
  emptied r d = elim (split b q) [ Split.eq h m ↦ cleared q true m | Split.ne h m ↦ cleared q false m ∙ bare r d h ]

  -- the target is not inside the source
  other : (r : Path) → rest b q ≡ some r → b ≡ a ++ r → ⊥
  other [] d h = o.two (sym (h ∙ append-nil a))
  other (x ∷ r) d h = o.apart (rest_below a b x r (ap (rest a) h ∙ rest_app a (x ∷ r) (rest_is b q (x ∷ r) d).1))

  move_cleared : (z : Option Path) → rest b q ≡ z
      → or_else (by_rest z (λ s. upd f b none (a ++ s)) none) (by_rest (rest a q) (λ s. none) (upd f b none q)) ≡ by_rest z (λ s. f (a ++ s)) (by_rest (rest a q) (λ s. none) (f q))
  move_cleared none d = ap (by_rest (rest a q) (λ s. none)) (cleared q false (same_no b q (λ g. bot (cc (rest_self b)))))
  move_cleared (some r) d = ap (λ (x : Option Node). or_else x (by_rest (rest a q) (λ s. none) (upd f b none q))) (cleared (a ++ r) false (same_no b (a ++ r) (other r d)))
      ∙ else_none (f (a ++ r)) (by_rest (rest a q) (λ s. none) (upd f b none q)) (ap (by_rest (rest a q) (λ s. none)) (emptied r d) ∙ none_either (rest a q))

module _ (s : Tree) (a b : Path) (o : RenameOk (lookup s) a b) where
  plain_at : (q : Path) → lookup (plain_move a b (del b s)) q
      ≡ or_else (by_rest (rest b q) (λ r. upd (lookup s) b none (a ++ r)) none) (by_rest (rest a q) (λ r. none) (upd (lookup s) b none q))
  plain_at q = lookup_puts (rekey a b (del b s)) (outside a (del b s)) q ∙ ap₂ or_else (lookup_rekey a b (del b s) q) (lookup_outside a (del b s) q)
      ∙ ap (λ (f : View). or_else (by_rest (rest b q) (λ r. f (a ++ r)) none) (by_rest (rest a q) (λ r. none) (f q))) (fun_ext (lookup_del b s))

  pub plain_move_lem : lookup (cond (same a b) s (plain_move a b (del b s))) ≡ move_view a b (lookup s)
  plain_move_lem = ap (λ (c : Bool). lookup (cond c s (plain_move a b (del b s)))) (same_no a b o.two)
      ∙ fun_ext (λ q. plain_at q ∙ move_cleared (lookup s) a b o q (rest b q) refl)

module _ (t : Table) (l : Tree) (i : Inv t l) (a b : Path) where
  -- no entry shows a node that stops the walk: it is listed, and has no entry
  pub listed_stop : (q : Path) (n : Node) → shown t l q ≡ some n → stops n ≡ true → (lookup l q ≡ some n) × (lookup t q ≡ none)
  listed_stop q n e h = go (lookup t q) refl e
    where
      go : (x : Option Entry) → lookup t q ≡ x → over x (lookup l q) ≡ some n → (lookup l q ≡ some n) × (lookup t q ≡ none)
      go none z y = (y, z)
      go (some (own m c)) z y = absurd (bot (cc))
      go (some (reference m k p)) z y = absurd (bot (cc))
      go (some (directory m)) z y = absurd (bot (cc))
      go (some deleted) z y = absurd (bot (cc))

  pub kind_link : (p : Path) → (p ≡ [] → ⊥) → kind (shown t l) p ≡ a_link → shown t l p ≡ some link
  kind_link p r h = elim (node_at (shown t l p)) [
    | no_node e ↦ cc (kind_at (shown t l) p none e r)
    | a_dir m e ↦ cc (kind_at (shown t l) p (some (dir m)) e r)
    | file_node m s d e ↦ cc (kind_at (shown t l) p (some (file m s d)) e r)
    | link_node e ↦ e
  ]

  pub kind_absent : (p : Path) → (p ≡ [] → ⊥) → kind (shown t l) p ≡ nothing → shown t l p ≡ none
  kind_absent p r h = elim (node_at (shown t l p)) [
    | no_node e ↦ e
    | a_dir m e ↦ cc (kind_at (shown t l) p (some (dir m)) e r)
    | file_node m s d e ↦ cc (kind_at (shown t l) p (some (file m s d)) e r)
    | link_node e ↦ cc (kind_at (shown t l) p (some link) e r)
  ]
