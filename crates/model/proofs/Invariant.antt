-- The invariant that the calls keep: what is visible stands in directories, and what entries may stand over.
use mathlib.Core.Path.{◌≡◌, refl, ap, sym, ◌∙◌, fun_ext, subst⁻¹}
use mathlib.Core.List.{List, [], ◌∷◌, map}
use mathlib.Core.Bool.{Bool, true, false, cond}
use mathlib.Core.Option.{Option, none, some}
use Prim.Native.Nat.{ℕ}
use lib.Dec.{eqb}
use Rattle.model.specs.Path.{Path, is_path, below, ancestors}
use Rattle.model.specs.Map.{lookup, put}
use Rattle.model.specs.Tree.{Body, listed, Node, dir, file, link, Entry, own, reference, directory, deleted, Table, Tree, View, view, over, shown, Kind, nothing, a_directory, a_file, a_link, kind_of, kind}
use Rattle.model.specs.Checks.{Check, pass, refuse, ◌then◌, unless, form, parent_at, parents_in}
use Rattle.model.proofs.Orders.{split, Split, below_irrefl, eqb_eq, eqb_true, same_no, and_true, bot, has_none, is_some, opt}
use Rattle.model.proofs.Maps.{upd, lookup_put, or_else}

pub data NodeAt (o : Option Node) : Type 0 where
  no_node : o ≡ none → NodeAt o
  a_dir : (m : ℕ) → o ≡ some (dir m) → NodeAt o
  file_node : (m s : ℕ) (d : Body) → o ≡ some (file m s d) → NodeAt o
  link_node : o ≡ some link → NodeAt o

pub node_at : (o : Option Node) → NodeAt o
node_at none = no_node refl
node_at (some (dir m)) = a_dir m refl
node_at (some (file m s d)) = file_node m s d refl
node_at (some link) = link_node refl

pub data KindIs (k : Kind) : Type 0 where
  nothing_is : k ≡ nothing → KindIs k
  directory_is : k ≡ a_directory → KindIs k
  file_is : k ≡ a_file → KindIs k
  link_is : k ≡ a_link → KindIs k

pub kind_is : (k : Kind) → KindIs k
kind_is nothing = nothing_is refl
kind_is a_directory = directory_is refl
kind_is a_file = file_is refl
kind_is a_link = link_is refl

-- whatever is there stands in directories
abbrev pub Closed : View → Type 0
Closed f = (q k : Path) (n : Node) → below q k ≡ true → f k ≡ some n → kind f q ≡ a_directory

-- what is visible has directories above it
pub closed_above : (f : View) → Closed f → (p : Path) → (kind f p ≡ nothing → ⊥) → (q : Path) → below q p ≡ true → kind f q ≡ a_directory
closed_above f c [] h q b = absurd (no_root q b)
  where
    no_root : (q : Path) → below q [] ≡ true → ⊥
    no_root [] b = bot (cc)
    no_root (x ∷ q) b = bot (cc)
closed_above f c (x ∷ p) h q b = elim (opt (f (x ∷ p))) [ has_none e ↦ absurd (h (cc)) | is_some n e ↦ c q (x ∷ p) n b e ]

-- #112's five rules in the form that the proofs use; specs/Rules.antt has them as written
pub record Inv (t : Table) (l : Tree) : Type 0 where
  pub closed : Closed (shown t l)
  pub uncovered : (k : Path) → lookup l k ≡ some link → lookup t k ≡ none
  pub refs : (k : Path) (m s : ℕ) (p : Path) → lookup t k ≡ some (reference m s p) → lookup l p ≡ some (file m s (listed p))
  pub dirs : (k : Path) (m j : ℕ) (q : Path) (n : Node) → lookup t k ≡ some (directory m) → lookup l k ≡ some (dir j) → below k q ≡ true → lookup l q ≡ some n → lookup t q ≡ none → ⊥
  pub rootless : lookup t [] ≡ none

-- the tree that the table shows, after an entry was put
pub shown_put : (t : Table) (l : Tree) (k : Path) (e : Entry) → shown (put k e t) l ≡ upd (shown t l) k (view e)
shown_put t l k e = fun_ext (λ q. let h = lookup_put k e t q in elim (split k q) [ Split.eq a w ↦ cc | Split.ne a w ↦ cc ])

kind_upd : (f : View) (k : Path) (v : Option Node) (q : Path) → (k ≡ q → ⊥) → kind (upd f k v) q ≡ kind f q
kind_upd f k v [] h = refl
kind_upd f k v (c ∷ cs) h = cc (same_no k (c ∷ cs) h)

pub closed_upd : (f : View) (k : Path) (v : Option Node) → Closed f
    → ((q : Path) (n : Node) → below k q ≡ true → f q ≡ some n → ⊥)
    → ((n : Node) (q : Path) → v ≡ some n → below q k ≡ true → kind f q ≡ a_directory) → Closed (upd f k v)
closed_upd f k v c empty up q j n b h = elim (split k j) [
  | Split.eq e w ↦ kind_upd f k v q (λ z. below_irrefl k (cc)) ∙ up n q (cc) (cc)
  | Split.ne x w ↦ let g : f j ≡ some n = cc in kind_upd f k v q (λ z. empty j n (cc) g) ∙ c q j n b g
]

pub then_pass : (a b : Check) → (a then b) ≡ pass → (a ≡ pass) × (b ≡ pass)
then_pass pass b h = (refl, h)
then_pass (refuse k w n) b h = (cc, cc)

-- two checks that pass, one after the other
pub then_both : (a b : Check) → a ≡ pass → b ≡ pass → (a then b) ≡ pass
then_both a b h k = cc

-- what it says that a test passed, and that a path was found in form
pub unless_pass : (n : ℕ) (b : Bool) → unless n b ≡ pass → b ≡ true
unless_pass n true h = refl
unless_pass n false h = cc

pub form_is : (w : ℕ) (p : Path) → form w p ≡ pass → is_path p ≡ true
form_is w p h = go (is_path p) h
  where
    go : (b : Bool) → cond b pass (refuse 3 w 0) ≡ pass → b ≡ true
    go true h = refl
    go false h = cc

parent_dir : (w n : ℕ) (k : Kind) → parent_at w n k ≡ pass → k ≡ a_directory
parent_dir w n nothing h = cc
parent_dir w n a_directory h = refl
parent_dir w n a_file h = cc
parent_dir w n a_link h = cc

module _ (w n : ℕ) where
  parents_map : (g : Path → Kind) (c : ℕ) (qs : List Path) → parents_in w n g (map (λ (q : Path). c ∷ q) qs) ≡ parents_in w n (λ q. g (c ∷ q)) qs
  parents_map g c [] = refl
  parents_map g c (q ∷ qs) = ap (λ z. parent_at w n (g (c ∷ q)) then z) (parents_map g c qs)

  -- the check on the parents, and what it says
  parents_cons : (g : Path → Kind) (c : ℕ) (cs : Path) → parents_in w n g (ancestors (c ∷ cs)) ≡ (cond (eqb c 47) (parent_at w n (g [])) pass then parents_in w n (λ q. g (c ∷ q)) (ancestors cs))
  parents_cons g c cs = go (eqb c 47) refl (parents_map g c (ancestors cs))
    where
      go : (b : Bool) → eqb c 47 ≡ b → parents_in w n g (map (λ (q : Path). c ∷ q) (ancestors cs)) ≡ parents_in w n (λ q. g (c ∷ q)) (ancestors cs)
          → parents_in w n g (ancestors (c ∷ cs)) ≡ (cond (eqb c 47) (parent_at w n (g [])) pass then parents_in w n (λ q. g (c ∷ q)) (ancestors cs))
      go true e h = cc
      go false e h = cc

  pub parents_dirs : (g : Path → Kind) (p q : Path) → parents_in w n g (ancestors p) ≡ pass → below q p ≡ true → g q ≡ a_directory
  parents_dirs g [] [] h b = cc
  parents_dirs g [] (a ∷ as') h b = cc
  parents_dirs g (c ∷ cs) [] h b =
      let k = then_pass (cond (eqb c 47) (parent_at w n (g [])) pass) (parents_in w n (λ q. g (c ∷ q)) (ancestors cs)) (sym (parents_cons g c cs) ∙ h) in
      parent_dir w n (g []) (cc k.0)
  parents_dirs g (c ∷ cs) (a ∷ as') h b =
      let k = then_pass (cond (eqb c 47) (parent_at w n (g [])) pass) (parents_in w n (λ q. g (c ∷ q)) (ancestors cs)) (sym (parents_cons g c cs) ∙ h) in
      let e = and_true (eqb a c) (below as' cs) b in
      cc (parents_dirs (λ q. g (c ∷ q)) cs as' k.1 e.1, eqb_eq a c e.0)

  pub parents_pass : (g : Path → Kind) (p : Path) → ((q : Path) → below q p ≡ true → g q ≡ a_directory) → parents_in w n g (ancestors p) ≡ pass
  parents_pass g [] h = refl
  parents_pass g (c ∷ cs) h = parents_cons g c cs ∙ go (eqb c 47) refl (parents_pass (λ q. g (c ∷ q)) cs (λ q b. h (c ∷ q) (cc (eqb_true c))))
    where
      go : (b : Bool) → eqb c 47 ≡ b → parents_in w n (λ q. g (c ∷ q)) (ancestors cs) ≡ pass → (cond (eqb c 47) (parent_at w n (g [])) pass then parents_in w n (λ q. g (c ∷ q)) (ancestors cs)) ≡ pass
      go true e ih = cc (h [] e)
      go false e ih = cc

-- an entry looked up, as cases that carry the equation
pub data EntryAt (o : Option Entry) : Type 0 where
  at_none : o ≡ none → EntryAt o
  at_own : (m : ℕ) (d : List ℕ) → o ≡ some (own m d) → EntryAt o
  at_reference : (m s : ℕ) (p : Path) → o ≡ some (reference m s p) → EntryAt o
  at_directory : (m : ℕ) → o ≡ some (directory m) → EntryAt o
  at_deleted : o ≡ some deleted → EntryAt o

pub entry_at : (o : Option Entry) → EntryAt o
entry_at none = at_none refl
entry_at (some (own m d)) = at_own m d refl
entry_at (some (reference m s p)) = at_reference m s p refl
entry_at (some (directory m)) = at_directory m refl
entry_at (some deleted) = at_deleted refl

-- an entry put where nothing is shown below
module _ (t : Table) (l : Tree) (i : Inv t l) (k : Path) (e : Entry) where
  pub inv_put : ((q : Path) (n : Node) → below k q ≡ true → shown t l q ≡ some n → ⊥)
      → ((n : Node) (q : Path) → view e ≡ some n → below q k ≡ true → kind (shown t l) q ≡ a_directory)
      → (lookup l k ≡ some link → ⊥)
      → ((m s : ℕ) (p : Path) → e ≡ reference m s p → lookup l p ≡ some (file m s (listed p)))
      → (k ≡ [] → ⊥) → Inv (put k e t) l
  inv_put empty up nolink refok root = record {
    closed = subst⁻¹ Closed (shown_put t l k e) (closed_upd (shown t l) k (view e) i.closed empty up);
    uncovered = λ j h. let w = lookup_put k e t j in elim (split k j) [ Split.eq a b ↦ absurd (nolink (cc)) | Split.ne a b ↦ cc (i.uncovered j h) ];
    refs = λ j m s p h. let w = lookup_put k e t j in elim (split k j) [ Split.eq a b ↦ refok m s p (cc) | Split.ne a b ↦ i.refs j m s p (cc) ];
    dirs = λ j m x q n h g b y z. let w = lookup_put k e t q in let v = lookup_put k e t j in elim (split k q) [
      | Split.eq a c ↦ bot (cc)
      | Split.ne a c ↦ elim (split k j) [ Split.eq a' c' ↦ empty q n (cc) (cc) | Split.ne a' c' ↦ i.dirs j m x q n (cc) g b y (cc) ]
    ];
    rootless = cc (lookup_put k e t [], i.rootless, same_no k [] root);
  }

pub kind_at : (f : View) (p : Path) (o : Option Node) → f p ≡ o → (p ≡ [] → ⊥) → kind f p ≡ kind_of o
kind_at f [] o h r = absurd (r refl)
kind_at f (c ∷ cs) o h r = ap kind_of h

-- entries E put over the table: what is shown, and what has to be seen of E
module _ (t t' : Table) (l : Tree) (E : Path → Option Entry) (H : (q : Path) → lookup t' q ≡ or_else (E q) (lookup t q)) where
  pub shown_over : shown t' l ≡ (λ q. over (E q) (shown t l q))
  shown_over = fun_ext (λ q. let h = H q in elim (entry_at (E q)) [ at_none e ↦ cc | at_own m d e ↦ cc | at_reference m s p e ↦ cc | at_directory m e ↦ cc | at_deleted e ↦ cc ])

  pub inv_over : Inv t l → Closed (λ q. over (E q) (shown t l q))
      → ((k : Path) → lookup l k ≡ some link → E k ≡ none)
      → ((k : Path) (m s : ℕ) (p : Path) → E k ≡ some (reference m s p) → lookup l p ≡ some (file m s (listed p)))
      → ((k : Path) (m j : ℕ) (q : Path) (n : Node) → E k ≡ some (directory m) → lookup l k ≡ some (dir j) → below k q ≡ true → lookup l q ≡ some n → E q ≡ none → lookup t q ≡ none → ⊥)
      → E [] ≡ none → Inv t' l
  inv_over i c u r d o = record {
    closed = subst⁻¹ Closed shown_over c;
    uncovered = λ k h. cc (H k, u k h, i.uncovered k h);
    refs = λ k m s p h. elim (opt (E k)) [ has_none e ↦ i.refs k m s p (cc (H k)) | is_some x e ↦ r k m s p (cc (H k)) ];
    dirs = λ k m j q n h g b y z. elim (opt (E q)) [
      | is_some x e ↦ bot (cc (H q))
      | has_none e ↦ elim (opt (E k)) [ has_none e' ↦ i.dirs k m j q n (cc (H k)) g b y (cc (H q)) | is_some x e' ↦ d k m j q n (cc (H k)) g b y e (cc (H q)) ]
    ];
    rootless = cc (H [], o, i.rootless);
  }

module _ (t : Table) (l : Tree) (i : Inv t l) (p : Path) where
  -- an entry's key is not the root, and an entry shows what it says
  keyed : (e : Entry) → lookup t p ≡ some e → p ≡ [] → ⊥
  keyed e h r = bot (cc i.rootless)

  pub kind_entry : (e : Entry) → lookup t p ≡ some e → kind (shown t l) p ≡ kind_of (view e)
  kind_entry e h = kind_at (shown t l) p (view e) (cc) (keyed e h)

-- an empty table keeps the rules over any closed tree
pub inv_empty : (s : Tree) → Closed (lookup s) → Inv [] s
inv_empty s c = record { closed = c; uncovered = λ k h. refl; refs = λ k m z p h. cc; dirs = λ k m j q n h g b y z. bot (cc); rootless = refl }
