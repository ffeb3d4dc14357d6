-- Showing directories of a table that the calls built: the names are those of the plain tree's children, and every
-- visible path but a link stands, by its name, in the accepted showing of its parent. Assumes that the listing is in
-- form and that its elements are bytes; of the output, that the parent's names fit it.
use mathlib.Core.Path.{◌≡◌, refl, ap, ap₂, sym, ◌∙◌, subst}
use mathlib.Core.Bool.{true, ◌&&◌}
use mathlib.Core.List.{[], ◌∷◌, ◌++◌}
use mathlib.Core.Logic.{◌⊎◌, inl, inr}
use mathlib.Core.Option.{some}
use Prim.Native.Nat.{ℕ, ◌+◌, ◌≤◌}
use native.Mathlib.Nat.{le_trans}
use native.Mathlib.Omega.{arith}
use lib.Dec.{eqb}
use lib.ListN.{length}
use borrow.Author.Tests.{lt-ltb}
use Rattle.model.specs.Bytes.{Bytes}
use Rattle.model.specs.Path.{Path, is_path, below, slashless}
use Rattle.model.specs.Tree.{Node, View}
use Rattle.model.specs.Listing.{is_listing, tree_in}
use Rattle.model.specs.Outcome.{Given, shown_in}
use Rattle.model.specs.Plain.{visible_tree}
use Rattle.model.specs.declared.Record.{Record}
use Rattle.model.specs.Runs.{State, Built, entries_of}
use Rattle.model.proofs.Orders.{bot, yea, nay, test, eqb_eq, eqb_true, has_none, is_some, opt}
use Rattle.model.proofs.Maps.{map_ext}
use Rattle.model.proofs.Words.{IsBytes}
use Rattle.model.proofs.Texts.{path_ancestor, proper_ancestor}
use Rattle.model.proofs.Invariant.{Closed}
use Rattle.model.proofs.Formed.{listing_fine}
use Rattle.model.proofs.Resumed.{visible_is, visible_sorted}
use Rattle.model.proofs.Built.{built_reached}
use Rattle.show_names.specs.Names.{names, child_names}
use Rattle.show_names.specs.Shows.{is_name, child_path, shows_at, FoundIn, StandsIn}
use Rattle.show_names.proofs.Children.{no_slash_last}
use Rattle.show_names.proofs.Bounds.{names_bound}
use Rattle.show_names.proofs.Shown.{visible_formed, directory_accepted, accepted_shows}

-- a path has one component, or a last slash with one behind it
abbrev Parted : Path → Type 0
Parted k = (slashless k ≡ true) ⊎ ((q : Path) × (n : Bytes) × (k ≡ q ++ (47 ∷ n)) × (slashless n ≡ true))

parted : (k : Path) → Parted k
parted [] = inl refl
parted (c ∷ k) = go (parted k)
  where
    go : Parted k → Parted (c ∷ k)
    go (inr i) = inr (c ∷ i.0, i.1, ap (λ (r : Path). c ∷ r) i.2, i.3)
    go (inl h) = elim (test (eqb c 47)) [
      | yea e ↦ inr ([], k, ap (λ (b : ℕ). b ∷ k) (eqb_eq c 47 e), h)
      | nay e ↦ inl (cc)
    ]

below_joined : (q n : Path) → below q (q ++ (47 ∷ n)) ≡ true
below_joined [] n = refl
below_joined (c ∷ q) n = cc (eqb_true c, below_joined q n)

named : (n : Bytes) → (n ≡ [] → ⊥) → slashless n ≡ true → is_name n ≡ true
named [] r h = absurd (r refl)
named (c ∷ n) r h = cc (lt-ltb 0 (length (c ∷ n)) (omega arith))

-- where whatever is there stands in directories, a path in form with something at it stands in the directory before its
-- last slash
found_below : (f : View) (q : Path) (n : Bytes) (v : Node) → Closed f → slashless n ≡ true
    → is_path (q ++ (47 ∷ n)) ≡ true → f (q ++ (47 ∷ n)) ≡ some v → FoundIn f (q ++ (47 ∷ n))
found_below f [] n v c s h e = absurd (proper_ancestor (47 ∷ n) [] h (below_joined [] n) refl)
found_below f (b ∷ q) n v c s h e =
    let p : Path = b ∷ q in
    let u = below_joined p n in
    record {
      parent = p;
      name = n;
      is = refl;
      named = named n (λ z. no_slash_last p (path_ancestor (p ++ (47 ∷ n)) p h u) (λ w. bot (cc))
          (subst (λ (x : Path). is_path (p ++ (47 ∷ x)) ≡ true) z h)) s;
      directory = c p (p ++ (47 ∷ n)) v u e;
    }

-- the parent of a path in form is in form
parent_formed : (p n : Path) → is_path (child_path p n) ≡ true → is_path p ≡ true
parent_formed [] n h = refl
parent_formed (c ∷ p) n h = path_ancestor (child_path (c ∷ p) n) (c ∷ p) h (below_joined (c ∷ p) n)

found_in : (f : View) (k : Path) (v : Node) → Closed f → (k ≡ [] → ⊥) → is_path k ≡ true → f k ≡ some v → FoundIn f k
found_in f k v c r h e = go (parted k)
  where
    go : Parted k → FoundIn f k
    go (inl s) = record { parent = []; name = k; is = refl; named = named k r s; directory = refl }
    go (inr i) = subst (FoundIn f) (sym i.2) (found_below f i.0 i.1 v c i.3
        (subst (λ (x : Path). is_path x ≡ true) i.2 h) (sym (ap f i.2) ∙ e))

-- at a path but the root at which something is shown stands a node
shows_some : (f : View) (k : Path) → (k ≡ [] → ⊥) → shows_at f k ≡ true → (v : Node) × (f k ≡ some v)
shows_some f [] r h = absurd (r refl)
shows_some f (c ∷ k) r h = elim (opt (f (c ∷ k))) [ has_none e ↦ absurd (bot (cc)) | is_some v e ↦ (v, e) ]

module _ (listing : Bytes) (E : ℕ) (x : State) (bytes : IsBytes listing) (l : is_listing listing ≡ true)
    (built : Built listing E x) where
  -- what is shown are the names of the plain tree's children
  pub built_names : (p : Path) → names p (visible_tree (entries_of x.store) (tree_in listing)) ≡ names p x.plain
  built_names p =
      let t = entries_of x.store in
      let s = (built_reached listing E bytes x built).sound l in
      ap (names p) (map_ext (visible_tree t (tree_in listing)) x.plain
      (visible_sorted t (tree_in listing) (listing_fine listing bytes l).sorted) s.sorted
      (λ k. sym (visible_is t (tree_in listing) k) ∙ ap (λ (f : View). f k) s.tree))

  given : Given listing x.store.table x.store.rec
  given = record { listing_is = l; table_is = (built_reached listing E bytes x built).table }

  module _ (k : Path) (r : k ≡ [] → ⊥) (h : shows_at (shown_in listing x.store.table x.store.rec) k ≡ true) where
    node : (v : Node) × (shown_in listing x.store.table x.store.rec k ≡ some v)
    node = shows_some (shown_in listing x.store.table x.store.rec) k r h

    formed : is_path k ≡ true
    formed = visible_formed listing x.store.table x.store.rec given k node.0
        (sym (visible_is (entries_of x.store) (tree_in listing) k) ∙ node.1)

    -- every visible path but a link has a name in a directory that is shown
    pub built_found : FoundIn (shown_in listing x.store.table x.store.rec) k
    built_found =
        let c = ((built_reached listing E bytes x built).sound l).inv.closed in
        found_in (shown_in listing x.store.table x.store.rec) k node.0 c r formed node.1

    -- and the showing of that directory, into an output as long as listing and table, is accepted and writes the name
    pub built_shown : (output : Bytes) → length listing + length x.store.table ≤ length output
        → StandsIn listing x.store.table x.store.rec output k
    built_shown output long =
        let table : Bytes = x.store.table in
        let rec : Record = x.store.rec in
        let p : Path = built_found.parent in
        let n : Bytes = built_found.name in
        let is : k ≡ child_path p n = built_found.is in
        let parent-path = parent_formed p n (subst (λ (q : Path). is_path q ≡ true) is formed) in
        let fits = le_trans (names_bound listing table rec p given) long in
        let answered = directory_accepted listing table rec given p output parent-path built_found.directory fits in
        let w = accepted_shows listing table rec p output (length (child_names listing table rec p)) answered in
        let there : shows_at (shown_in listing table rec) (child_path p n) ≡ true =
        subst (λ (q : Path). shows_at (shown_in listing table rec) q ≡ true) is h in
        record {
          found = built_found;
          answer = length (child_names listing table rec p);
          is_accepted = answered;
          shows = w;
          stands = w.exactly n ∙ ap₂ ◌&&◌ built_found.named there;
        }
