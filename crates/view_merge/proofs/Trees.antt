-- What a table shows over a tree, a path at a time: first what is visible at the smallest path of the two, then what the rest of both shows.
use mathlib.Core.Path.{◌≡◌, refl, ap, sym, ◌∙◌}
use mathlib.Core.List.{[], ◌∷◌, ◌++◌}
use mathlib.Core.Option.{Option, none, some}
use Rattle.model.specs.Path.{Path}
use Rattle.model.specs.Map.{Map, lookup}
use Rattle.model.specs.Tree.{Node, Entry, Table, Tree, view, over, shown}
use Rattle.model.specs.Plain.{visible_tree}
use Rattle.model.proofs.Orders.{Lt, Lt_trans, Lt_irrefl, Split, split, has_none, is_some, opt, bot, same_refl}
use Rattle.model.proofs.Maps.{Above, Ascending, lookup_low, map_ext}
use Rattle.model.proofs.Resumed.{visible_is, visible_sorted}
use Rattle.view_merge.specs.Merges.{tree_of}

module _ {A : Type 0} where
  -- what is found behind k is above it; and if all that is found is, then the first is
  found_above : (k : Path) (xs : Map A) → Above k xs → Ascending xs → (q : Path) (v : A) → lookup xs q ≡ some v → Lt k q
  found_above k [] h a q v f = absurd (bot (cc))
  found_above k (x ∷ xs) h a q v f = elim (split x.0 q) [
    | Split.eq e w ↦ rw e at h
    | Split.ne e w ↦ Lt_trans k x.0 q h (found_above x.0 xs a.0 a.1 q v (cc))
  ]

  above_found : (k : Path) (xs : Map A) → ((q : Path) (v : A) → lookup xs q ≡ some v → Lt k q) → Above k xs
  above_found k [] h = tt
  above_found k (x ∷ xs) h = h x.0 x.1 (rw (same_refl x.0))

  -- only at its own path the first is found
  behind : (k : Path) (v : A) (xs : Map A) (q : Path) → (k ≡ q → ⊥) → lookup ((k, v) ∷ xs) q ≡ lookup xs q
  behind k v xs q n = elim (split k q) [ Split.eq e w ↦ absurd (n e) | Split.ne e w ↦ rw w ]

-- k with what is visible there, o, before a tree whose paths are all above k
module _ (k : Path) (xs : Tree) (up : Ascending xs) (high : (q : Path) (v : Node) → lookup xs q ≡ some v → Lt k q) where
  first_ascending : (o : Option Node) → Ascending (tree_of k o ++ xs)
  first_ascending none = up
  first_ascending (some n) = (above_found k xs high, up)

  found_first : (o : Option Node) → lookup (tree_of k o ++ xs) k ≡ o
  found_first (some n) = rw (same_refl k)
  found_first none = elim (opt (lookup xs k)) [ has_none e ↦ e | is_some v e ↦ absurd (Lt_irrefl k (high k v e)) ]

  found_behind : (o : Option Node) (q : Path) → (k ≡ q → ⊥) → lookup (tree_of k o ++ xs) q ≡ lookup xs q
  found_behind none q n = refl
  found_behind (some v) q n = behind k v xs q n

-- t over l shows o at k, which is below all that u over m shows; elsewhere both show the same
module _ (k : Path) (o : Option Node) (t u : Table) (l m : Tree) (al : Ascending l) (am : Ascending m) where
  next_shown : shown t l k ≡ o → ((q : Path) → (k ≡ q → ⊥) → shown t l q ≡ shown u m q)
      → ((q : Path) (v : Node) → shown u m q ≡ some v → Lt k q) → visible_tree t l ≡ tree_of k o ++ visible_tree u m
  next_shown h e g =
      let high : (q : Path) (v : Node) → lookup (visible_tree u m) q ≡ some v → Lt k q = λ q v f. g q v (visible_is u m q ∙ f) in
      let up = visible_sorted u m am in
      map_ext (visible_tree t l) (tree_of k o ++ visible_tree u m) (visible_sorted t l al) (first_ascending k (visible_tree u m) up high o)
      (λ q. elim (split k q) [
        | Split.eq f w ↦
            ap (lookup (visible_tree t l)) (sym f)
            ∙ sym (visible_is t l k)
            ∙ h
            ∙ sym (found_first k (visible_tree u m) up high o)
            ∙ ap (lookup (tree_of k o ++ visible_tree u m)) f
        | Split.ne f w ↦
            sym (visible_is t l q)
            ∙ e q f
            ∙ visible_is u m q
            ∙ sym (found_behind k (visible_tree u m) up high o q f)
      ])

-- what is shown above k
shown_above : (k : Path) (t : Table) (l : Tree) → Above k t → Ascending t → Above k l → Ascending l
    → (q : Path) (v : Node) → shown t l q ≡ some v → Lt k q
shown_above k t l ht at hl al q v f = elim (opt (lookup t q)) [
  | is_some e g ↦ found_above k t ht at q e g
  | has_none g ↦ found_above k l hl al q v (sym (ap (λ (o : Option Entry). over o (lookup l q)) g) ∙ f)
]

module _ (k : Path) (e : Entry) (n : Node) (t : Table) (l : Tree) (ht : Above k t) (at : Ascending t) (hl : Above k l) (al : Ascending l) where
  -- an entry is next
  pub entry_next : visible_tree ((k, e) ∷ t) l ≡ tree_of k (view e) ++ visible_tree t l
  entry_next =
      next_shown k (view e) ((k, e) ∷ t) t l l al al
      (rw (same_refl k))
      (λ q f. ap (λ (o : Option Entry). over o (lookup l q)) (behind k e t q f))
      (shown_above k t l ht at hl al)

  -- a record is
  pub record_next : visible_tree t ((k, n) ∷ l) ≡ tree_of k (some n) ++ visible_tree t l
  record_next =
      next_shown k (some n) t t ((k, n) ∷ l) l (hl, al) al
      (rw (lookup_low k t ht at, same_refl k))
      (λ q f. ap (over (lookup t q)) (behind k n l q f))
      (shown_above k t l ht at hl al)

  -- an entry over the record of the same path is
  pub both_next : visible_tree ((k, e) ∷ t) ((k, n) ∷ l) ≡ tree_of k (view e) ++ visible_tree t l
  both_next =
      next_shown k (view e) ((k, e) ∷ t) t ((k, n) ∷ l) l (hl, al) al
      (rw (same_refl k))
      (λ q f. (λ i. over (behind k e t q f i) (behind k n l q f i)))
      (shown_above k t l ht at hl al)
