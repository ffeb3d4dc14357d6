-- A visible child is an entry that is not deleted, or a listed path without an entry.
use mathlib.Core.Path.{◌≡◌, refl, ap, sym, ◌∙◌}
use mathlib.Core.List.{[], ◌∷◌}
use mathlib.Core.Bool.{Bool, true, false, not, ◌&&◌, ◌||◌}
use mathlib.Core.Option.{Option, none, some}
use Rattle.model.specs.Bytes.{Bytes}
use Rattle.model.specs.Path.{Path, child}
use Rattle.model.specs.Map.{lookup, is_none, keys}
use Rattle.model.specs.Tree.{Entry, own, reference, directory, deleted, Table, Node, dir, file, link, Tree, view, over, shown, kind_of, kind, is_nothing}
use Rattle.model.specs.Table.{table_in, is_table}
use Rattle.model.specs.Checks.{visible_child}
use Rattle.model.specs.declared.Record.{Record}
use Rattle.model.proofs.Orders.{Split, split, has_none, is_some, opt, bot, same_refl, yea, nay, test}
use Rattle.model.proofs.Maps.{Ascending, lookup_low, ascends_is}
use Rattle.table_entries.proofs.Entries.{table_stands}
use Rattle.table_below.specs.Parts.{is_deleted, visible_in}
use Rattle.view_children.specs.Children.{listed_in}

no_child : (d : Path) → child d [] ≡ false
no_child [] = refl
no_child (a ∷ d) = refl

entry_kind : (e : Entry) → is_nothing (kind_of (view e)) ≡ is_deleted e
entry_kind (own m c) = refl
entry_kind (reference m z p) = refl
entry_kind (directory m) = refl
entry_kind deleted = refl

node_kind : (o : Option Node) → is_none o ≡ false → is_nothing (kind_of o) ≡ false
node_kind none h = absurd (bot (cc))
node_kind (some (dir m)) h = refl
node_kind (some (file m z b)) h = refl
node_kind (some link) h = refl

module _ (t : Table) (l : Tree) (d : Path) where
  -- a child is not the root
  child_kind : (k : Path) → (child d k && not (is_nothing (kind (shown t l) k))) ≡ (child d k && not (is_nothing (kind_of (shown t l k))))
  child_kind [] = rw (no_child d)
  child_kind (c ∷ k) = refl

  -- a child with an entry
  with_entry : (k : Path) (e : Entry) → lookup t k ≡ some e → (child d k && not (is_nothing (kind (shown t l) k))) ≡ (child d k && not (is_deleted e))
  with_entry k e h =
      child_kind k ∙ ap (λ (o : Option Entry). child d k && not (is_nothing (kind_of (over o (lookup l k))))) h
      ∙ ap (λ (b : Bool). child d k && not b) (entry_kind e)

  -- without one
  without_entry : (k : Path) → lookup t k ≡ none → is_none (lookup l k) ≡ false → (child d k && not (is_nothing (kind (shown t l) k))) ≡ (child d k && true)
  without_entry k h n =
      child_kind k ∙ ap (λ (o : Option Entry). child d k && not (is_nothing (kind_of (over o (lookup l k))))) h
      ∙ ap (λ (b : Bool). child d k && not b) (node_kind (lookup l k) n)

  -- the table's paths
  entries_visible : (xs : Table) → Ascending xs → ((k : Path) (e : Entry) → lookup xs k ≡ some e → lookup t k ≡ some e)
      → visible_child (shown t l) d (keys xs) ≡ visible_in d xs
  entries_visible [] a h = refl
  entries_visible (x ∷ xs) a h =
      let e = with_entry x.0 x.1 (h x.0 x.1 (rw (same_refl x.0))) in
      let ih = entries_visible xs a.1 (λ k e g. h k e (elim (split x.0 k) [
        | Split.eq u w ↦ absurd (bot (cc (lookup_low x.0 xs a.0 a.1)))
        | Split.ne u w ↦ rw w g
      ])) in
      λ i. e i || ih i

  -- no child with an entry is visible
  module _ (z : visible_in d t ≡ false) where
    hidden_in : (xs : Table) → visible_in d xs ≡ false → (k : Path) (e : Entry) → lookup xs k ≡ some e → (child d k && not (is_deleted e)) ≡ false
    hidden_in [] g k e h = absurd (bot (cc))
    hidden_in (x ∷ xs) g k e h = elim (test (child d x.0 && not (is_deleted x.1))) [
      | yea u ↦ absurd (bot (cc))
      | nay u ↦ elim (split x.0 k) [
        | Split.eq v w ↦ (let f : x.1 ≡ e = cc in rw (v, f) at u)
        | Split.ne v w ↦ hidden_in xs (cc) k e (cc)
      ]
    ]

    listed_one : (k : Path) → is_none (lookup l k) ≡ false → (child d k && not (is_nothing (kind (shown t l) k))) ≡ (child d k && is_none (lookup t k))
    listed_one k n = elim (opt (lookup t k)) [
      | has_none h ↦ without_entry k h n ∙ rw h
      | is_some e h ↦ with_entry k e h ∙ hidden_in t z k e h ∙ rw h (none_and (child d k))
    ]
      where
        none_and : (b : Bool) → false ≡ (b && false)
        none_and true = refl
        none_and false = refl

    listed_visible : (xs : Tree) → ((k : Path) → is_none (lookup xs k) ≡ false → is_none (lookup l k) ≡ false)
        → visible_child (shown t l) d (keys xs) ≡ listed_in t d xs
    listed_visible [] h = refl
    listed_visible (x ∷ xs) h =
        let e = listed_one x.0 (h x.0 (rw (same_refl x.0))) in
        let ih = listed_visible xs (λ k g. h k (elim (split x.0 k) [ Split.eq u w ↦ rw w | Split.ne u w ↦ rw w g ])) in
        λ i. e i || ih i

  both : Ascending t → (visible_child (shown t l) d (keys t) || visible_child (shown t l) d (keys l)) ≡ (visible_in d t || listed_in t d l)
  both a =
      let u = entries_visible t a (λ k e h. h) in
      elim (test (visible_in d t)) [
        | yea z ↦ ap (λ (b : Bool). b || visible_child (shown t l) d (keys l)) (u ∙ z) ∙ sym (ap (λ (b : Bool). b || listed_in t d l) z)
        | nay z ↦ (let v = listed_visible z l (λ k h. h) in λ i. u i || v i)
      ]

-- as the code asks
module _ (s : Bytes) (r : Record) (h : is_table s r ≡ true) (l : Tree) (d : Path) where
  abbrev whole : Bool
  whole = visible_child (shown (table_in s r) l) d (keys (table_in s r)) || visible_child (shown (table_in s r) l) d (keys l)

  parted : whole ≡ (visible_in d (table_in s r) || listed_in (table_in s r) d l)
  parted = both (table_in s r) l d (ascends_is [] (table_in s r) (table_stands s r h).up).1

  pub in_table : (b : Bool) → b ≡ visible_in d (table_in s r) → b ≡ true → true ≡ whole
  in_table b e z = sym (parted ∙ ap (λ (c : Bool). c || listed_in (table_in s r) d l) (sym e ∙ z))

  pub in_listing : (b : Bool) → b ≡ visible_in d (table_in s r) → b ≡ false → (c : Bool) → c ≡ listed_in (table_in s r) d l → c ≡ whole
  in_listing b e z c f = f ∙ sym (parted ∙ ap (λ (c : Bool). c || listed_in (table_in s r) d l) (sym e ∙ z))
