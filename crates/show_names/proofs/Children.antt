-- The names of a path's children, on lists alone: which they are, that they ascend, and that their bytes tell them.
-- Assumes that table and tree ascend from the empty path on, and that what they show stands at paths in form.
use mathlib.Core.Path.{◌≡◌, refl, ap, ap₂, sym, ◌∙◌, subst}
use mathlib.Core.Bool.{Bool, true, not, ◌&&◌}
use mathlib.Core.List.{List, [], ◌∷◌, ◌++◌}
use mathlib.Core.Logic.{inl, inr}
use mathlib.Core.Option.{Option, none, some}
use Prim.Native.Nat.{ℕ}
use native.Mathlib.Omega.{arith}
use lib.Dec.{ltb, eqb}
use lib.ListN.{length, take, drop, length-drop}
use lib.Seq.{take-append_seam, drop-append_seam, drop-append-add, take_at, drop_at}
use borrow.Author.Tests.{lt-ltb, ltb-true}
use Rattle.model.specs.Bytes.{Bytes, every, number, before}
use Rattle.model.specs.Path.{Path, is_path, child, slashless}
use Rattle.model.specs.Map.{lookup, ascends}
use Rattle.model.specs.Tree.{Node, dir, file, link, Table, Tree, shown, kind_of}
use Rattle.model.specs.Calls.{exists, says}
use Rattle.model.specs.Plain.{visible_tree}
use Rattle.model.proofs.Orders.{bot, yea, nay, test, eqb_true, eqb_eq, and_true, same_refl, Split, split, Lt, Lt_after}
use Rattle.model.proofs.Orders.{has_none, is_some, opt}
use Rattle.model.proofs.Maps.{Above, Ascending, above_trans, lookup_low, ascends_is}
use Rattle.model.proofs.Codec.{number_bytes, path_short}
use Rattle.model.proofs.Texts.{path_moved}
use Rattle.model.proofs.Resumed.{visible_is, visible_sorted}
use Rattle.base_fields.proofs.Common.{Lt_before}
use Rattle.show_names.specs.Names.{child_of, name_start, is_link, names, name_bytes}
use Rattle.show_names.specs.Shows.{is_name, child_path, among, rising, shows_at}

-- a child's path put together and taken apart
child_joined : (p n : Path) → child p (p ++ (47 ∷ n)) ≡ slashless n
child_joined [] n = refl
child_joined (a ∷ p) n = cc (eqb_true a, child_joined p n)

pub child_path_lem : (p n : Path) → child_of p (child_path p n) ≡ slashless n
child_path_lem [] n = refl
child_path_lem (c ∷ p) n = child_joined (c ∷ p) n

pub child_name : (p n : Path) → drop (name_start p) (child_path p n) ≡ n
child_name [] n = refl
child_name (c ∷ p) n = drop-append-add (c ∷ p) (47 ∷ n) 1

child_parts : (p k : Path) → child p k ≡ true → (n : Path) × (k ≡ p ++ (47 ∷ n))
child_parts [] [] h = absurd (bot (cc))
child_parts [] (c ∷ k) h = (k, ap (λ (b : ℕ). b ∷ k) (eqb_eq c 47 (and_true (eqb c 47) (slashless k) h).0))
child_parts (a ∷ p) [] h = absurd (bot (cc))
child_parts (a ∷ p) (c ∷ k) h =
    let e = and_true (eqb a c) (child p k) h in
    let i = child_parts p k e.1 in
    (i.0, ap₂ ◌∷◌ (sym (eqb_eq a c e.0)) i.1)

-- so a child is the child of its name
pub child_is : (p k : Path) → child_of p k ≡ true → k ≡ child_path p (drop (name_start p) k)
child_is [] k h = refl
child_is (c ∷ p) k h =
    let i = child_parts (c ∷ p) k h in
    i.1 ∙ ap (child_path (c ∷ p)) (sym (child_name (c ∷ p) i.0) ∙ ap (drop (name_start (c ∷ p))) (sym i.1))

-- what is found at a path is shown unless it is a link
abbrev pub shows : Option Node → Bool
shows o = says exists (kind_of o)

pub shows_node : (v : Node) → not (is_link (kind_of (some v))) ≡ shows (some v)
shows_node (dir m) = refl
shows_node (file m z b) = refl
shows_node link = refl

-- a name is among those of the children exactly if it has no slash and the child that it names is there
module _ (p n : Path) where
  among_names : (s : Tree) → Ascending s → among n (names p s) ≡ (slashless n && shows (lookup s (child_path p n)))
  among_names [] a = elim (test (slashless n)) [ yea e ↦ cc | nay e ↦ cc ]
  among_names (x ∷ xs) a =
      let ih = among_names xs a.1 in
      let q = child_path p n in
      let v = shows_node x.1 in
      elim (split x.0 q) [
        | Split.eq e w ↦
            let low : lookup xs q ≡ none = cc (lookup_low x.0 xs a.0 a.1) in
            let c : child_of p x.0 ≡ slashless n = ap (child_of p) e ∙ child_path_lem p n in
            let d : drop (name_start p) x.0 ≡ n = ap (drop (name_start p)) e ∙ child_name p n in
            elim (test (slashless n)) [
              | yea f ↦ elim (test (shows (some x.1))) [ yea g ↦ cc (same_refl n) | nay g ↦ cc ]
              | nay f ↦ cc
            ]
        | Split.ne e w ↦ elim (test (child_of p x.0)) [
          | nay f ↦ cc
          | yea f ↦ elim (split n (drop (name_start p) x.0)) [
            | Split.eq g u ↦ absurd (e (child_is p x.0 f ∙ ap (child_path p) (sym g)))
            | Split.ne g u ↦ elim (test (shows (some x.1))) [ yea z ↦ cc | nay z ↦ cc ]
          ]
        ]
      ]

-- children of one path stand in the order of their names
child_order : (p m n : Path) → Lt (child_path p m) (child_path p n) → Lt m n
child_order [] m n h = h
child_order (c ∷ p) m n h = elim (Lt_after (c ∷ p) (47 ∷ m) (47 ∷ n) h) [
  | inl g ↦ absurd (omega arith)
  | inr g ↦ g.1
]

module _ (p : Path) where
  -- behind the child m, the names ascend from m on
  rising_behind : (m : Path) (s : Tree) → Above (child_path p m) s → Ascending s → rising m (names p s) ≡ true
  rising_behind m [] h a = refl
  rising_behind m (x ∷ xs) h a =
      let later = rising_behind m xs (above_trans (child_path p m) x.0 xs h a.0) a.1 in
      elim (test (child_of p x.0)) [
        | nay e ↦ cc
        | yea e ↦
            let n : Path = drop (name_start p) x.0 in
            let k : x.0 ≡ child_path p n = child_is p x.0 e in
            let o = Lt_before m n (child_order p m n (subst (Lt (child_path p m)) k h)) in
            let ih = rising_behind n xs (subst (λ (q : Path). Above q xs) k a.0) a.1 in
            elim (test (is_link (kind_of (some x.1)))) [ yea z ↦ cc | nay z ↦ cc ]
      ]

  first_name : (n : Path) → (n ≡ [] → ⊥) → before [] n ≡ true
  first_name [] h = absurd (h refl)
  first_name (c ∷ n) h = refl

  -- where no child has the empty name, all ascend from it on
  rising_names : (s : Tree) → Ascending s → lookup s (child_path p []) ≡ none → rising [] (names p s) ≡ true
  rising_names [] a h = refl
  rising_names (x ∷ xs) a h = elim (split x.0 (child_path p [])) [
    | Split.eq e w ↦ absurd (bot (cc))
    | Split.ne e w ↦
        let later = rising_names xs a.1 (cc) in
        elim (test (child_of p x.0)) [
          | nay f ↦ cc
          | yea f ↦
              let n : Path = drop (name_start p) x.0 in
              let k : x.0 ≡ child_path p n = child_is p x.0 f in
              let o = first_name n (λ z. e (k ∙ ap (child_path p) z)) in
              let ih = rising_behind n xs (subst (λ (q : Path). Above q xs) k a.0) a.1 in
              elim (test (is_link (kind_of (some x.1)))) [ yea z ↦ cc | nay z ↦ cc ]
        ]
  ]

-- no path in form ends in a slash: `a/`, which is none, would be one
pub no_slash_last : (p : Path) → is_path p ≡ true → (p ≡ [] → ⊥) → is_path (p ++ (47 ∷ [])) ≡ true → ⊥
no_slash_last p h r e = bot (cc (path_moved p (97 ∷ []) (47 ∷ []) e refl h refl (λ z. bot (cc)) r refl))

module _ (t : Table) (l : Tree) (at : ascends [] t ≡ true) (al : ascends [] l ≡ true)
    (formed : (k : Path) (v : Node) → lookup (visible_tree t l) k ≡ some v → is_path k ≡ true) where
  nameless : (p : Path) → is_path p ≡ true → lookup (visible_tree t l) (child_path p []) ≡ none
  nameless [] h =
      let x = ascends_is [] t at in
      let y = ascends_is [] l al in
      cc (visible_is t l [], lookup_low [] t x.0 x.1, lookup_low [] l y.0 y.1)
  nameless (c ∷ p) h = elim (opt (lookup (visible_tree t l) (child_path (c ∷ p) []))) [
    | has_none e ↦ e
    | is_some v e ↦ absurd (no_slash_last (c ∷ p) h (λ z. bot (cc)) (formed (child_path (c ∷ p) []) v e))
  ]

  sorted : Ascending (visible_tree t l)
  sorted = visible_sorted t l (ascends_is [] l al).1

  pub names_rising : (p : Path) → is_path p ≡ true → rising [] (names p (visible_tree t l)) ≡ true
  names_rising p h = rising_names p (visible_tree t l) sorted (nameless p h)

  shows_child : (p : Path) (b : ℕ) (n : Bytes)
      → shows (lookup (visible_tree t l) (child_path p (b ∷ n))) ≡ shows_at (shown t l) (child_path p (b ∷ n))
  shows_child [] b n = ap shows (sym (visible_is t l (b ∷ n)))
  shows_child (c ∷ p) b n = ap shows (sym (visible_is t l (child_path (c ∷ p) (b ∷ n))))

  pub names_exactly : (p : Path) → is_path p ≡ true → (n : Bytes)
      → among n (names p (visible_tree t l)) ≡ (is_name n && shows_at (shown t l) (child_path p n))
  names_exactly p h [] = cc (among_names p [] (visible_tree t l) sorted, nameless p h)
  names_exactly p h (b ∷ n) =
      let u = lt-ltb 0 (length (b ∷ n)) (omega arith) in
      cc (among_names p (b ∷ n) (visible_tree t l) sorted, shows_child p b n)

-- a name's length fits its 16 bits
abbrev pub names_fit : List Bytes → Bool
names_fit ns = every (λ n. ltb (length n) 65536) ns

-- a name is a part of its path, and a path in form has at most 512 bytes
pub names_fit_lem : (p : Path) (s : Tree) → Ascending s → ((k : Path) (v : Node) → lookup s k ≡ some v → is_path k ≡ true)
    → names_fit (names p s) ≡ true
names_fit_lem p [] a f = refl
names_fit_lem p (x ∷ xs) a f =
    let n : Bytes = drop (name_start p) x.0 in
    let ih = names_fit_lem p xs a.1 later in
    let l = path_short x.0 (f x.0 x.1 (cc (same_refl x.0))) in
    let d = length-drop (name_start p) x.0 in
    let u = lt-ltb (length n) 65536 (omega arith) in
    elim (test (child_of p x.0 && not (is_link (kind_of (some x.1))))) [ yea e ↦ cc | nay e ↦ cc ]
  where
    later : (k : Path) (v : Node) → lookup xs k ≡ some v → is_path k ≡ true
    later k v e = elim (split x.0 k) [
      | Split.eq g w ↦ absurd (bot (cc (lookup_low x.0 xs a.0 a.1)))
      | Split.ne g w ↦ f k v (cc)
    ]

name_length : (n : Bytes) (ns : List Bytes) → ltb (length n) 65536 ≡ true
    → number (take 2 (name_bytes (n ∷ ns))) ≡ length n
name_length n ns h = let u = ltb-true (length n) 65536 h in number_bytes 2 (length n) (omega arith)

-- "each with a 16-bit length before it": so the bytes tell the names
pub bytes_tell : (ns ms : List Bytes) → names_fit ns ≡ true → names_fit ms ≡ true → name_bytes ns ≡ name_bytes ms → ns ≡ ms
bytes_tell [] [] f g h = refl
bytes_tell [] (m ∷ ms) f g h = absurd (bot (cc))
bytes_tell (n ∷ ns) [] f g h = absurd (bot (cc))
bytes_tell (n ∷ ns) (m ∷ ms) f g h =
    let x = and_true (ltb (length n) 65536) (names_fit ns) f in
    let y = and_true (ltb (length m) 65536) (names_fit ms) g in
    let len : length m ≡ length n =
    sym (name_length m ms y.0) ∙ ap (λ (s : Bytes). number (take 2 s)) (sym h) ∙ name_length n ns x.0 in
    let behind : n ++ name_bytes ns ≡ m ++ name_bytes ms = ap (drop 2) h in
    let name : n ≡ m =
    sym (take-append_seam n (name_bytes ns)) ∙ ap (take (length n)) behind ∙ take_at m (name_bytes ms) (length n) len in
    let more : name_bytes ns ≡ name_bytes ms =
    sym (drop-append_seam n (name_bytes ns)) ∙ ap (drop (length n)) behind ∙ drop_at m (name_bytes ms) (length n) len in
    ap₂ ◌∷◌ name (bytes_tell ns ms x.1 y.1 more)
