-- What rename moves: its keys and their order, and when nothing that moves meets what is deleted.
-- Assumes nothing but what each law names: lists whose keys ascend, and keys at or below the source.
use mathlib.Core.Path.{◌≡◌, refl, ap, sym, ◌∙◌}
use mathlib.Core.List.{List, [], ◌∷◌, ◌++◌}
use mathlib.Core.Bool.{Bool, true, false, not, ◌||◌}
use mathlib.Core.Option.{Option, none, some}
use Prim.Native.Nat.{◌+◌}
use native.Mathlib.Omega.{arith}
use lib.ListN.{length, drop, length-append}
use Rattle.model.specs.Bytes.{every}
use Rattle.model.specs.Path.{Path, ancestors, below, rest}
use Rattle.model.specs.Map.{Map, is_none, lookup, puts, only, each, keys, rekey, mapped}
use Rattle.model.specs.Tree.{Node, Entry, deleted, Table, Tree, shown, a_directory, a_file, kind, is_directory}
use Rattle.model.specs.Rename.{new_key, as_entry, uncovered, along, carried}
use Rattle.model.proofs.Orders.{Lt, Lt_same, Lt_after, Split, split, yea, nay, test, has_none, is_some, opt}
use Rattle.model.proofs.Orders.{bot, and_true, same_refl, mem, mem_ancestors, below_irrefl, below_trans, below_rest, rest_is, rest_self}
use Rattle.model.proofs.Maps.{Above, Ascending, above_trans, or_else, map_o, map_ext, ascending_mapped}
use Rattle.model.proofs.Maps.{lookup_puts, lookup_rekey, lookup_keys, lookup_mapped, lookup_only, ascending_puts, ascending_only}
use Rattle.base_fields.proofs.Common.{Lt-append}
use Rattle.rename_laws.proofs.Records.{Apart}

-- the new key of a path at or below a: b, and what follows a in the path
pub new_key_lem : (a b q r : Path) → rest a q ≡ some r → new_key a b q ≡ b ++ r
new_key_lem a b q r h = ap (λ (k : Path). b ++ drop (length a) k) (rest_is a q r h).0 ∙ ap (λ (k : Path). b ++ k) (dropped a r)
  where
    dropped : (a r : Path) → drop (length a) (a ++ r) ≡ r
    dropped [] r = refl
    dropped (x ∷ a) r = dropped a r

-- it is as much longer than the old one as b is longer than a
pub new_length : (a b q r : Path) → rest a q ≡ some r → length (new_key a b q) + length a ≡ length q + length b
new_length a b q r h =
    let n = ap length (new_key_lem a b q r h) ∙ length-append b r in
    let o = ap length (rest_is a q r h).0 ∙ length-append a r in
    omega arith

-- the order of two paths at or below a is that of their new keys
pub new_order : (a b p q r s : Path) → rest a p ≡ some r → rest a q ≡ some s → Lt p q → Lt (b ++ r) (b ++ s)
new_order a b p q r s h g l = Lt_same b r s (Lt_after a r s (rw ((rest_is a p r h).0, (rest_is a q s g).0) at l))

module _ {A : Type 0} where
  -- every key is at a or below it
  abbrev pub inside : Path → Map A → Bool
  inside a c = every (λ x. not (is_none (rest a x.0))) c

  -- each entry with its new key, in the same order
  abbrev pub renewed : Path → Path → Map A → Map A
  renewed a b [] = []
  renewed a b (x ∷ xs) = (new_key a b x.0, x.1) ∷ renewed a b xs

  -- keys at or below a are exchanged one by one
  pub rekeyed : (a b : Path) (c : Map A) → inside a c ≡ true → rekey a b c ≡ renewed a b c
  rekeyed a b [] h = refl
  rekeyed a b (x ∷ xs) h =
      let e = and_true (not (is_none (rest a x.0))) (inside a xs) h in
      let i = rekeyed a b xs e.1 in
      elim (opt (rest a x.0)) [
        | has_none n ↦ absurd (bot (cc e.0))
        | is_some r n ↦ cc (new_key_lem a b x.0 r n)
      ]

  -- what is before all of c is so with b in the place of a
  above_rekey : (a b k r : Path) (c : Map A) → rest a k ≡ some r → Above k c → Ascending c → Above (b ++ r) (rekey a b c)
  above_rekey a b k r [] e h g = tt
  above_rekey a b k r (x ∷ xs) e h g =
      let i = above_rekey a b k r xs e (above_trans k x.0 xs h g.0) g.1 in
      elim (opt (rest a x.0)) [ has_none n ↦ rw n i | is_some s n ↦ rw n (new_order a b k x.0 r s e n h) ]

  -- keys that ascend still do so with b in the place of a
  pub ascending_rekey : (a b : Path) (c : Map A) → Ascending c → Ascending (rekey a b c)
  ascending_rekey a b [] h = tt
  ascending_rekey a b (x ∷ xs) h =
      let i = ascending_rekey a b xs h.1 in
      elim (opt (rest a x.0)) [ has_none n ↦ rw n i | is_some r n ↦ rw n (above_rekey a b x.0 r xs n h.0 h.1, i) ]

  -- nothing stands where a path is not at a or below it
  pub inside_none : (a : Path) (c : Map A) → inside a c ≡ true → (q : Path) → rest a q ≡ none → lookup c q ≡ none
  inside_none a [] h q n = refl
  inside_none a (x ∷ xs) h q n =
      let e = and_true (not (is_none (rest a x.0))) (inside a xs) h in
      elim (split x.0 q) [ Split.eq f w ↦ absurd (bot (cc e.0)) | Split.ne f w ↦ cc (inside_none a xs e.1 q n) ]

  -- a part all of whose keys pass a test that only such paths pass
  pub inside_only : (a : Path) (P : Path → Bool) (c : Map A) → ((q : Path) → P q ≡ true → rest a q ≡ none → ⊥) → inside a (only P c) ≡ true
  inside_only a P [] h = refl
  inside_only a P (x ∷ xs) h =
      let i = inside_only a P xs h in
      elim (test (P x.0)) [
        | yea e ↦ elim (opt (rest a x.0)) [ has_none n ↦ absurd (h x.0 e n) | is_some r n ↦ cc ]
        | nay e ↦ cc
      ]

module _ {A B : Type 0} where
  -- the first key stays, with one value at each
  above_each : (v : B) (k : Path) (c : Map A) → Above k c → Above k (each v (keys c))
  above_each v k [] h = tt
  above_each v k (x ∷ xs) h = h

  -- so keys that ascend still do
  pub ascending_each : (v : B) (c : Map A) → Ascending c → Ascending (each v (keys c))
  ascending_each v [] h = tt
  ascending_each v (x ∷ xs) h = (above_each v x.0 xs h.0, ascending_each v xs h.1)

module _ (t : Table) (l : Tree) (a : Path) where
  -- what may move: the table's entries over those of the listing that no entry covers
  abbrev pub loose : Table
  loose = puts t (mapped as_entry (only (uncovered t a) l))

  -- the entry that stands at a, or what is listed there as one
  abbrev pub top_entry : Option Entry
  top_entry = or_else (lookup t a) (map_o as_entry (lookup l a))

  -- no entry covers what has only such paths above it as are not below a
  none_between : (ps : List Path) → ((p : Path) → mem p ps ≡ true → below a p ≡ false) → every (λ p. not (below a p) || is_none (lookup t p)) ps ≡ true
  none_between [] h = refl
  none_between (p ∷ ps) h =
      let i = none_between ps (λ q m. h q (elim (split p q) [ Split.eq e w ↦ cc | Split.ne e w ↦ cc ])) in
      cc (h p (cc (same_refl p)))

  -- a itself is such: what is listed there is uncovered, if it has no entry
  uncovered_self : lookup t a ≡ none → uncovered t a a ≡ true
  uncovered_self n =
      let up : (p : Path) → mem p (ancestors a) ≡ true → below a p ≡ false =
      λ p m. elim (test (below a p)) [ nay e ↦ e | yea e ↦ absurd (below_irrefl a (below_trans a p a e (sym (mem_ancestors a p) ∙ m))) ] in
      cc (none_between (ancestors a) up)

  -- that entry is what stands at a in all that may move
  pub loose_top : lookup loose a ≡ top_entry
  loose_top =
      let u = lookup_puts t (mapped as_entry (only (uncovered t a) l)) a in
      let v = lookup_mapped as_entry (only (uncovered t a) l) a in
      let w = lookup_only (uncovered t a) l a in
      elim (opt (lookup t a)) [ is_some e n ↦ cc | has_none n ↦ cc (uncovered_self n) ]

  -- all that may move ascends, as the listing does
  pub ascending_loose : Ascending l → Ascending loose
  ascending_loose h =
      let c : Tree = only (uncovered t a) l in
      ascending_puts t (mapped as_entry c) (ascending_mapped as_entry c (ascending_only (uncovered t a) l h))

  -- so does what is carried
  pub ascending_carried : Ascending l → Ascending (carried t l a)
  ascending_carried h = ascending_only (along (kind (shown t l) a) a) loose (ascending_loose h)

  -- and every key of it is at a or below it
  pub inside_carried : inside a (carried t l a) ≡ true
  inside_carried = inside_only a (along (kind (shown t l) a) a) loose (λ q z n. elim (split a q) [
    | Split.eq e w ↦ bot (cc (rest_self a))
    | Split.ne e w ↦ elim (test (below a q)) [
      | yea b ↦ bot (cc (below_rest a q b).1)
      | nay b ↦ elim (test (is_directory (kind (shown t l) a))) [ yea d ↦ bot (cc) | nay d ↦ bot (cc) ]
    ]
  ])

  -- what is below a stands behind a
  above_below : (c : Table) → Ascending c → Above a (only (below a) c)
  above_below [] h = tt
  above_below (x ∷ xs) h =
      elim (test (below a x.0)) [
        | nay e ↦ rw e (above_below xs h.1)
        | yea e ↦ let b = below_rest a x.0 e in rw e (rw (rest_is a x.0 (47 ∷ b.0) b.1).0 (Lt-append a 47 b.0))
      ]

  -- of a directory: itself first, then all that is below it
  pub carried_directory : (e : Entry) → kind (shown t l) a ≡ a_directory → Ascending l → top_entry ≡ some e
      → carried t l a ≡ (a, e) ∷ only (below a) (puts t (mapped as_entry (only (uncovered t a) l)))
  carried_directory e k h o =
      map_ext (carried t l a) ((a, e) ∷ only (below a) loose) (ascending_carried h)
      (above_below loose (ascending_loose h), ascending_only (below a) loose (ascending_loose h))
      (λ q.
      let u = lookup_only (along (kind (shown t l) a) a) loose q in
      let v = lookup_only (below a) loose q in
      let w = loose_top in
      elim (split a q) [ Split.eq f z ↦ cc | Split.ne f z ↦ cc ])

  -- of a file: itself alone
  pub carried_file : (e : Entry) → kind (shown t l) a ≡ a_file → Ascending l → top_entry ≡ some e → carried t l a ≡ (a, e) ∷ []
  carried_file e k h o =
      map_ext (carried t l a) ((a, e) ∷ []) (ascending_carried h) (tt, tt)
      (λ q.
      let u = lookup_only (along (kind (shown t l) a) a) loose q in
      let w = loose_top in
      elim (split a q) [ Split.eq f z ↦ cc | Split.ne f z ↦ cc ])

  -- the entry at a is the table's
  pub top_entry_lem : (e : Entry) → lookup t a ≡ some e → top_entry ≡ some e
  top_entry_lem e h = cc

  -- or, without one, what is listed
  pub top_listed : (n : Node) → lookup t a ≡ none → lookup l a ≡ some n → top_entry ≡ some (as_entry n)
  top_listed n h g = cc

  -- where something is shown at a, there is such an entry: the table's own, or else what is listed there
  pub found_top : (n : Node) → shown t l a ≡ some n → (e : Entry) × (top_entry ≡ some e)
  found_top n s = elim (opt (lookup t a)) [
    | is_some e f ↦ (e, cc)
    | has_none f ↦ (as_entry n, cc)
  ]

-- nothing is both at or below a and at or below b
abbrev pub Parted : Path → Path → Type 0
Parted a b = (q r : Path) → rest a q ≡ some r → rest b q ≡ none

-- then the entries deleted and the entries moved have no key in common
pub apart_moved : (a b : Path) (c : Table) → Parted a b → inside a c ≡ true → Apart (each deleted (keys c)) (rekey a b c)
apart_moved a b c p h q e f =
    let w = lookup_keys deleted c q in
    let x = lookup_rekey a b c q in
    elim (opt (rest a q)) [
      | has_none n ↦ absurd (bot (cc (inside_none a c h q n)))
      | is_some r n ↦ cc (p q r n)
    ]
