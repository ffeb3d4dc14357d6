-- The form of paths under joining with a slash: UTF-8 and the components of `a/r`; so the ancestors of a path are paths, and so is
-- a path below a with b standing where a stood, if it is short enough.
use mathlib.Core.Path.{◌≡◌, refl, ap, sym, subst, ◌∙◌}
use mathlib.Core.List.{List, [], ◌∷◌, ◌++◌, append-nil}
use mathlib.Core.Bool.{Bool, true, not, ◌&&◌}
use Prim.Native.Nat.{ℕ, ◌+◌}
use native.Mathlib.Omega.{arith}
use lib.Dec.{leb, eqb}
use lib.ListN.{length, length-append}
use borrow.Author.Tests.{leb-true, le-leb}
use Rattle.model.specs.Bytes.{Bytes, every}
use Rattle.model.specs.Utf8.{Range, within, Row, rows, after_in, characters, utf8}
use Rattle.model.specs.Path.{Path, component, on_first, components, short, is_root, is_path, below, ends_here}
use Rattle.model.proofs.Orders.{bot, yea, nay, test, and_true, eqb_eq, below_rest, rest_is}

-- a text that ends where a character ends may be followed by any other
pub characters_app : (rs : List Range) (s x : Bytes) → characters rs s ≡ true → characters rs (s ++ x) ≡ characters [] x
characters_app [] [] x h = refl
characters_app [] (b ∷ s) x h = characters_app (after_in rows b) s x h
characters_app (r ∷ rs) [] x h = cc
characters_app (r ∷ rs) (b ∷ s) x h = let e = and_true (within r b) (characters rs s) h in cc (e.0, characters_app rs s x e.1)

-- the other way at a slash: it lies in no range of the bytes after a character's first, so that a character ends before it
abbrev no_slash : List Range → Bool
no_slash rs = every (λ r. not (within r 47)) rs

no_slash_after : (rs : List Row) (b : ℕ) → every (λ r. no_slash r.after) rs ≡ true → no_slash (after_in rs b) ≡ true
no_slash_after [] b h = refl
no_slash_after (r ∷ rs) b h =
    let e = and_true (no_slash r.after) (every (λ q. no_slash q.after) rs) h in
    let ih = no_slash_after rs b e.1 in
    elim (test (within r.first b)) [ yea w ↦ cc e.0 | nay w ↦ cc ]

characters_slash : (rs : List Range) (q r : Bytes) → no_slash rs ≡ true → characters rs (q ++ (47 ∷ r)) ≡ true → (characters rs q ≡ true) × (utf8 r ≡ true)
characters_slash [] [] r o h = (refl, h)
characters_slash [] (b ∷ q) r o h = characters_slash (after_in rows b) q r (no_slash_after rows b refl) h
characters_slash (x ∷ rs) [] r o h =
    let e = and_true (within x 47) (characters rs r) h in
    let f = and_true (not (within x 47)) (no_slash rs) o in
    absurd (bot (cc (e.0, f.0)))
characters_slash (x ∷ rs) (b ∷ q) r o h =
    let e = and_true (within x b) (characters rs (q ++ (47 ∷ r))) h in
    let f = and_true (not (within x 47)) (no_slash rs) o in
    let ih = characters_slash rs q r f.1 e.1 in
    (cc (e.0, ih.0), ih.1)

pub utf8_slash : (q r : Bytes) → utf8 (q ++ (47 ∷ r)) ≡ true → (utf8 q ≡ true) × (utf8 r ≡ true)
utf8_slash q r h = characters_slash [] q r refl h

pub utf8_join : (q r : Bytes) → utf8 q ≡ true → utf8 r ≡ true → utf8 (q ++ (47 ∷ r)) ≡ true
utf8_join q r h g = characters_app [] q (47 ∷ r) h ∙ g

-- there is always a first component
first : (a : Path) → (c : Bytes) × (cs : List Bytes) × (components a ≡ c ∷ cs)
first [] = ([], [], refl)
first (b ∷ a) = let e = first a in elim (test (eqb b 47)) [ yea w ↦ ([], components a, cc) | nay w ↦ (b ∷ e.0, e.1, cc e.2) ]

-- a byte put to the first component leaves their number
pub on_first_length : (b : ℕ) (cs : List Bytes) → length (on_first b cs) ≡ length cs
on_first_length b [] = refl
on_first_length b (c ∷ cs) = refl

on_first_app : (b : ℕ) (c : Bytes) (xs cs ds : List Bytes) → xs ≡ c ∷ cs → on_first b (xs ++ ds) ≡ on_first b xs ++ ds
on_first_app b c xs cs ds h = cc

pub components_join : (a r : Path) → components (a ++ (47 ∷ r)) ≡ components a ++ components r
components_join [] r = refl
components_join (b ∷ a) r =
    let ih = components_join a r in
    let e = first a in
    let u = on_first_app b e.0 (components a) e.1 (components r) e.2 in
    elim (test (eqb b 47)) [ yea w ↦ cc | nay w ↦ cc ]

every_app : {A : Type 0} (f : A → Bool) (xs ys : List A) → every f (xs ++ ys) ≡ (every f xs && every f ys)
every_app f [] ys = refl
every_app f (x ∷ xs) ys = let ih = every_app f xs ys in elim (test (f x)) [ yea e ↦ cc | nay e ↦ cc ]

-- the rules of a path that is not the root, apart
record Form (p : Path) : Type 0 where
  fits : short p ≡ true
  text : utf8 p ≡ true
  parts : every component (components p) ≡ true

path_form : (p : Path) → (p ≡ [] → ⊥) → is_path p ≡ true → Form p
path_form [] n h = absurd (n refl)
path_form (c ∷ p) n h =
    let e = and_true (short (c ∷ p) && utf8 (c ∷ p)) (every component (components (c ∷ p))) h in
    let f = and_true (short (c ∷ p)) (utf8 (c ∷ p)) e.0 in
    record { fits = f.0; text = f.1; parts = e.1 }

form_path : (p : Path) → Form p → is_path p ≡ true
form_path p f = elim (test (is_root p)) [ yea e ↦ cc (f.fits, f.text) | nay e ↦ cc (f.fits, f.text, f.parts) ]

joined : (q r : Path) → q ++ (47 ∷ r) ≡ [] → ⊥
joined [] r e = bot (cc)
joined (c ∷ q) r e = bot (cc)

-- what stands before a slash is as short as the whole
short_slash : (q r : Path) → short (q ++ (47 ∷ r)) ≡ true → short q ≡ true
short_slash q r h =
    let p = q ++ (47 ∷ r) in
    let e = and_true (leb (length p) 512) (leb (length (components p)) 32) h in
    let u = leb-true (length p) 512 e.0 in
    let v = leb-true (length (components p)) 32 e.1 in
    let x = length-append q (47 ∷ r) in
    let y : length (components p) ≡ length (components q) + length (components r) =
    ap length (components_join q r) ∙ length-append (components q) (components r) in
    cc (le-leb (length q) 512 (omega arith), le-leb (length (components q)) 32 (omega arith))

-- the components on both sides of a slash
parts_slash : (q r : Path) → Form (q ++ (47 ∷ r)) → (every component (components q) ≡ true) × (every component (components r) ≡ true)
parts_slash q r f =
    and_true (every component (components q)) (every component (components r))
    (sym (every_app component (components q) (components r)) ∙ ap (every component) (sym (components_join q r)) ∙ f.parts)

-- a path, by an ancestor of it
under : (p q : Path) → is_path p ≡ true → below q p ≡ true → (r : Path) × Form (q ++ (47 ∷ r))
under p q h b =
    let e = below_rest q p b in
    let r = e.0 in
    let u = (rest_is q p (47 ∷ r) e.1).0 in
    (r, path_form (q ++ (47 ∷ r)) (joined q r) (subst (λ (z : Path). is_path z ≡ true) u h))

-- the proper ancestors of a path are paths, and none is the root: the first component would be empty
pub path_ancestor : (p q : Path) → is_path p ≡ true → below q p ≡ true → is_path q ≡ true
path_ancestor p q h b =
    let e = under p q h b in
    let r = e.0 in
    let f = e.1 in
    form_path q (record { fits = short_slash q r f.fits; text = (utf8_slash q r f.text).0; parts = (parts_slash q r f).0 })

pub proper_ancestor : (p q : Path) → is_path p ≡ true → below q p ≡ true → q ≡ [] → ⊥
proper_ancestor p q h b z = let e = under p q h b in bot (cc (parts_slash q e.0 e.1).0)

-- a path at or below a, with b standing where a stood
pub path_moved : (a b s : Path) → is_path (a ++ s) ≡ true → ends_here s ≡ true → is_path a ≡ true → is_path b ≡ true
    → (b ≡ [] → ⊥) → (a ≡ [] → ⊥) → short (b ++ s) ≡ true → is_path (b ++ s) ≡ true
path_moved a b [] h e u v nb na w = ap is_path (append-nil b) ∙ v
path_moved a b (c ∷ r) h e u v nb na w =
    let z : c ∷ r ≡ 47 ∷ r = ap (λ (x : ℕ). x ∷ r) (eqb_eq c 47 e) in
    let f = path_form (a ++ (47 ∷ r)) (joined a r) (subst (λ (x : Path). is_path (a ++ x) ≡ true) z h) in
    let g = path_form b nb v in
    let x : every component (components (b ++ (47 ∷ r))) ≡ true =
    cc (components_join b r, every_app component (components b) (components r), g.parts, (parts_slash a r f).1) in
    subst (λ (x : Path). is_path (b ++ x) ≡ true) (sym z)
    (form_path (b ++ (47 ∷ r)) (record {
      fits = subst (λ (x : Path). short (b ++ x) ≡ true) z w;
      text = utf8_join b r g.text (utf8_slash a r f.text).1;
      parts = x;
    }))
