-- Two lists with ascending keys as one: all keys of the first are at a or below it, all of the second at b or below it, and no path is both.
use mathlib.Core.Path.{◌≡◌, refl, ap, sym, ◌∙◌}
use mathlib.Core.Logic.{inl, inr}
use mathlib.Core.List.{[], ◌∷◌, ◌++◌}
use mathlib.Core.Bool.{Bool, true, cond, not}
use mathlib.Core.Option.{some}
use Prim.Native.Nat.{ℕ}
use native.Mathlib.Omega.{arith}
use Rattle.model.specs.Bytes.{every, before}
use Rattle.model.specs.Path.{Path, rest}
use Rattle.model.specs.Map.{Map, is_none, ascends}
use Rattle.model.proofs.Orders.{Lt, Lt-≢, Cmp, cmp, bot, and_true, has_none, is_some, opt}
use Rattle.model.proofs.Orders.{rest_is, rest_app, rest_self, rest_nil, rest_below, below_rest}
use Rattle.model.proofs.Maps.{Above, Ascending, is_ascends}
use Rattle.rename_laws.proofs.Moves.{inside, Parted}

-- two lists ascend together, if every key that passes a test is before the second, and all keys of the first pass it
ascending_append : {A : Type 0} (P : Path → Bool) (xs ys : Map A) → Ascending xs → Ascending ys → every (λ x. P x.0) xs ≡ true
    → ((k : Path) → P k ≡ true → Above k ys) → Ascending (xs ++ ys)
ascending_append P [] ys h g e f = g
ascending_append P (x ∷ []) ys h g e f = (f x.0 (and_true (P x.0) true e).0, g)
ascending_append P (x ∷ y ∷ xs) ys h g e f =
    (h.0, ascending_append P (y ∷ xs) ys h.1 g (and_true (P x.0) (every (λ z. P z.0) (y ∷ xs)) e).1 f)

-- a path between another and what is below that: so is all that goes on behind it
between : (a b s r : Path) → Lt a b → Lt b (a ++ (47 ∷ [])) → Lt (b ++ s) (a ++ (47 ∷ r))
between [] (y ∷ b) s r h (inl g) = inl g
between [] (y ∷ []) s r h (inr g) = absurd g.1
between [] (y ∷ z ∷ b) s r h (inr g) = absurd g.1
between (x ∷ a) (y ∷ b) s r (inl h) (inl g) = absurd (omega arith)
between (x ∷ a) (y ∷ b) s r (inl h) (inr g) = absurd (let e = g.0 in omega arith)
between (x ∷ a) (y ∷ b) s r (inr h) (inl g) = absurd (let e = h.0 in omega arith)
between (x ∷ a) (y ∷ b) s r (inr h) (inr g) = inr (g.0, between a b s r h.1 g.1)
between [] [] s r h _ = elim h [ ]
between (x ∷ a) [] s r h _ = elim h [ ]

-- a path behind another with a slash, and not below it: all that is below that is before it
beyond : (a b r : Path) → Lt (a ++ (47 ∷ [])) b → ((v : Path) → b ≡ a ++ (47 ∷ v) → ⊥) → Lt (a ++ (47 ∷ r)) b
beyond [] (y ∷ b) r (inl h) n = inl h
beyond [] (y ∷ b) r (inr h) n = absurd (n b (λ i. sym h.0 i ∷ b))
beyond (x ∷ a) (y ∷ b) r (inl h) n = inl h
beyond (x ∷ a) (y ∷ b) r (inr h) n = inr (h.0, beyond a b r h.1 (λ v e. n v (λ i. sym h.0 i ∷ e i)))
beyond [] [] r x4 n = elim x4 [ ]
beyond (x ∷ a) [] r x6 n = elim x6 [ ]

-- at a or below it: a, and what follows it
goes_on : (a k : Path) → not (is_none (rest a k)) ≡ true → (r : Path) × (rest a k ≡ some r)
goes_on a k h = elim (opt (rest a k)) [ has_none n ↦ absurd (bot (cc)) | is_some r n ↦ (r, n) ]

-- if anything follows it, that begins with a slash
slashed : (a k : Path) (c : ℕ) (r : Path) → rest a k ≡ some (c ∷ r) → (s : Path) × (k ≡ a ++ (47 ∷ s))
slashed a k c r n = let b = below_rest a k (rest_below a k c r n) in (b.0, (rest_is a k (47 ∷ b.0) b.1).0)

-- as it does of a path behind a
further : (a k r : Path) → rest a k ≡ some r → Lt a k → (s : Path) × (k ≡ a ++ (47 ∷ s))
further a k [] n l = absurd (Lt-≢ a k l (rest_nil a k n))
further a k (c ∷ r) n l = slashed a k c r n

parted_sym : (a b : Path) → Parted a b → Parted b a
parted_sym a b p q r n = elim (opt (rest a q)) [ has_none m ↦ m | is_some s m ↦ absurd (bot (cc (p q s m))) ]

not_below : (a b : Path) → Parted a b → (v : Path) → b ≡ a ++ (47 ∷ v) → ⊥
not_below a b p v e =
    let r : rest a b ≡ some (47 ∷ v) = ap (rest a) e ∙ rest_app a (47 ∷ v) refl in
    bot (cc (p b (47 ∷ v) r, rest_self b))

module _ {A : Type 0} where
  -- what is at b or below it is before what is below a, if b is so
  above_lower : (a b k : Path) (xs : Map A) → Above a xs → inside a xs ≡ true → Lt a b → Lt b (a ++ (47 ∷ [])) → not (is_none (rest b k)) ≡ true
      → Above k xs
  above_lower a b k [] h i l g o = tt
  above_lower a b k (x ∷ xs) h i l g o =
      let m = goes_on a x.0 (and_true (not (is_none (rest a x.0))) (inside a xs) i).0 in
      let f = further a x.0 m.0 m.1 h in
      let s = goes_on b k o in
      rw (f.1, (rest_is b k s.0 s.1).0) (between a b s.0 f.0 l g)

  module _ (a b : Path) (u v : A) (xs ys : Map A) (ha : Ascending ((a, u) ∷ xs)) (ia : inside a ((a, u) ∷ xs) ≡ true)
      (hb : Ascending ((b, v) ∷ ys)) (ib : inside b ((b, v) ∷ ys) ≡ true) where
    -- the second between a and what is below it
    within : Lt a b → Lt b (a ++ (47 ∷ [])) → Ascending ((a, u) ∷ (((b, v) ∷ ys) ++ xs))
    within l g =
        let i = (and_true (not (is_none (rest a a))) (inside a xs) ia).1 in (
          l,
          ascending_append (λ k. not (is_none (rest b k))) ((b, v) ∷ ys) xs hb ha.1 ib (λ k o. above_lower a b k xs ha.0 i l g o),
        )

    -- the second behind all of the first
    behind : Parted a b → Lt a b → Lt (a ++ (47 ∷ [])) b → Ascending (((a, u) ∷ xs) ++ ((b, v) ∷ ys))
    behind p l g =
        ascending_append (λ k. not (is_none (rest a k))) ((a, u) ∷ xs) ((b, v) ∷ ys) ha hb ia
        (λ k o. let s = goes_on a k o in lies k s.0 s.1)
      where
        lies : (k r : Path) → rest a k ≡ some r → Lt k b
        lies k [] n = rw (sym (rest_nil a k n)) l
        lies k (c ∷ r) n = let d = slashed a k c r n in rw d.1 (beyond a b d.0 g (not_below a b p))

  module _ (a b : Path) (u v : A) (xs ys : Map A) where
    -- both in one order: of a and b the one that is first comes with all below it, unless the other lies before what is below it
    abbrev pub arranged : Map A
    arranged =
        cond (before a b)
        (cond (before b (a ++ (47 ∷ []))) ((a, u) ∷ (((b, v) ∷ ys) ++ xs)) (((a, u) ∷ xs) ++ ((b, v) ∷ ys)))
        (cond (before a (b ++ (47 ∷ []))) ((b, v) ∷ (((a, u) ∷ xs) ++ ys)) (((b, v) ∷ ys) ++ ((a, u) ∷ xs)))

    -- and so their keys ascend
    pub arranged_ascends : Lt [] a → Lt [] b → Parted a b → Ascending ((a, u) ∷ xs) → inside a ((a, u) ∷ xs) ≡ true → Ascending ((b, v) ∷ ys)
        → inside b ((b, v) ∷ ys) ≡ true → ascends [] arranged ≡ true
    arranged_ascends ra rb p ha ia hb ib =
        let q = parted_sym a b p in
        elim (cmp a b) [
          | Cmp.lt l w ↦ elim (cmp b (a ++ (47 ∷ []))) [
            | Cmp.lt g z ↦ rw (w, z) (is_ascends [] ((a, u) ∷ (((b, v) ∷ ys) ++ xs)) ra (within a b u v xs ys ha ia hb ib l g))
            | Cmp.eq e z ↦ absurd (not_below a b p [] e)
            | Cmp.gt g z ↦ rw (w, z) (is_ascends [] (((a, u) ∷ xs) ++ ((b, v) ∷ ys)) ra (behind a b u v xs ys ha ia hb ib p l g))
          ]
          | Cmp.eq e w ↦ absurd (bot (cc (p a [] (rest_self a), rest_self b)))
          | Cmp.gt l w ↦ elim (cmp a (b ++ (47 ∷ []))) [
            | Cmp.lt g z ↦ rw (w, z) (is_ascends [] ((b, v) ∷ (((a, u) ∷ xs) ++ ys)) rb (within b a v u ys xs hb ib ha ia l g))
            | Cmp.eq e z ↦ absurd (not_below b a q [] e)
            | Cmp.gt g z ↦ rw (w, z) (is_ascends [] (((b, v) ∷ ys) ++ ((a, u) ∷ xs)) rb (behind b a v u ys xs hb ib ha ia q l g))
          ]
        ]
