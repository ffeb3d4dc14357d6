-- Laws of the order of paths, of `below`, `ancestors` and `rest`; and the views by which the proofs go by cases.
use mathlib.Core.Path.{◌≡◌, refl, ap, ap₂, sym, ◌∙◌}
use mathlib.Core.List.{List, [], ◌∷◌, ◌++◌, map, append-nil}
use mathlib.Core.Bool.{Bool, true, false, ◌&&◌, ◌||◌, not}
use mathlib.Core.Logic.{◌⊎◌, inl, inr}
use mathlib.Core.Option.{Option, none, some}
use Prim.Native.Nat.{ℕ, zero, suc, ◌<◌, ◌≤◌, compare, Ordering}
use Prim.Native.Nat.compare
use native.Mathlib.Omega.{arith}
use lib.Dec.{compare_is_eq, eqb, eqb→eq}
use lib.ListN.{length, take}
use Rattle.model.specs.Bytes.{by_order, order, same, before}
use Rattle.model.specs.Path.{Path, below, ancestors, ends_here, rest}

-- `bot (cc)`: what the facts in reach rule out
pub bot : ◌≡◌ {A = ℕ} 0 1 → ⊥
bot z = omega arith

-- a test's answer, as cases that carry the equation
pub data Tested (b : Bool) : Type 0 where
  yea : b ≡ true → Tested b
  nay : b ≡ false → Tested b

pub test : (b : Bool) → Tested b
test true = yea refl
test false = nay refl

-- how two numbers stand, by the answer of the native comparison
pub data NatOrder (m n : ℕ) : Ordering → Type 0 where
  nat_lt : m < n → NatOrder m n Ordering.lt
  nat_eq : m ≡ n → NatOrder m n Ordering.eq
  nat_gt : n < m → NatOrder m n Ordering.gt

up : {m n : ℕ} {o : Ordering} → NatOrder m n o → NatOrder (suc m) (suc n) o
up (nat_lt h) = nat_lt (omega arith)
up (nat_eq e) = nat_eq (ap suc e)
up (nat_gt h) = nat_gt (omega arith)

pub nat_order : (m n : ℕ) → NatOrder m n (compare m n)
nat_order zero zero = rw compare.zero-zero (nat_eq refl)
nat_order zero (suc n) = rw compare.zero-suc (nat_lt (omega arith))
nat_order (suc m) zero = rw compare.suc-zero (nat_gt (omega arith))
nat_order (suc m) (suc n) = rw compare.suc-suc (up (nat_order m n))

-- the order of paths by bytes, as a type
abbrev pub Lt : Path → Path → Type 0
Lt [] [] = ⊥
Lt [] (b ∷ bs) = Unit {0}
Lt (a ∷ as') [] = ⊥
Lt (a ∷ as') (b ∷ bs) = (a < b) ⊎ ((a ≡ b) × Lt as' bs)

pub Lt_irrefl : (a : Path) → Lt a a → ⊥
Lt_irrefl [] h = h
Lt_irrefl (x ∷ xs) (inl h) = omega arith
Lt_irrefl (x ∷ xs) (inr h) = Lt_irrefl xs h.1

pub Lt_trans : (a b c : Path) → Lt a b → Lt b c → Lt a c
Lt_trans [] [] c h k = absurd h
Lt_trans [] (y ∷ ys) [] h k = k
Lt_trans [] (y ∷ ys) (z ∷ zs) h k = tt
Lt_trans (x ∷ xs) [] c h k = absurd h
Lt_trans (x ∷ xs) (y ∷ ys) [] h k = k
Lt_trans (x ∷ xs) (y ∷ ys) (z ∷ zs) (inl h) (inl k) = inl (omega arith)
Lt_trans (x ∷ xs) (y ∷ ys) (z ∷ zs) (inl h) (inr k) = inl (omega arith)
Lt_trans (x ∷ xs) (y ∷ ys) (z ∷ zs) (inr h) (inl k) = inl (omega arith)
Lt_trans (x ∷ xs) (y ∷ ys) (z ∷ zs) (inr h) (inr k) = inr (omega arith, Lt_trans xs ys zs h.1 k.1)

-- two paths with the same beginning stand as what follows it in them
pub Lt_same : (a r s : Path) → Lt r s → Lt (a ++ r) (a ++ s)
Lt_same [] r s h = h
Lt_same (x ∷ a) r s h = inr (refl, Lt_same a r s h)

-- and the other way round
pub Lt_after : (a r s : Path) → Lt (a ++ r) (a ++ s) → Lt r s
Lt_after [] r s h = h
Lt_after (x ∷ a) r s (inl h) = absurd (omega arith)
Lt_after (x ∷ a) r s (inr h) = Lt_after a r s h.1

pub data PathOrder (a b : Path) : Ordering → Type 0 where
  less : Lt a b → PathOrder a b Ordering.lt
  equal : a ≡ b → PathOrder a b Ordering.eq
  more : Lt b a → PathOrder a b Ordering.gt

under : {a b : ℕ} {as' bs : Path} {o : Ordering} → a ≡ b → PathOrder as' bs o → PathOrder (a ∷ as') (b ∷ bs) o
under e (less h) = less (inr (e, h))
under e (equal p) = equal (ap₂ ◌∷◌ e p)
under e (more h) = more (inr (sym e, h))

-- trichotomy
pub path_order : (a b : Path) → PathOrder a b (order a b)
path_order [] [] = equal refl
path_order [] (b ∷ bs) = less tt
path_order (a ∷ as') [] = more tt
path_order (a ∷ as') (b ∷ bs) = go (nat_order a b) (path_order as' bs)
  where
    go : {o : Ordering} → NatOrder a b o → PathOrder as' bs (order as' bs)
        → PathOrder (a ∷ as') (b ∷ bs) (by_order o Ordering.lt (order as' bs) Ordering.gt)
    go (nat_lt h) r = less (inl h)
    go (nat_eq e) r = under e r
    go (nat_gt h) r = more (inl h)

pub data Same (a b : Path) : Bool → Type 0 where
  is : a ≡ b → Same a b true
  isnt : (a ≡ b → ⊥) → Same a b false

pub Lt-≢ : (a b : Path) → Lt a b → a ≡ b → ⊥
Lt-≢ a b h e = Lt_irrefl b (rw e at h)

pub path_same : (a b : Path) → Same a b (same a b)
path_same a b = elim (path_order a b) as (λ o y. Same a b (compare_is_eq o)) [
  | less h ↦ isnt (Lt-≢ a b h)
  | equal e ↦ is e
  | more h ↦ isnt (λ e. Lt-≢ b a h (sym e))
]

pub same_no : (a b : Path) → (a ≡ b → ⊥) → same a b ≡ false
same_no a b n = elim (path_same a b) as (λ t y. t ≡ false) [ is e ↦ absurd (n e) | isnt m ↦ refl ]

pub same_refl : (a : Path) → same a a ≡ true
same_refl a = elim (path_same a a) as (λ t y. t ≡ true) [ is e ↦ refl | isnt m ↦ absurd (m refl) ]

-- the same as cases that carry both the fact and the test's answer: for `elim (.. a b) [ .. ]` with no motive
pub data Split (a b : Path) : Type 0 where
  eq : a ≡ b → same a b ≡ true → Split a b
  ne : (a ≡ b → ⊥) → same a b ≡ false → Split a b

pub split : (a b : Path) → Split a b
split a b = go (path_same a b) refl
  where
    go : {t : Bool} → Same a b t → same a b ≡ t → Split a b
    go (is e) w = eq e w
    go (isnt n) w = ne n w

pub data Cmp (a b : Path) : Type 0 where
  lt : Lt a b → order a b ≡ Ordering.lt → Cmp a b
  eq : a ≡ b → order a b ≡ Ordering.eq → Cmp a b
  gt : Lt b a → order a b ≡ Ordering.gt → Cmp a b

pub cmp : (a b : Path) → Cmp a b
cmp a b = go (path_order a b) refl
  where
    go : {o : Ordering} → PathOrder a b o → order a b ≡ o → Cmp a b
    go (less h) w = lt h w
    go (equal e) w = eq e w
    go (more h) w = gt h w

pub eqb_true : (n : ℕ) → eqb n n ≡ true
eqb_true n = elim (nat_order n n) as (λ o y. compare_is_eq o ≡ true) [ nat_lt h ↦ absurd (omega arith) | nat_eq e ↦ refl | nat_gt h ↦ absurd (omega arith) ]

pub eqb_eq : (m n : ℕ) → eqb m n ≡ true → m ≡ n
eqb_eq m n h = eqb→eq m n (rw h tt)

pub below_irrefl : (a : Path) → below a a ≡ true → ⊥
below_irrefl [] h = bot (cc)
below_irrefl (a ∷ as') h = below_irrefl as' (cc (eqb_true a))

pub and_true : (a b : Bool) → (a && b) ≡ true → (a ≡ true) × (b ≡ true)
and_true true b h = (refl, h)
and_true false b h = (cc, cc)

-- membership as a test
abbrev pub mem : Path → List Path → Bool
mem q [] = false
mem q (k ∷ ks) = same k q || mem q ks

pub same_cons : (a b : ℕ) (p q : Path) → same (a ∷ p) (b ∷ q) ≡ (eqb a b && same p q)
same_cons a b p q = elim (nat_order a b) as (λ o y. compare_is_eq (by_order o Ordering.lt (order p q) Ordering.gt) ≡ (compare_is_eq o && same p q)) [ nat_lt h ↦ refl | nat_eq e ↦ refl | nat_gt h ↦ refl ]

mem_nil_map : (c : ℕ) (qs : List Path) → mem [] (map (λ (q : Path). c ∷ q) qs) ≡ false
mem_nil_map c [] = refl
mem_nil_map c (q ∷ qs) = mem_nil_map c qs

mem_cons_map : (a c : ℕ) (p : Path) (qs : List Path) → mem (a ∷ p) (map (λ (q : Path). c ∷ q) qs) ≡ (eqb c a && mem p qs)
mem_cons_map a c p [] = elim (eqb c a) as (λ b. false ≡ (b && false)) [ true ↦ refl | false ↦ refl ]
mem_cons_map a c p (q ∷ qs) = ap₂ ◌||◌ (same_cons c a q p) (mem_cons_map a c p qs) ∙ either (eqb c a) (same q p) (mem p qs)
  where
    either : (x y z : Bool) → ((x && y) || (x && z)) ≡ (x && (y || z))
    either true y z = refl
    either false y z = refl

pub eqb_comm : (m n : ℕ) → eqb m n ≡ eqb n m
eqb_comm m n = go (eqb m n) refl (eqb n m) refl
  where
    go : (x : Bool) → eqb m n ≡ x → (y : Bool) → eqb n m ≡ y → eqb m n ≡ eqb n m
    go true e true f = cc
    go true e false f = cc (eqb_eq m n e, eqb_true m)
    go false e true f = cc (eqb_eq n m f, eqb_true n)
    go false e false f = cc

pub mem_ancestors : (p q : Path) → mem q (ancestors p) ≡ below q p
mem_ancestors [] [] = refl
mem_ancestors [] (a ∷ q) = refl
mem_ancestors (c ∷ cs) [] = go (eqb c 47) refl
  where
    go : (x : Bool) → eqb c 47 ≡ x → mem [] (ancestors (c ∷ cs)) ≡ eqb c 47
    go true e = cc
    go false e = cc (mem_nil_map c (ancestors cs))
mem_ancestors (c ∷ cs) (a ∷ q) = go (eqb c 47) refl (mem_ancestors cs q)
  where
    go : (x : Bool) → eqb c 47 ≡ x → mem q (ancestors cs) ≡ below q cs → mem (a ∷ q) (ancestors (c ∷ cs)) ≡ (eqb a c && below q cs)
    go true e ih = cc (mem_cons_map a c q (ancestors cs), eqb_comm a c)
    go false e ih = cc (mem_cons_map a c q (ancestors cs), eqb_comm a c)

pub below_trans : (a b c : Path) → below a b ≡ true → below b c ≡ true → below a c ≡ true
below_trans [] [] c h k = cc
below_trans [] (y ∷ b) [] h k = cc
below_trans [] (y ∷ b) (z ∷ c) h k = let e = and_true (eqb y z) (below b c) k in cc (eqb_eq y z e.0)
below_trans (x ∷ a) [] c h k = cc
below_trans (x ∷ a) (y ∷ b) [] h k = cc
below_trans (x ∷ a) (y ∷ b) (z ∷ c) h k =
    let e = and_true (eqb x y) (below a b) h in
    let f = and_true (eqb y z) (below b c) k in
    cc (eqb_eq x y e.0, below_trans a b c e.1 f.1)

pub data Opt {A : Type 0} (o : Option A) : Type 0 where
  has_none : o ≡ none → Opt o
  is_some : (a : A) → o ≡ some a → Opt o

pub opt : {A : Type 0} (o : Option A) → Opt o
opt none = has_none refl
opt (some a) = is_some a refl

pub rest_is : (a k r : Path) → rest a k ≡ some r → (k ≡ a ++ r) × (ends_here r ≡ true)
rest_is [] k r h = elim (test (ends_here k)) [ yea e ↦ (cc, cc) | nay e ↦ (cc, cc) ]
rest_is (x ∷ a) [] r h = (cc, cc)
rest_is (x ∷ a) (c ∷ cs) r h = elim (test (eqb x c)) [
  | yea e ↦ let ih = rest_is a cs r (cc) in (cc (ih.0, eqb_eq x c e), ih.1)
  | nay e ↦ (cc, cc)
]

pub rest_app : (a r : Path) → ends_here r ≡ true → rest a (a ++ r) ≡ some r
rest_app [] r h = cc
rest_app (x ∷ a) r h = cc (rest_app a r h, eqb_true x)

pub rest_self : (a : Path) → rest a a ≡ some []
rest_self [] = refl
rest_self (x ∷ a) = cc (rest_self a, eqb_true x)

-- to be below is to be inside with a rest that is not empty
pub below_rest : (a k : Path) → below a k ≡ true → (r : Path) × (rest a k ≡ some (47 ∷ r))
below_rest [] [] h = ([], cc)
below_rest [] (c ∷ cs) h = (cs, cc (eqb_eq c 47 h))
below_rest (x ∷ a) [] h = ([], cc)
below_rest (x ∷ a) (c ∷ cs) h = let e = and_true (eqb x c) (below a cs) h in go e.0 (below_rest a cs e.1)
  where
    go : eqb x c ≡ true → (r : Path) × (rest a cs ≡ some (47 ∷ r)) → (r : Path) × (rest (x ∷ a) (c ∷ cs) ≡ some (47 ∷ r))
    go e p = (p.0, cc p.1)

-- what is below a stands behind a
pub below_Lt : (a k : Path) → below a k ≡ true → Lt a k
below_Lt [] [] h = absurd (bot (cc))
below_Lt [] (c ∷ k) h = tt
below_Lt (x ∷ a) [] h = absurd (bot (cc))
below_Lt (x ∷ a) (c ∷ k) h = let e = and_true (eqb x c) (below a k) h in inr (eqb_eq x c e.0, below_Lt a k e.1)

-- a front of a path is before a longer one
pub fronts_ascend : (p : Path) (k j : ℕ) → k < j → j ≤ length p → Lt (take k p) (take j p)
fronts_ascend [] k j h l = absurd (omega arith)
fronts_ascend (b ∷ p) k zero h l = absurd (omega arith)
fronts_ascend (b ∷ p) zero (suc j) h l = tt
fronts_ascend (b ∷ p) (suc k) (suc j) h l = inr (refl, fronts_ascend p k j (omega arith) (omega arith))

pub rest_below : (a k : Path) (c : ℕ) (r : Path) → rest a k ≡ some (c ∷ r) → below a k ≡ true
rest_below [] [] c r h = cc
rest_below [] (x ∷ k) c r h = elim (test (eqb x 47)) [ yea e ↦ e | nay e ↦ cc ]
rest_below (x ∷ a) [] c r h = cc
rest_below (x ∷ a) (y ∷ k) c r h = elim (test (eqb x y)) [ yea e ↦ cc (rest_below a k c r (cc)) | nay e ↦ cc ]

pub rest_nil : (a k : Path) → rest a k ≡ some [] → a ≡ k
rest_nil a k h = sym ((rest_is a k [] h).0 ∙ append-nil a)

-- inside a, and further down: inside a
pub inside_down : (a q k r : Path) → rest a q ≡ some r → below q k ≡ true → below a k ≡ true
inside_down a q k [] h b = cc (rest_nil a q h)
inside_down a q k (c ∷ r) h b = below_trans a q k (rest_below a q c r h) b

-- inside two: one is inside the other
pub inside_both : (a b k r s : Path) → rest a k ≡ some r → rest b k ≡ some s → (a ≡ b) ⊎ ((below a b ≡ true) ⊎ (below b a ≡ true))
inside_both [] [] k r s h g = inl refl
inside_both [] (y ∷ b) [] r s h g = inl (cc)
inside_both [] (y ∷ b) (z ∷ k) r s h g = elim (test (eqb z 47)) [ yea e ↦ inr (inl (elim (test (eqb y z)) [ yea f ↦ cc (eqb_eq y z f) | nay f ↦ cc ])) | nay e ↦ inl (cc) ]
inside_both (x ∷ a) [] [] r s h g = inl (cc)
inside_both (x ∷ a) [] (z ∷ k) r s h g = elim (test (eqb z 47)) [ yea e ↦ inr (inr (elim (test (eqb x z)) [ yea f ↦ cc (eqb_eq x z f) | nay f ↦ cc ])) | nay e ↦ inl (cc) ]
inside_both (x ∷ a) (y ∷ b) [] r s h g = inl (cc)
inside_both (x ∷ a) (y ∷ b) (z ∷ k) r s h g = elim (test (eqb x z)) [
  | nay e ↦ inl (cc)
  | yea e ↦ elim (test (eqb y z)) [
    | nay f ↦ inl (cc)
    | yea f ↦ let u : x ≡ y = eqb_eq x z e ∙ sym (eqb_eq y z f) in go u (inside_both a b k r s (cc) (cc))
  ]
]
  where
    go : x ≡ y → (a ≡ b) ⊎ ((below a b ≡ true) ⊎ (below b a ≡ true)) → (x ∷ a ≡ y ∷ b) ⊎ ((below (x ∷ a) (y ∷ b) ≡ true) ⊎ (below (y ∷ b) (x ∷ a) ≡ true))
    go u (inl v) = inl (cc)
    go u (inr (inl v)) = inr (inl (cc (eqb_true x)))
    go u (inr (inr v)) = inr (inr (cc (eqb_true x)))

pub below_app : (a s r : Path) → below (a ++ s) (a ++ r) ≡ below s r
below_app [] s r = refl
below_app (x ∷ a) s r = cc (below_app a s r, eqb_true x)

-- what lies above a path inside b is inside b, and keeps its place where b is exchanged for a; or it lies above b
pub below_split : (b q k r : Path) → rest b k ≡ some r → below q k ≡ true → rest b q ≡ none → below q b ≡ true
below_split b q k r h g e = let f = below_rest q k g in go (inside_both q b k (47 ∷ f.0) r f.1 h)
  where
    go : (q ≡ b) ⊎ ((below q b ≡ true) ⊎ (below b q ≡ true)) → below q b ≡ true
    go (inl u) = cc (rest_self b)
    go (inr (inl u)) = u
    go (inr (inr u)) = cc (below_rest b q u).1

pub below_moved : (a b q k s r : Path) → rest b q ≡ some s → rest b k ≡ some r → below q k ≡ true → below (a ++ s) (a ++ r) ≡ true
below_moved a b q k s r h g e = cc (below_app a s r, below_app b s r, (rest_is b q s h).0, (rest_is b k r g).0)

pub none_before : (k : Path) → before k [] ≡ false
none_before [] = refl
none_before (d ∷ k) = refl

-- "below means from `a/` up to, not including, `a0`": 47 is the slash, 48 the 0
slash_only : (c : ℕ) (k : Path) → eqb c 47 ≡ (not (before (c ∷ k) (47 ∷ [])) && before (c ∷ k) (48 ∷ []))
slash_only c k = go (nat_order c 47) refl (nat_order c 48) refl
  where
    go : {o p : Ordering} → NatOrder c 47 o → compare c 47 ≡ o → NatOrder c 48 p → compare c 48 ≡ p
        → eqb c 47 ≡ (not (before (c ∷ k) (47 ∷ [])) && before (c ∷ k) (48 ∷ []))
    go (nat_lt h) e g f = cc
    go (nat_eq h) e (nat_lt g) f = cc (none_before k)
    go (nat_eq h) e (nat_eq g) f = absurd (omega arith)
    go (nat_eq h) e (nat_gt g) f = absurd (omega arith)
    go (nat_gt h) e (nat_lt g) f = absurd (omega arith)
    go (nat_gt h) e (nat_eq g) f = cc (none_before k)
    go (nat_gt h) e (nat_gt g) f = cc

pub below_range : (a k : Path) → below a k ≡ (not (before k (a ++ (47 ∷ []))) && before k (a ++ (48 ∷ [])))
below_range [] [] = refl
below_range [] (c ∷ k) = slash_only c k
below_range (a ∷ p) [] = refl
below_range (a ∷ p) (c ∷ k) = ap (λ (b : Bool). b && below p k) (eqb_comm a c)
    ∙ between (compare c a) (order k (p ++ (47 ∷ []))) (order k (p ++ (48 ∷ []))) (below p k) (below_range p k)
  where
    -- by how the first bytes compare: only where they are equal does the rest count
    between : (o x y : Ordering) (d : Bool) → d ≡ (not (by_order x true false false) && by_order y true false false)
        → (compare_is_eq o && d) ≡ (not (by_order (by_order o Ordering.lt x Ordering.gt) true false false) && by_order (by_order o Ordering.lt y Ordering.gt) true false false)
    between Ordering.lt x y d h = refl
    between Ordering.eq x y d h = h
    between Ordering.gt x y d h = refl
