-- Laws of finite maps: what is found at a path after each operation, and that ascending maps with the same findings are equal.
use mathlib.Core.Path.{◌≡◌, refl, ap, ap₂, sym, ◌∙◌}
use mathlib.Core.List.{List, [], ◌∷◌, ◌++◌}
use mathlib.Core.Bool.{Bool, true, false, cond, ◌||◌}
use mathlib.Core.Option.{Option, none, some}
use Rattle.model.specs.Bytes.{every, same, before}
use Rattle.model.specs.Path.{Path, rest}
use Rattle.model.specs.Map.{Map, by_rest, lookup, ascends, put, puts, del, only, each, keys, rekey, outside, mapped}
use Rattle.model.proofs.Orders.{Lt, Lt_irrefl, Lt_trans, Lt-≢, same_no, same_refl, Split, split, Cmp, cmp, mem, rest_is, rest_app, has_none, is_some, opt, bot, yea, nay, test, and_true}

module _ {A : Type 0} where
  -- what a function is after its value at k was set
  abbrev pub upd : (Path → Option A) → Path → Option A → Path → Option A
  upd f k v q = cond (same k q) v (f q)

  pub lookup_put : (k : Path) (v : A) (xs : Map A) (q : Path) → lookup (put k v xs) q ≡ upd (lookup xs) k (some v) q
  lookup_put k v [] q = refl
  lookup_put k v (x ∷ xs) q =
      let ih = lookup_put k v xs q in
      elim (cmp k x.0) [
        | Cmp.lt h w ↦ cc
        | Cmp.eq e w ↦ elim (split k q) [ Split.eq f u ↦ cc | Split.ne n u ↦ cc ]
        | Cmp.gt h w ↦ elim (split x.0 q) [ Split.eq f u ↦ cc (same_no k q (λ g. Lt-≢ x.0 k h (f ∙ sym g))) | Split.ne n u ↦ cc ]
      ]

  pub lookup_del : (k : Path) (xs : Map A) (q : Path) → lookup (del k xs) q ≡ upd (lookup xs) k none q
  lookup_del k [] q = elim (split k q) [ Split.eq e t ↦ cc | Split.ne n t ↦ cc ]
  lookup_del k (x ∷ xs) q =
      let ih = lookup_del k xs q in
      elim (split k x.0) [
        | Split.eq e t ↦ elim (split k q) [ Split.eq f u ↦ cc | Split.ne m u ↦ cc (same_no x.0 q (λ g. m (e ∙ g))) ]
        | Split.ne n t ↦ elim (split x.0 q) [ Split.eq g w ↦ cc (same_no k q (λ f. n (f ∙ sym g))) | Split.ne m w ↦ cc ]
      ]

  -- strictly ascending keys; `Above k xs`: the first key of xs, if any, is above k
  abbrev pub Above : Path → Map A → Type 0
  Above k [] = Unit {0}
  Above k (x ∷ xs) = Lt k x.0

  abbrev pub Ascending : Map A → Type 0
  Ascending [] = Unit {0}
  Ascending (x ∷ xs) = Above x.0 xs × Ascending xs

  pub above_trans : (j k : Path) (xs : Map A) → Lt j k → Above k xs → Above j xs
  above_trans j k [] h a = tt
  above_trans j k (x ∷ xs) h a = Lt_trans j k x.0 h a

  above_put : (j k : Path) (v : A) (xs : Map A) → Lt j k → Above j xs → Above j (put k v xs)
  above_put j k v [] h a = h
  above_put j k v (x ∷ xs) h a = elim (cmp k x.0) [
    | Cmp.lt g w ↦ rw w h
    | Cmp.eq e w ↦ rw w h
    | Cmp.gt g w ↦ rw w a
  ]

  pub ascending_put : (k : Path) (v : A) (xs : Map A) → Ascending xs → Ascending (put k v xs)
  ascending_put k v [] a = (tt, tt)
  ascending_put k v (x ∷ xs) a = let ih = ascending_put k v xs a.1 in elim (cmp k x.0) [
    | Cmp.lt g w ↦ rw w (g, a)
    | Cmp.eq e w ↦ rw (w, e) a
    | Cmp.gt g w ↦ rw w (above_put x.0 k v xs g a.0, ih)
  ]

  above_del : (j k : Path) (xs : Map A) → Above j xs → Ascending xs → Above j (del k xs)
  above_del j k [] h a = tt
  above_del j k (x ∷ xs) h a = let ih = above_del j k xs (above_trans j x.0 xs h a.0) a.1 in elim (split k x.0) [
    | Split.eq e w ↦ rw w ih
    | Split.ne n w ↦ rw w h
  ]

  pub ascending_del : (k : Path) (xs : Map A) → Ascending xs → Ascending (del k xs)
  ascending_del k [] a = tt
  ascending_del k (x ∷ xs) a = let ih = ascending_del k xs a.1 in elim (split k x.0) [
    | Split.eq e w ↦ rw w ih
    | Split.ne n w ↦ rw w (above_del x.0 k xs a.0 a.1, ih)
  ]

  -- no key below the first is there
  pub lookup_low : (k : Path) (xs : Map A) → Above k xs → Ascending xs → lookup xs k ≡ none
  lookup_low k [] h a = refl
  lookup_low k (x ∷ xs) h a = cc (same_no x.0 k (λ e. Lt-≢ k x.0 h (sym e)), lookup_low k xs (above_trans k x.0 xs h a.0) a.1)

  pub map_ext : (xs ys : Map A) → Ascending xs → Ascending ys → ((k : Path) → lookup xs k ≡ lookup ys k) → xs ≡ ys
  map_ext [] [] a b h = refl
  map_ext [] (y ∷ ys) a b h = cc (h y.0, same_refl y.0)
  map_ext (x ∷ xs) [] a b h = cc (h x.0, same_refl x.0)
  map_ext (x ∷ xs) (y ∷ ys) a b h = elim (cmp x.0 y.0) [
    | Cmp.lt g w ↦ cc (h x.0, same_refl x.0, lookup_low x.0 (y ∷ ys) g b)
    | Cmp.eq e w ↦ let v : x.1 ≡ y.1 = cc (h x.0, same_refl x.0) in ap₂ ◌∷◌ (λ i. (e i, v i)) (map_ext xs ys a.1 b.1 (λ k. elim (split x.0 k) [
      | Split.eq f u ↦ cc (lookup_low x.0 xs a.0 a.1, lookup_low y.0 ys b.0 b.1)
      | Split.ne n u ↦ cc (h k)
    ]))
    | Cmp.gt g w ↦ cc (h y.0, same_refl y.0, lookup_low y.0 (x ∷ xs) g a)
  ]

  -- many at once: the first of a key counts
  abbrev pub or_else : Option A → Option A → Option A
  or_else none b = b
  or_else (some a) b = some a

  pub lookup_puts : (xs m : Map A) (q : Path) → lookup (puts xs m) q ≡ or_else (lookup xs q) (lookup m q)
  lookup_puts [] m q = refl
  lookup_puts (x ∷ xs) m q = let ih = lookup_puts xs m q in let h = lookup_put x.0 x.1 (puts xs m) q in elim (split x.0 q) [ Split.eq e w ↦ cc | Split.ne n w ↦ cc ]

  pub ascending_puts : (xs m : Map A) → Ascending m → Ascending (puts xs m)
  ascending_puts [] m a = a
  ascending_puts (x ∷ xs) m a = ascending_put x.0 x.1 (puts xs m) (ascending_puts xs m a)

  pub above_puts : (j : Path) (xs m : Map A) → Above j xs → Ascending xs → Above j m → Above j (puts xs m)
  above_puts j [] m h a g = g
  above_puts j (x ∷ xs) m h a g =
      above_put j x.0 x.1 (puts xs m) h (above_puts j xs m (above_trans j x.0 xs h a.0) a.1 g)

  pub lookup_each : (v : A) (ks : List Path) (q : Path) → lookup (each v ks) q ≡ cond (mem q ks) (some v) none
  lookup_each v [] q = refl
  lookup_each v (k ∷ ks) q = ap (cond (same k q) (some v)) (lookup_each v ks q) ∙ either (same k q) (mem q ks) (some v)
    where
      either : (b c : Bool) (o : Option A) → cond b o (cond c o none) ≡ cond (b || c) o none
      either true c o = refl
      either false c o = refl

  pub lookup_outside : (a : Path) (xs : Map A) (q : Path) → lookup (outside a xs) q ≡ by_rest (rest a q) (λ s. none) (lookup xs q)
  lookup_outside a [] q = elim (opt (rest a q)) [ has_none e ↦ cc | is_some s e ↦ cc ]
  lookup_outside a (x ∷ xs) q =
      let ih = lookup_outside a xs q in
      elim (split x.0 q) [
        | Split.eq e w ↦ elim (opt (rest a q)) [ has_none f ↦ cc | is_some s f ↦ cc ]
        | Split.ne e w ↦ elim (opt (rest a x.0)) [ has_none f ↦ elim (opt (rest a q)) [ has_none u ↦ cc | is_some s u ↦ cc ] | is_some s f ↦ cc ]
      ]

  above_outside : (a k : Path) (xs : Map A) → Above k xs → Ascending xs → Above k (outside a xs)
  above_outside a k [] h c = tt
  above_outside a k (x ∷ xs) h c = let ih = above_outside a k xs (above_trans k x.0 xs h c.0) c.1 in elim (opt (rest a x.0)) [ has_none e ↦ rw e h | is_some r e ↦ rw e ih ]

  pub ascending_outside : (a : Path) (xs : Map A) → Ascending xs → Ascending (outside a xs)
  ascending_outside a [] c = tt
  ascending_outside a (x ∷ xs) c = let ih = ascending_outside a xs c.1 in elim (opt (rest a x.0)) [ has_none e ↦ rw e (above_outside a x.0 xs c.0 c.1, ih) | is_some r e ↦ rw e ih ]

  pub lookup_rekey : (a b : Path) (xs : Map A) (q : Path) → lookup (rekey a b xs) q ≡ by_rest (rest b q) (λ s. lookup xs (a ++ s)) none
  lookup_rekey a b [] q = elim (opt (rest b q)) [ has_none e ↦ cc | is_some s e ↦ cc ]
  lookup_rekey a b (x ∷ xs) q =
      let ih = lookup_rekey a b xs q in
      elim (opt (rest a x.0)) [
        | has_none f ↦ elim (opt (rest b q)) [
          | has_none e ↦ cc
          | is_some s e ↦ cc (same_no x.0 (a ++ s) (λ z. bot (cc (rest_app a s (rest_is b q s e).1))))
        ]
        | is_some r f ↦ let t = rest_is a x.0 r f in let u = rest_app b r t.1 in elim (split (b ++ r) q) [
          | Split.eq z w ↦ cc (t.0, same_refl x.0)
          | Split.ne z w ↦ elim (opt (rest b q)) [
            | has_none e ↦ cc
            | is_some s e ↦ let v = rest_is b q s e in cc (same_no x.0 (a ++ s) (λ y. z (cc (rest_app a s v.1, v.0))))
          ]
        ]
      ]

abbrev pub map_o : {A B : Type 0} → (A → B) → Option A → Option B
map_o f none = none
map_o f (some a) = some (f a)

module _ {A B : Type 0} where
  outward : (f : A → B) (b : Bool) (a : A) (o : Option A) → cond b (some (f a)) (map_o f o) ≡ map_o f (cond b (some a) o)
  outward f true a o = refl
  outward f false a o = refl

  pub lookup_keys : (v : B) (xs : Map A) (q : Path) → lookup (each v (keys xs)) q ≡ map_o (λ x. v) (lookup xs q)
  lookup_keys v [] q = refl
  lookup_keys v (x ∷ xs) q = ap (cond (same x.0 q) (some v)) (lookup_keys v xs q) ∙ outward (λ y. v) (same x.0 q) x.1 (lookup xs q)

  pub lookup_mapped : (f : A → B) (xs : Map A) (q : Path) → lookup (mapped f xs) q ≡ map_o f (lookup xs q)
  lookup_mapped f [] q = refl
  lookup_mapped f (x ∷ xs) q = ap (cond (same x.0 q) (some (f x.1))) (lookup_mapped f xs q) ∙ outward f (same x.0 q) x.1 (lookup xs q)

  pub above_mapped : (f : A → B) (k : Path) (xs : Map A) → Above k xs → Above k (mapped f xs)
  above_mapped f k [] h = tt
  above_mapped f k (x ∷ xs) h = h

  pub ascending_mapped : (f : A → B) (xs : Map A) → Ascending xs → Ascending (mapped f xs)
  ascending_mapped f [] a = tt
  ascending_mapped f (x ∷ xs) a = (above_mapped f x.0 xs a.0, ascending_mapped f xs a.1)

module _ {A : Type 0} where
  pub lookup_only : (P : Path → Bool) (xs : Map A) (q : Path) → lookup (only P xs) q ≡ cond (P q) (lookup xs q) none
  lookup_only P [] q = elim (test (P q)) [ yea e ↦ cc | nay e ↦ cc ]
  lookup_only P (x ∷ xs) q = let ih = lookup_only P xs q in elim (split x.0 q) [
    | Split.eq e w ↦ elim (test (P q)) [ yea f ↦ cc | nay f ↦ cc ]
    | Split.ne e w ↦ elim (test (P x.0)) [ yea f ↦ cc | nay f ↦ cc ]
  ]

  pub above_only : (P : Path → Bool) (k : Path) (xs : Map A) → Above k xs → Ascending xs → Above k (only P xs)
  above_only P k [] h a = tt
  above_only P k (x ∷ xs) h a = let ih = above_only P k xs (above_trans k x.0 xs h a.0) a.1 in elim (test (P x.0)) [ yea e ↦ rw e h | nay e ↦ rw e ih ]

  pub ascending_only : (P : Path → Bool) (xs : Map A) → Ascending xs → Ascending (only P xs)
  ascending_only P [] a = tt
  ascending_only P (x ∷ xs) a = let ih = ascending_only P xs a.1 in elim (test (P x.0)) [ yea e ↦ rw e (above_only P x.0 xs a.0 a.1, ih) | nay e ↦ rw e ih ]

  pub every_only : (P : Path → Bool) (xs : Map A) → every P (keys (only P xs)) ≡ true
  every_only P [] = refl
  every_only P (x ∷ xs) = let ih = every_only P xs in elim (test (P x.0)) [ yea e ↦ rw (e, e) ih | nay e ↦ rw e ih ]

  -- the test and the type
  above_ascends : (p : Path) (xs : Map A) → ascends p xs ≡ true → Above p xs
  above_ascends p [] h = tt
  above_ascends p (x ∷ xs) h = elim (cmp p x.0) [ Cmp.lt g w ↦ g | Cmp.eq g w ↦ absurd (bot (cc)) | Cmp.gt g w ↦ absurd (bot (cc)) ]

  pub ascends_is : (p : Path) (xs : Map A) → ascends p xs ≡ true → Above p xs × Ascending xs
  ascends_is p [] h = (tt, tt)
  ascends_is p (x ∷ xs) h = let e = and_true (before p x.0) (ascends x.0 xs) h in
      (above_ascends p (x ∷ xs) h, ascends_is x.0 xs e.1)

  pub is_ascends : (p : Path) (xs : Map A) → Above p xs → Ascending xs → ascends p xs ≡ true
  is_ascends p [] h a = refl
  is_ascends p (x ∷ xs) h a = let ih = is_ascends x.0 xs a.0 a.1 in elim (cmp p x.0) [
    | Cmp.lt g w ↦ cc
    | Cmp.eq g w ↦ absurd (Lt-≢ p x.0 h g)
    | Cmp.gt g w ↦ absurd (Lt_irrefl p (Lt_trans p x.0 p h g))
  ]
