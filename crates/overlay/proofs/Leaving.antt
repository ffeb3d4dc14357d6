-- From a call's outcome to what its export answers and leaves; four numbers as a record, and back.
use mathlib.Core.Path.{◌≡◌, refl, ap, ap₂, sym, ◌∙◌, subst}
use mathlib.Core.Bool.{Bool, true, false, cond}
use mathlib.Core.List.{List, [], ◌∷◌}
use Prim.Native.Nat.{ℕ}
use native.Mathlib.Omega.{arith}
use lib.ListN.{length, replicate}
use borrow.Author.Tests.{eq-eqb, ne_eqb}
use Rattle.model.specs.Bytes.{Bytes}
use Rattle.model.specs.Path.{Path}
use Rattle.model.specs.Table.{sized}
use Rattle.model.specs.Calls.{Query}
use Rattle.model.specs.Answer.{Reply, accepted, refused, told}
use Rattle.model.specs.Outcome.{Store, Request, Outcome, outcome, ask, opened}
use Rattle.model.specs.declared.Record.{Record}
use Rattle.model.specs.declared.Answered.{Answered}
use Rattle.model.proofs.Shapes.{untouched}
use Rattle.call_answer.specs.Meets.{stored, Meets}
use Rattle.overlay_packed.specs.Packed.{packed, Fits, if_accepted, numbers, record_in}
use Rattle.overlay.specs.Exported.{is_four, left, leaves, called, asked, opening}
use Rattle.overlay.proofs.Fitting.{outcome_fits, ask_fits, opened_fits}

-- four numbers
pub four_back : (s : List ℕ) → length s ≡ 4 → numbers (record_in s) ≡ s
four_back [] h = absurd (omega arith)
four_back (x ∷ []) h = absurd (omega arith)
four_back (x ∷ y ∷ []) h = absurd (omega arith)
four_back (x ∷ y ∷ z ∷ []) h = absurd (omega arith)
four_back (x ∷ y ∷ z ∷ u ∷ []) h = refl
four_back (x ∷ y ∷ z ∷ u ∷ v ∷ s) h = absurd (omega arith)

pub is_four_lem : (s : List ℕ) → length s ≡ 4 → is_four s ≡ true
is_four_lem s h = eq-eqb (length s) 4 h

pub not_four : (s : List ℕ) → (length s ≡ 4 → ⊥) → is_four s ≡ false
not_four s h = ne_eqb (length s) 4 h

-- one of two, by whether there are four
pub chosen : {A : Type 0} (s : List ℕ) (x y : A) → length s ≡ 4 → x ≡ cond (is_four s) x y
chosen {A} s x y h = sym (ap (λ (b : Bool). cond b x y) (is_four_lem s h))

pub otherwise : {A : Type 0} (s : List ℕ) (x y : A) → (length s ≡ 4 → ⊥) → y ≡ cond (is_four s) x y
otherwise {A} s x y h = sym (ap (λ (b : Bool). cond b x y) (not_four s h))

-- a changing call on the table t with the record n
module _ (l : Bytes) (q : Request) (t : Bytes) (n : List ℕ) where
  abbrev o : Outcome
  o = outcome l q (stored t (record_in n))

  -- where the call is refused, the outcome's record is the one that was given
  record_kept : length n ≡ 4 → (r : Reply) → o.reply ≡ r → if_accepted r (numbers o.store.rec) n ≡ numbers o.store.rec
  record_kept h (accepted v) e = refl
  record_kept h (refused i j k) e =
      sym (ap (λ (s : Store). numbers s.rec) (untouched l q (stored t (record_in n)) i j k e).0 ∙ four_back n h)

  -- the call answered a, and left b and w
  module _ (h : length n ≡ 4) (r : Record) (e : r ≡ record_in n) (a : Answered) (b w : Bytes) (m : Meets (outcome l q (stored t r)) a b w) where
    meets : Meets o a b w
    meets = subst (λ (x : Record). Meets (outcome l q (stored t x)) a b w) e m

    pub call_fits : Fits (told a.answer)
    call_fits = subst Fits (sym meets.answer) (outcome_fits l q (stored t (record_in n)))

    pub call_settled : (x : ℕ) (y : List ℕ) → x ≡ packed (told a.answer) → y ≡ if_accepted (told a.answer) (numbers a.«record») n → left x y b w ≡ called l q t n
    unfolding called
    call_settled x y f g =
        let i : x ≡ packed o.reply = f ∙ ap packed meets.answer in
        let j : y ≡ numbers o.store.rec = g ∙ ap₂ (λ (c : Reply) (d : Record). if_accepted c (numbers d) n) meets.answer meets.rec ∙ record_kept h o.reply refl in
        let k = meets.bytes in
        let u = meets.buffer in
        (λ z. left (i z) (j z) (k z) (u z)) ∙ chosen n (leaves o) (left 1 n t q.work) h

-- a query
module _ (f : Query) (l : Bytes) (p : Path) (t : Bytes) (n : List ℕ) where
  pub not_asked : (length n ≡ 4 → ⊥) → 1 ≡ packed (asked f l p t n)
  not_asked h = ap packed (otherwise n (ask f l p (stored t (record_in n))) (refused 1 0 0) h)

  module _ (h : length n ≡ 4) (r : Record) (e : r ≡ record_in n) (a : Reply) (m : a ≡ ask f l p (stored t r)) where
    pub query_fits : Fits a
    query_fits = subst Fits (sym m) (ask_fits f l p (stored t r))

    pub query_packed : (x : ℕ) → x ≡ packed a → x ≡ packed (asked f l p t n)
    query_packed x g =
        g ∙ ap packed (m ∙ ap (λ (y : Record). ask f l p (stored t y)) e ∙ chosen n (ask f l p (stored t (record_in n))) (refused 1 0 0) h)

-- opening
module _ (E : ℕ) (t : Bytes) (n : List ℕ) where
  pub not_opened : (length n ≡ 4 → ⊥) → (1 ≡ packed (opening E t n))
      × ((n ≡ if_accepted (opening E t n) (numbers (opened E t).store.rec) n) × (t ≡ if_accepted (opening E t n) (opened E t).store.table t))
  not_opened h =
      let e = otherwise n (opened E t).reply (refused 1 0 0) h in
      (ap packed e, (ap (λ (r : Reply). if_accepted r (numbers (opened E t).store.rec) n) e, ap (λ (r : Reply). if_accepted r (opened E t).store.table t) e))

  open_kept : {A : Type 0} (b : Bool) (x y : A) → cond b x y ≡ if_accepted (cond b (accepted 0) (refused 1 0 0)) (cond b x y) y
  open_kept true x y = refl
  open_kept false x y = refl

  module _ (h : length n ≡ 4) (a : Answered) (e : told a.answer ≡ (opened E t).reply) (g : a.«record» ≡ (opened E t).store.rec) where
    pub open_fits : Fits (told a.answer)
    open_fits = subst Fits (sym e) (opened_fits E t)

    pub open_settled : (x : ℕ) (y : List ℕ) (b : Bytes) → x ≡ packed (told a.answer) → y ≡ if_accepted (told a.answer) (numbers a.«record») n → b ≡ (opened E t).store.table
        → (x ≡ packed (opening E t n))
        × ((y ≡ if_accepted (opening E t n) (numbers (opened E t).store.rec) n) × (b ≡ if_accepted (opening E t n) (opened E t).store.table t))
    open_settled x y b i j k =
        let c : told a.answer ≡ opening E t n = e ∙ chosen n (opened E t).reply (refused 1 0 0) h in
        let d : (opened E t).reply ≡ opening E t n = chosen n (opened E t).reply (refused 1 0 0) h in (
          i ∙ ap packed c,
          (
            j ∙ ap₂ (λ (r : Reply) (u : Record). if_accepted r (numbers u) n) c g,
            k ∙ open_kept (sized E (length t)) (replicate (length t) 0) t ∙ ap (λ (r : Reply). if_accepted r (opened E t).store.table t) d,
          ),
        )
