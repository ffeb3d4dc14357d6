-- The rules of one entry are those of the entry that is read: its numbers are those that stand there, and it is in form; both ways.
use mathlib.Core.Path.{◌≡◌, refl, ◌∙◌}
use mathlib.Core.Logic.{◌⊎◌, inl, inr}
use mathlib.Core.Bool.{Bool, true, cond, ◌&&◌, ◌||◌}
use mathlib.Core.List.{[], ◌∷◌}
use Prim.Native.Nat.{ℕ, ◌<◌}
use native.Mathlib.Omega.{arith}
use lib.Dec.{ltb, eqb}
use lib.ListN.{length}
use borrow.Author.Tests.{lt-ltb, ltb-true}
use Rattle.model.specs.Bytes.{Bytes}
use Rattle.model.specs.Path.{is_path}
use Rattle.model.specs.Tree.{Entry, own, reference, directory, deleted}
use Rattle.model.specs.Table.{type_of, mtime_of, size_of, body_of, entry_of, formed_body}
use Rattle.model.proofs.Orders.{yea, nay, test, eqb_eq, and_true}
use Rattle.model.proofs.Small.{or_cases}
use Rattle.table_open.specs.Pass.{type_rule}

-- what the rule of the types says of the four numbers
pub data Types (k b m z : ℕ) : Type 0 where
  one : k ≡ 1 → z ≡ 0 → Types k b m z
  two : k ≡ 2 → z < 0x8000_0000_0000_0000 → Types k b m z
  three : k ≡ 3 → b ≡ 0 → z ≡ 0 → Types k b m z
  four : k ≡ 4 → b ≡ 0 → z ≡ 0 → m ≡ 0 → Types k b m z

module _ (k b m z : ℕ) where
  abbrev rule_1 : Bool
  rule_1 = eqb k 1 && eqb z 0

  abbrev rule_2 : Bool
  rule_2 = eqb k 2 && ltb z 0x8000_0000_0000_0000

  abbrev rule_3 : Bool
  rule_3 = eqb k 3 && (eqb b 0 && eqb z 0)

  abbrev rule_4 : Bool
  rule_4 = eqb k 4 && (eqb b 0 && (eqb z 0 && eqb m 0))

  first : rule_1 ≡ true → Types k b m z
  first g = let a = and_true (eqb k 1) (eqb z 0) g in one (eqb_eq k 1 a.0) (eqb_eq z 0 a.1)

  second : rule_2 ≡ true → Types k b m z
  second g =
      let a = and_true (eqb k 2) (ltb z 0x8000_0000_0000_0000) g in
      two (eqb_eq k 2 a.0) (ltb-true z 0x8000_0000_0000_0000 a.1)

  third : rule_3 ≡ true → Types k b m z
  third g =
      let a = and_true (eqb k 3) (eqb b 0 && eqb z 0) g in
      let c = and_true (eqb b 0) (eqb z 0) a.1 in
      three (eqb_eq k 3 a.0) (eqb_eq b 0 c.0) (eqb_eq z 0 c.1)

  fourth : rule_4 ≡ true → Types k b m z
  fourth g =
      let a = and_true (eqb k 4) (eqb b 0 && (eqb z 0 && eqb m 0)) g in
      let c = and_true (eqb b 0) (eqb z 0 && eqb m 0) a.1 in
      let d = and_true (eqb z 0) (eqb m 0) c.1 in
      four (eqb_eq k 4 a.0) (eqb_eq b 0 c.0) (eqb_eq z 0 d.0) (eqb_eq m 0 d.1)

  low : (rule_1 ≡ true) ⊎ (rule_2 ≡ true) → Types k b m z
  low (inl g) = first g
  low (inr g) = second g

  middle : ((rule_1 || rule_2) ≡ true) ⊎ (rule_3 ≡ true) → Types k b m z
  middle (inl g) = low (or_cases rule_1 rule_2 g)
  middle (inr g) = third g

  high : ((rule_1 || rule_2 || rule_3) ≡ true) ⊎ (rule_4 ≡ true) → Types k b m z
  high (inl g) = middle (or_cases (rule_1 || rule_2) rule_3 g)
  high (inr g) = fourth g

  pub types : type_rule k b m z ≡ true → Types k b m z
  unfolding type_rule
  types h = high (or_cases (rule_1 || rule_2 || rule_3) rule_4 h)

-- the entry of a type, mtime bits, a size and a body has them
pub record Says (k m z : ℕ) (b : Bytes) (e : Entry) : Type 0 where
  pub type : k ≡ type_of e
  pub mtime : m ≡ mtime_of e
  pub size : z ≡ size_of e
  pub body : b ≡ body_of e

empty : (b : Bytes) → length b ≡ 0 → b ≡ []
empty [] h = refl
empty (x ∷ b) h = absurd (omega arith)

pub says : (k m z : ℕ) (b : Bytes) → Types k (length b) m z → Says k m z b (entry_of k m z b)
says k m z b (one e f) = rw (e, f) (record { type = refl; mtime = refl; size = refl; body = refl })
says k m z b (two e f) = rw e (record { type = refl; mtime = refl; size = refl; body = refl })
says k m z b (three e f g) = rw (e, g) (record { type = refl; mtime = refl; size = refl; body = empty b f })
says k m z b (four e f g h) = rw (e, g, h) (record { type = refl; mtime = refl; size = refl; body = empty b f })

-- the rule of a reference's body
abbrev pub body_rule : ℕ → Bytes → Bool
body_rule k b = cond (eqb k 2) (ltb 0 (length b) && is_path b) true

pub in_form : (k m z : ℕ) (b : Bytes) → Types k (length b) m z → body_rule k b ≡ true → formed_body (entry_of k m z b) ≡ true
in_form k m z b (one e f) h = rw e
in_form k m z b (two e f) h =
    let a = and_true (ltb 0 (length b)) (is_path b) (rw e at h) in
    rw (e, a.0, a.1, lt-ltb z 0x8000_0000_0000_0000 f)
in_form k m z b (three e f g) h = rw e
in_form k m z b (four e f g i) h = rw e

-- and back: the numbers of an entry in form obey the rule
ruled : (e : Entry) → formed_body e ≡ true → type_rule (type_of e) (length (body_of e)) (mtime_of e) (size_of e) ≡ true
unfolding type_rule
ruled (own m c) h = refl
ruled (reference m z p) h = rw (and_true (is_path p && ltb 0 (length p)) (ltb z 0x8000_0000_0000_0000) h).1
ruled (directory m) h = refl
ruled deleted h = refl

pub form_ruled : (k b m z : ℕ) (e : Entry) → k ≡ type_of e → b ≡ length (body_of e) → m ≡ mtime_of e → z ≡ size_of e → formed_body e ≡ true
    → type_rule k b m z ≡ true
form_ruled k b m z e p q r s h = (λ i. type_rule (p i) (q i) (r i) (s i)) ∙ ruled e h

pub form_body : (k m z n : ℕ) (b : Bytes) → n ≡ length (body_of (entry_of k m z b)) → formed_body (entry_of k m z b) ≡ true
    → cond (eqb k 2) (ltb 0 n && is_path b) true ≡ true
form_body k m z n b q h = elim (test (eqb k 2)) [
  | nay e ↦ rw e
  | yea e ↦
      let two : k ≡ 2 = eqb_eq k 2 e in
      let l : n ≡ length b = rw two at q in
      let g : (is_path b && ltb 0 (length b) && ltb z 0x8000_0000_0000_0000) ≡ true = rw two at h in
      let a = and_true (is_path b && ltb 0 (length b)) (ltb z 0x8000_0000_0000_0000) g in
      let c = and_true (is_path b) (ltb 0 (length b)) a.0 in
      rw (e, l, c.0, c.1)
]
