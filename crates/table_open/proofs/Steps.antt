-- The rules of one entry, by the tests that the code makes: one law for each exit.
use mathlib.Core.Path.{◌≡◌, sym, ◌∙◌, refl}
use mathlib.Core.Bool.{Bool, true, false, ◌&&◌}
use Prim.Native.Nat.{ℕ, ◌+◌, ◌<◌, ◌≤◌}
use native.Mathlib.Nat.{add-sub_cancel_left}
use lib.Dec.{leb, ltb}
use lib.ListN.{length}
use borrow.Author.Tests.{le-leb, lt-leb, leb-true, eq-eqb, ne_eqb, le-ltb}
use Rattle.model.specs.Bytes.{Bytes, number_at, before}
use Rattle.model.specs.Path.{Path, is_path}
use Rattle.model.specs.Table.{key_at, body_at, entry_end}
use Rattle.model.proofs.Orders.{and_true}
use Rattle.base_fields.specs.Read.{part}
use Rattle.table_open.specs.Pass.{type_rule, fits, headed, referring, in_order}

-- the bytes from a up to b
module _ (s : Bytes) (at : ℕ) where
  pub fits_is : fits s at ≡ true → (at + 24 ≤ length s) × (entry_end s at ≤ length s)
  unfolding fits
  fits_is h =
      let e = and_true (leb (at + 24) (length s)) (leb (entry_end s at) (length s)) h in
      (leb-true (at + 24) (length s) e.0, leb-true (entry_end s at) (length s) e.1)

  pub is_fits : at + 24 ≤ length s → entry_end s at ≤ length s → fits s at ≡ true
  unfolding fits
  is_fits h k = rw (le-leb (at + 24) (length s) h, le-leb (entry_end s at) (length s) k)

  pub no_head : length s < at + 24 → false ≡ fits s at
  unfolding fits
  no_head h = rw (lt-leb (at + 24) (length s) h)

  pub by_end : (n m : ℕ) → at + 24 ≤ length s → n ≡ number_at s at 2 → m ≡ number_at s (at + 4) 4 → leb (at + 24 + n + m) (length s) ≡ fits s at
  unfolding fits
  by_end n m h e f = rw (le-leb (at + 24) (length s) h, e, f)

  pub by_numbers : (k b m z : ℕ) (r : Bool) → k ≡ number_at s (at + 2) 2 → b ≡ number_at s (at + 4) 4 → m ≡ number_at s (at + 8) 8
      → z ≡ number_at s (at + 16) 8 → r ≡ type_rule k b m z → r ≡ headed s at
  unfolding headed
  by_numbers k b m z r e f g h q = q ∙ rw (e, f, g, h)

  module _ (n : ℕ) (e : n ≡ number_at s at 2) where
    pub key_is : part s (at + 24) (at + 24 + n) ≡ key_at s at
    key_is = rw (add-sub_cancel_left (at + 24) n, e)

    body_is : (m : ℕ) → m ≡ number_at s (at + 4) 4 → part s (at + 24 + n) (at + 24 + n + m) ≡ body_at s at
    body_is m f = rw (add-sub_cancel_left (at + 24 + n) m, e, f)

    pub is_reference : (k m : ℕ) (r : Bool) → k ≡ number_at s (at + 2) 2 → k ≡ 2 → m ≡ number_at s (at + 4) 4
        → r ≡ is_path (part s (at + 24 + n) (at + 24 + n + m)) → (ltb 0 m && r) ≡ referring s at
    unfolding referring
    is_reference k m r g two f q = rw (eq-eqb (number_at s (at + 2) 2) 2 (sym g ∙ two), q, body_is m f, f)

  pub no_reference : (k : ℕ) → k ≡ number_at s (at + 2) 2 → (k ≡ 2 → ⊥) → true ≡ referring s at
  unfolding referring
  no_reference k g n = rw (ne_eqb (number_at s (at + 2) 2) 2 (λ e. n (g ∙ e)))

-- the tests of an entry in their order: the first refuses, and those behind it are one chain
module _ (s : Bytes) (at : ℕ) (p : Path) {a : Bool} (ea : a ≡ fits s at) where
  pub not_fitting : a ≡ false → false ≡ in_order s at p
  unfolding in_order
  not_fitting h = rw (sym ea ∙ h)

  pub by_chain : a ≡ true → (((headed s at && is_path (key_at s at)) && referring s at) && before p (key_at s at)) ≡ in_order s at p
  unfolding in_order
  by_chain h = rw (sym ea ∙ h) (grouped (headed s at) (is_path (key_at s at)) (referring s at) (before p (key_at s at)))
    where
      grouped : (b c d e : Bool) → (((b && c) && d) && e) ≡ (b && (c && (d && e)))
      grouped true true d e = refl
      grouped true false d e = refl
      grouped false c d e = refl

-- a body of no bytes is no path, whatever is tested behind its length
pub empty_body : (m : ℕ) → m ≤ 0 → (r v : Bool) → (ltb 0 m && r) ≡ v → ltb 0 m ≡ v
empty_body m h r v q = (let e = le-ltb 0 m h in e ∙ rw e at q)

-- a test a of A with the next one behind it, where it is passed and where it is not
pub then_next : {a A : Bool} → a ≡ A → a ≡ true → {v b B : Bool} → v ≡ b → b ≡ B → v ≡ (A && B)
then_next e h f g = rw (sym e ∙ h, f, g)

pub else_next : {a A : Bool} → a ≡ A → a ≡ false → {v : Bool} (B : Bool) → v ≡ a → v ≡ (A && B)
else_next e h B f = rw (sym e ∙ h, f, h)

-- what is known of an entry in order, both ways
pub record Ordered (s : Bytes) (at : ℕ) (p : Path) : Type 0 where
  pub head : at + 24 ≤ length s
  pub end : entry_end s at ≤ length s
  pub numbers : headed s at ≡ true
  pub key : is_path (key_at s at) ≡ true
  pub body : referring s at ≡ true
  pub behind : before p (key_at s at) ≡ true

pub ordered : (s : Bytes) (at : ℕ) (p : Path) → in_order s at p ≡ true → Ordered s at p
unfolding in_order
ordered s at p h =
    let a = and_true (fits s at) (headed s at && (is_path (key_at s at) && (referring s at && before p (key_at s at)))) h in
    let b = and_true (headed s at) (is_path (key_at s at) && (referring s at && before p (key_at s at))) a.1 in
    let c = and_true (is_path (key_at s at)) (referring s at && before p (key_at s at)) b.1 in
    let d = and_true (referring s at) (before p (key_at s at)) c.1 in
    let f = fits_is s at a.0 in
    record { head = f.0; end = f.1; numbers = b.0; key = c.0; body = d.0; behind = d.1 }

pub in_order_lem : (s : Bytes) (at : ℕ) (p : Path) → Ordered s at p → in_order s at p ≡ true
unfolding in_order
in_order_lem s at p o = rw (is_fits s at o.head o.end, o.numbers, o.key, o.body, o.behind)
