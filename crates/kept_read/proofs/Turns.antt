-- One turn of the counting pass: what holds before a head is read, what each exit gives, and what holds after it.
use mathlib.Core.Path.{◌≡◌, refl, sym, ◌∙◌}
use mathlib.Core.Bool.{true, false, cond}
use Prim.Native.Nat.{ℕ, zero, suc, ◌+◌, ◌-◌, ◌*◌, ◌<◌, ◌≤◌}
use native.Mathlib.Omega.{arith}
use lib.ListN.{length}
use borrow.Author.Tests.{le-leb, lt-leb}
use Rattle.model.specs.Bytes.{Bytes, number_at}
use Rattle.model.specs.Table.{entry_end}
use Rattle.table_charge.specs.Charge.{charge_by}
use Rattle.table_open.specs.Pass.{fits}
use Rattle.table_open.proofs.Steps.{no_head, by_end}
use Rattle.std.specs.Prelude.{Some, None}
use Rattle.kept_read.specs.Heads.{filled_by, heads_from, heads}

-- before a head is read: n entries, charged c, stand before `at`
pub record Kept (E : ℕ) (s : Bytes) (at n c : ℕ) : Type 0 where
  pub inside : at ≤ length s
  pub count : n ≤ at
  pub bound : c ≤ 4352 * at
  pub rest : heads_from E s (length s - n) at n c ≡ heads E s

pub started : (E : ℕ) (s : Bytes) → Kept E s 0 0 0
started E s =
    let z : length s - 0 ≡ length s = omega arith in
    record { inside = omega arith; count = omega arith; bound = omega arith; rest = rw z }

turned : (E : ℕ) (s : Bytes) (left at n c : ℕ) → at < length s → 0 < left
    → heads_from E s left at n c
    ≡ cond (fits s at) (heads_from E s (left - 1) (entry_end s at) (n + 1)
    (c + charge_by E (number_at s at 2) (number_at s (at + 4) 4))) None
turned E s zero at n c h l = absurd (omega arith)
turned E s (suc left) at n c h l =
    let d : suc left - 1 ≡ left = omega arith in
    rw (lt-leb (length s) at h, d)

ended : (E : ℕ) (s : Bytes) (left at n c : ℕ) → length s ≤ at → heads_from E s left at n c ≡ Some (filled_by E s n c)
ended E s zero at n c h = refl
ended E s (suc left) at n c h = rw (le-leb (length s) at h)

module _ {E : ℕ} {s : Bytes} {at n c : ℕ} (k : Kept E s at n c) where
  pub finished : length s ≤ at → Some (filled_by E s n c) ≡ heads E s
  finished h = sym (ended E s (length s - n) at n c h) ∙ k.rest

  module _ (h : at < length s) where
    now_turned : cond (fits s at) (heads_from E s (length s - n - 1) (entry_end s at) (n + 1)
        (c + charge_by E (number_at s at 2) (number_at s (at + 4) 4))) None
        ≡ heads E s
    now_turned =
        let i = k.count in
        sym (turned E s (length s - n) at n c h (omega arith)) ∙ k.rest

    not_fitting : false ≡ fits s at → None ≡ heads E s
    not_fitting z = rw (sym z) at now_turned

    pub headless : length s < at + 24 → None ≡ heads E s
    headless l = not_fitting (no_head s at l)

    module _ (l : at + 24 ≤ length s) {a b : ℕ} (ea : a ≡ number_at s at 2) (eb : b ≡ number_at s (at + 4) 4) where
      pub endless : length s < at + 24 + a + b → None ≡ heads E s
      endless g = not_fitting (sym (lt-leb (at + 24 + a + b) (length s) g) ∙ by_end s at a b l ea eb)

      pub kept_on : E ≤ 4096 → at + 24 + a + b ≤ length s → {v : ℕ} → v ≡ charge_by E a b
          → Kept E s (at + 24 + a + b) (n + 1) (c + v)
      kept_on small g {v} ev =
          let i = k.count in
          let bound = k.bound in
          let f : fits s at ≡ true = sym (by_end s at a b l ea eb) ∙ le-leb (at + 24 + a + b) (length s) g in
          let d : length s - (n + 1) ≡ length s - n - 1 = omega arith in
          record {
            inside = g;
            count = omega arith;
            bound = omega arith;
            rest = rw (ev, d, ea, eb) (rw f at now_turned);
          }
