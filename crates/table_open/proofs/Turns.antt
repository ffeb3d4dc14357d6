-- One turn of the pass: what holds before an entry is read, what each refusal gives, and what holds after it.
use mathlib.Core.Path.{◌≡◌, refl, sym, ◌∙◌, subst}
use mathlib.Core.Bool.{Bool, true, false, not, ◌&&◌}
use mathlib.Core.List.{[]}
use Prim.Native.Nat.{ℕ, zero, suc, ◌+◌, ◌-◌, ◌*◌, ◌<◌, ◌≤◌}
use mathlib.Core.Logic.{◌⊎◌, inl, inr}
use native.Mathlib.Omega.{arith}
use lib.Dec.{leb, eqb}
use lib.ListN.{length, drop}
use borrow.Author.Tests.{eq-eqb, ne_eqb, leb-true, not-true, not-false}
use Rattle.model.specs.Bytes.{Bytes, number_at}
use Rattle.model.specs.Path.{Path}
use Rattle.model.specs.Table.{key_at, entry_end, sized}
use Rattle.model.specs.declared.Record.{Record}
use Rattle.model.proofs.Orders.{and_true}
use Rattle.base_fields.specs.Read.{zeros, part}
use Rattle.table_charge.specs.Charge.{charge_by}
use Rattle.table_open.specs.Pass.{in_order, run, passes}
use Rattle.table_open.proofs.Steps.{key_is, ordered}

-- before an entry is read: the key before it stands from `from` up to `to`, and c is charged so far
pub record Kept (s : Bytes) (r : Record) (left at from to c : ℕ) : Type 0 where
  pub small : length s ≤ 16777216
  pub size : r.entry_size ≤ 4096
  pub inside : at ≤ length s
  pub start : from ≤ to
  pub end : to ≤ at
  pub bound : c ≤ 4352 * at
  pub rest : run s r left at (part s from to) c ≡ passes s r

module _ (s : Bytes) (r : Record) {b : Bool} (e : b ≡ sized r.entry_size (length s)) where
  pub not_sized : not b ≡ true → false ≡ passes s r
  unfolding passes
  not_sized z = rw (sym e ∙ not-true b z)

  module _ (z : not b ≡ false) where
    within : sized r.entry_size (length s) ≡ true
    within = sym e ∙ not-false b z

    whole : run s r r.count 0 [] 0 ≡ passes s r
    unfolding passes
    whole = rw within

    pub started : Kept s r (r.count - 0) 0 0 0 0
    started =
        let n : r.count ≡ r.count - 0 = omega arith in
        let a = and_true (leb r.entry_size 4096) (leb (length s) 16777216) within in
        subst (λ (m : ℕ). Kept s r m 0 0 0 0) n (record {
          small = leb-true (length s) 16777216 a.1;
          size = leb-true r.entry_size 4096 a.0;
          inside = omega arith;
          start = omega arith;
          end = omega arith;
          bound = omega arith;
          rest = whole;
        })

turned : (s : Bytes) (r : Record) (left at : ℕ) (p : Path) (c : ℕ) → 0 < left
    → run s r left at p c
    ≡ (in_order s at p && run s r (left - 1) (entry_end s at) (key_at s at) (c + charge_by r.entry_size (number_at s at 2) (number_at s (at + 4) 4)))
turned s r zero at p c h = absurd (omega arith)
turned s r (suc n) at p c h = let d : suc n - 1 ≡ n = omega arith in rw d

module _ {s : Bytes} {r : Record} {left at from to c : ℕ} (k : Kept s r left at from to c) where
  finished : left ≤ 0 → (z : Bool) → z ≡ zeros (drop at s) → ((eqb at r.used && eqb c r.charge) && z) ≡ passes s r
  finished h z e = rw e (go left h k.rest)
    where
      go : (left : ℕ) → left ≤ 0 → run s r left at (part s from to) c ≡ passes s r → ((eqb at r.used && eqb c r.charge) && zeros (drop at s)) ≡ passes s r
      go zero h q = q
      go (suc n) h q = absurd (omega arith)

  -- where the record agrees with the end of the entries, the zeros decide
  pub finished_on : left ≤ 0 → (at ≡ r.used) × (c ≡ r.charge) → (z : Bool) → z ≡ zeros (drop at s) → z ≡ passes s r
  finished_on h g z e =
      let i : z ≡ ((eqb at r.used && eqb c r.charge) && z) = rw (eq-eqb at r.used g.0, eq-eqb c r.charge g.1) in
      i ∙ finished h z e

  pub finished_off : left ≤ 0 → ((at ≡ r.used) × (c ≡ r.charge → ⊥)) ⊎ (at ≡ r.used → ⊥) → (v : Bool) → v ≡ false → v ≡ passes s r
  finished_off h o v g = g ∙ off o ∙ finished h (zeros (drop at s)) refl
    where
      off : ((at ≡ r.used) × (c ≡ r.charge → ⊥)) ⊎ (at ≡ r.used → ⊥) → false ≡ ((eqb at r.used && eqb c r.charge) && zeros (drop at s))
      off (inl x) = rw (eq-eqb at r.used x.0, ne_eqb c r.charge x.1)
      off (inr x) = rw (ne_eqb at r.used x)

  module _ (h : 0 < left) {b : Bool} (e : b ≡ in_order s at (part s from to)) where
    pub no_entry_lem : not b ≡ true → false ≡ passes s r
    no_entry_lem z = rw (sym e ∙ not-true b z) at (sym (turned s r left at (part s from to) c h) ∙ k.rest)

    module _ (z : not b ≡ false) where
      in_order_lem : in_order s at (part s from to) ≡ true
      in_order_lem = sym e ∙ not-false b z

      pub head : at + 24 ≤ length s
      head = (ordered s at (part s from to) in_order_lem).head

      module _ {n m : ℕ} (en : n ≡ number_at s at 2) (em : m ≡ number_at s (at + 4) 4) where
        pub end : at + 24 + n + m ≤ length s
        end = rw (en, em) (ordered s at (part s from to) in_order_lem).end

        pub kept_on : {v : ℕ} → v ≡ charge_by r.entry_size n m → Kept s r (left - 1) (at + 24 + n + m) (at + 24) (at + 24 + n) (c + v)
        kept_on ev =
            let size = k.size in
            let bound = k.bound in
            let last = end in
            let go : run s r (left - 1) (entry_end s at) (key_at s at) (c + charge_by r.entry_size (number_at s at 2) (number_at s (at + 4) 4)) ≡ passes s r
            = rw in_order_lem at (sym (turned s r left at (part s from to) c h) ∙ k.rest) in
            record {
              small = k.small;
              size = k.size;
              inside = last;
              start = omega arith;
              end = omega arith;
              bound = omega arith;
              rest = rw (ev, key_is s at n en, en, em) go;
            }
