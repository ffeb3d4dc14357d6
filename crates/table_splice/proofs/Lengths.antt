-- What is judged of an entry by its body's length.
use mathlib.Core.Path.{◌≡◌, ap, sym, subst, ◌∙◌}
use mathlib.Core.Bool.{Bool, true, false, not}
use Prim.Native.Nat.{ℕ, ◌+◌, ◌-◌, ◌<◌, ◌≤◌}
use native.Mathlib.Omega.{arith}
use lib.Dec.{leb}
use lib.ListN.{length}
use borrow.Author.Tests.{leb-true, leb-false, not-true, not-false}
use Rattle.model.specs.Path.{Path}
use Rattle.model.specs.Map.{put}
use Rattle.model.specs.Tree.{Entry, deleted, Table}
use Rattle.model.specs.Table.{body_of, encode, body_charge, charge_sum, capped, record_of, sized}
use Rattle.model.specs.declared.Record.{Record}
use Rattle.model.proofs.Codec.{charge_exact}
use Rattle.table_measure.specs.Measure.{replaced}
use Rattle.table_measure.proofs.Passes.{other_body}
use Rattle.table_insert.specs.Insert.{insertion}
use Rattle.table_insert.specs.declared.InsertError.TheVariants.{MemoryUsageLimitExceeded, NoRoom}
use Rattle.std.specs.Prelude.{Ok, Err}
use Rattle.table_insert.proofs.Inserts.{over_limit_lem, no_room, in_both, answered}

-- both ways by the test's answer
pub beyond : (s bound : ℕ) (b : Bool) → b ≡ leb s bound → not b ≡ true → bound < s
beyond s bound b e h = leb-false s bound (sym e ∙ not-true b h)

pub within : (s bound : ℕ) (b : Bool) → b ≡ leb s bound → not b ≡ false → s ≤ bound
within s bound b e h = leb-true s bound (sym e ∙ not-false b h)

-- x is the record with an entry that has no body; with a body of n bytes it is `after`, whose charge counts as z
module _ (E limit room : ℕ) (k : Path) (t : Table) (x : Record) (n z : ℕ) (e : x ≡ record_of E (put k deleted t)) (c : z ≡ capped (x.charge + capped (body_charge n))) where
  abbrev after : Record
  after = record { used = x.used + n; count = x.count; charge = x.charge + body_charge n; entry_size = x.entry_size }

  after_is : (v : Entry) → length (body_of v) ≡ n → after ≡ record_of E (put k v t)
  after_is v l =
      let u : x.used + n ≡ x.used + n - 0 = omega arith in
      let w : x.charge + body_charge n ≡ x.charge + body_charge n - body_charge 0 = omega arith in
      let f : after ≡ replaced x 0 n = λ i. record { used = u i; count = x.count; charge = w i; entry_size = x.entry_size } in
      f ∙ (λ i. replaced (e i) 0 (sym l i)) ∙ other_body E k deleted v t

  counts_as_lem : z ≡ capped after.charge
  counts_as_lem = omega (arith, c)

  pub over : limit < z → (v : Entry) → length (body_of v) ≡ n → Err MemoryUsageLimitExceeded ≡ insertion E limit room (put k v t)
  over g v l =
      answered E limit room (put k v t) after (Err MemoryUsageLimitExceeded) (after_is v l)
      (over_limit_lem after limit room (subst (λ (m : ℕ). limit < m) counts_as_lem g))

  module _ (g : z ≤ limit) (d : Bool) (h : d ≡ leb (x.used + n) room) where
    counted : capped after.charge ≤ limit
    counted = subst (λ (m : ℕ). m ≤ limit) counts_as_lem g

    pub full : not d ≡ true → (v : Entry) → length (body_of v) ≡ n → Err NoRoom ≡ insertion E limit room (put k v t)
    full i v l =
        answered E limit room (put k v t) after (Err NoRoom) (after_is v l) (no_room after limit room counted (beyond (x.used + n) room d h i))

    -- in the room that a table has, nothing is cut
    pub within_both : not d ≡ false → sized E room ≡ true → (v : Entry) → length (body_of v) ≡ n
        → Ok (record { used = x.used + n; count = x.count; charge = z; entry_size = x.entry_size }) ≡ insertion E limit room (put k v t)
    within_both i y v l =
        let w = within (x.used + n) room d h i in
        let a = after_is v l in
        let u : x.used + n ≡ length (encode (put k v t)) = ap (λ (r : Record). r.used) a in
        let q : x.charge + body_charge n ≡ charge_sum E (put k v t) = ap (λ (r : Record). r.charge) a in
        let m : z ≡ after.charge = counts_as_lem ∙ ap capped q ∙ charge_exact E room (put k v t) y (omega arith) ∙ sym q in
        (λ j. Ok (record { used = x.used + n; count = x.count; charge = m j; entry_size = x.entry_size }))
        ∙ answered E limit room (put k v t) after (Ok after) a (in_both after limit room counted w)
