-- The record of the counting pass is the entries' own where they are entries, and only there a table's check agrees
-- with it.
use mathlib.Core.Path.{◌≡◌, refl, ap, ap₂, sym, ◌∙◌}
use mathlib.Core.Bool.{Bool, true, false}
use Prim.Native.Nat.{ℕ, zero, suc, ◌+◌, ◌<◌}
use native.Mathlib.Omega.{arith}
use lib.Dec.{leb, eqb}
use lib.ListN.{length}
use Rattle.model.specs.Bytes.{Bytes, number_at}
use Rattle.model.specs.Tree.{Table}
use Rattle.model.specs.Table.{charge_sum, record_of, entry_end, entries_at, table_in, is_table}
use Rattle.model.specs.declared.Record.{Record}
use Rattle.model.proofs.Orders.{bot, yea, nay, test, eqb_eq, eqb_true, and_true}
use Rattle.model.proofs.Codec.{decoded}
use Rattle.table_charge.specs.Charge.{charge_by}
use Rattle.table_entries.specs.Place.{Standing}
use Rattle.table_entries.proofs.Entries.{stands, table_stands}
use Rattle.table_open.specs.Pass.{fits}
use Rattle.table_open.proofs.Steps.{is_fits}
use Rattle.kept_file.specs.Kept.{entries_up_to, summed, is_entries}
use Rattle.kept_file.proofs.Entries.{counted, are_entries}
use Rattle.std.specs.Prelude.{Some, None}
use Rattle.kept_read.specs.Heads.{filled_by, heads_from, heads, record_in}

-- what the pass gives where it comes to the end
record Gives (E : ℕ) (s : Bytes) (n : ℕ) (r : Record) : Type 0 where
  used : r.used ≡ length s
  count : r.count ≡ n
  size : r.entry_size ≡ E

gives : (E : ℕ) (s : Bytes) (n c : ℕ) (r : Record) → Some (filled_by E s n c) ≡ Some r → Gives E s n r
gives E s n c r h =
    let e : r ≡ filled_by E s n c = cc in
    rw e (record { used = refl; count = refl; size = refl })

-- its count is that of the entries read up to the end
whole : (E : ℕ) (s : Bytes) (left at n c : ℕ) (r : Record) → heads_from E s left at n c ≡ Some r
    → Gives E s (n + length (entries_up_to s left at)) r
whole E s zero at n c r h = let z : n + 0 ≡ n = omega arith in rw z (gives E s n c r h)
whole E s (suc left) at n c r h = elim (test (leb (length s) at)) [
  | yea a ↦ let z : n + 0 ≡ n = omega arith in rw (a, z) (gives E s n c r (rw a at h))
  | nay a ↦ elim (test (fits s at)) [
    | yea f ↦
        let v : ℕ = c + charge_by E (number_at s at 2) (number_at s (at + 4) 4) in
        let more : ℕ = length (entries_up_to s left (entry_end s at)) in
        let ih = whole E s left (entry_end s at) (n + 1) v r (rw (a, f) at h) in
        let z : n + suc more ≡ n + 1 + more = omega arith in
        rw (a, z) ih
    | nay f ↦ absurd (bot (let z : None ≡ Some r = rw (a, f) at h in cc))
  ]
]

-- a table's record with that count is the sum
own_record : (E : ℕ) (s : Bytes) (r : Record) → heads E s ≡ Some r → is_table s r ≡ true → r ≡ summed E s
own_record E s r h t =
    let g = whole E s (length s) 0 0 0 r h in
    let k : ℕ = length (entries_up_to s (length s) 0) in
    let n : r.count ≡ k = g.count ∙ (omega arith) in
    let e : table_in s r ≡ entries_up_to s (length s) 0
    = ap (λ (m : ℕ). entries_at s m 0) n ∙ counted s (length s) 0 in
    (decoded s r t).rec ∙ ap₂ record_of g.size e

-- entries that stand are all counted and charged
all_counted : (E : ℕ) (s : Bytes) (left at n c : ℕ) → Standing s (length (entries_up_to s left at)) at
    → heads_from E s left at n c
    ≡ Some (filled_by E s (n + length (entries_up_to s left at)) (c + charge_sum E (entries_up_to s left at)))
all_counted E s zero at n c st =
    ap₂ (λ (m d : ℕ). Some (filled_by E s m d)) (omega arith) (omega arith)
all_counted E s (suc left) at n c st = elim (test (leb (length s) at)) [
  | yea a ↦ rw a (ap₂ (λ (m d : ℕ). Some (filled_by E s m d)) (omega arith) (omega arith))
  | nay a ↦
      let t : Table = entries_up_to s left (entry_end s at) in
      let w = stands s (length t) at (rw a at st) in
      let i = w.inside in
      let kl = w.key_length in
      let bl = w.body_length in
      let f : fits s at ≡ true = is_fits s at (omega arith) i in
      let v : ℕ = c + charge_by E (number_at s at 2) (number_at s (at + 4) 4) in
      let ih = all_counted E s left (entry_end s at) (n + 1) v w.next in
      rw (a, f) (ih ∙ ap₂ (λ (m d : ℕ). Some (filled_by E s m d)) (omega arith) (omega arith))
]

-- so the pass over entries gives their sum
entries_counted : (E : ℕ) (s : Bytes) → is_entries E s ≡ true → heads E s ≡ Some (summed E s)
entries_counted E s h =
    let t : Table = entries_up_to s (length s) 0 in
    let x = and_true (is_table s (summed E s)) (eqb (summed E s).used (length s)) h in
    let u : length s ≡ (summed E s).used = sym (eqb_eq (summed E s).used (length s) x.1) in
    let n : 0 + length t ≡ length t = omega arith in
    let c : 0 + charge_sum E t ≡ charge_sum E t = omega arith in
    all_counted E s (length s) 0 0 0 (table_stands s (summed E s) x.0)
    ∙ (λ i. Some (record { used = u i; count = n i; charge = c i; entry_size = E }))

-- what is known where the bytes are no entries
none_in : (E : ℕ) (s : Bytes) → (is_entries E s ≡ true → ⊥) → None ≡ record_in E s
none_in E s n = elim (test (is_entries E s)) [ yea a ↦ absurd (n a) | nay a ↦ rw a ]

module _ (E : ℕ) (s : Bytes) where
  pub too_long : 16777216 < length s → None ≡ record_in E s
  too_long l = none_in E s (λ h. let z = (are_entries E s h).short in omega arith)

  pub not_whole : None ≡ heads E s → None ≡ record_in E s
  not_whole d = none_in E s (λ h. let z = entries_counted E s h in bot (cc))

  module _ (r : Record) (w : Some r ≡ heads E s) where
    pub no_table : {b : Bool} → b ≡ is_table s r → b ≡ false → None ≡ record_in E s
    no_table {b} e f = none_in E s (λ h.
        let z : summed E s ≡ r = let y = entries_counted E s h in cc in
        let t : is_table s r ≡ true = ap (is_table s) (sym z) ∙ (are_entries E s h).table in
        bot (cc))

    pub table_is : {b : Bool} → b ≡ is_table s r → b ≡ true → Some r ≡ record_in E s
    table_is {b} e f =
        let t : is_table s r ≡ true = sym e ∙ f in
        let g = whole E s (length s) 0 0 0 r (sym w) in
        let o = own_record E s r (sym w) t in
        let i : is_table s (summed E s) ≡ true = rw o at t in
        let u : (summed E s).used ≡ length s = ap (λ (q : Record). q.used) (sym o) ∙ g.used in
        let j : is_entries E s ≡ true = rw (i, u, eqb_true (length s)) in
        ap Some o ∙ rw j

-- what an answer of it says
module _ (E : ℕ) (s : Bytes) where
  pub no_record : None ≡ record_in E s → is_entries E s ≡ false
  no_record h = elim (test (is_entries E s)) [
    | yea a ↦ absurd (bot (let z : None ≡ Some (summed E s) = rw a at h in cc))
    | nay a ↦ a
  ]

  pub own_sum : (r : Record) → Some r ≡ record_in E s → (is_entries E s ≡ true) × (r ≡ summed E s)
  own_sum r h = elim (test (is_entries E s)) [
    | yea a ↦ (a, let z : Some r ≡ Some (summed E s) = rw a at h in cc)
    | nay a ↦ absurd (bot (let z : Some r ≡ None = rw a at h in cc))
  ]
