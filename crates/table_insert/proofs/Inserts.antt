-- One entry put into a table: its record, the room that the writing needs, and where it ends.
use mathlib.Core.Path.{◌≡◌, ap, sym, subst, ◌∙◌}
use mathlib.Core.List.{[], ◌∷◌}
use mathlib.Core.Bool.{true}
use Prim.Native.Nat.{ℕ, ◌+◌, ◌-◌, ◌<◌, ◌≤◌}
use native.Mathlib.Omega.{arith}
use lib.Dec.{leb}
use lib.ListN.{length, replicate, length-append}
use borrow.Author.Tests.{leb-true, le-leb, lt-leb}
use Rattle.model.specs.Bytes.{Bytes}
use Rattle.model.specs.Path.{Path}
use Rattle.model.specs.Map.{put}
use Rattle.model.specs.Tree.{Entry, Table}
use Rattle.model.specs.Table.{body_of, entry_bytes, encode, charge_sum, capped, record_of, entry_of, entries_at, table_in, is_table}
use Rattle.model.specs.declared.Record.{Record}
use Rattle.model.proofs.Orders.{test, yea, nay, bot}
use Rattle.model.proofs.Codec.{decoded, bounds, entry_length}
use Rattle.table_entries.specs.declared.Place.{Place}
use Rattle.table_entries.specs.Place.{end_of}
use Rattle.table_entries.specs.Cut.{up_to, behind}
use Rattle.table_entries.proofs.Entries.{table_stands, table_end}
use Rattle.table_entries.proofs.Cuts.{put_cut, encode_append}
use Rattle.table_measure.specs.Measure.{Measured, Counts}
use Rattle.table_measure.proofs.Passes.{measure_begun}
use Rattle.table_write.specs.Merge.{Written, Merged}
use Rattle.table_insert.specs.Insert.{Inserted, judged, insertion}
use Rattle.table_insert.specs.declared.InsertError.TheVariants.{MemoryUsageLimitExceeded, NoRoom}
use Rattle.std.specs.Prelude.{is_ok, Ok, Err}

pub counts_all : (s : Bytes) (r : Record) → is_table s r ≡ true → Counts s r.count 0 r
counts_all s r h =
    let d = decoded s r h in
    let e = d.rec in
    let E = d.size_most in
    let S = d.length_most in
    let b = bounds r.entry_size (table_in s r) E in
    let b0 = b.0 in
    let b1 = b.1 in
    let u : r.used ≡ length (encode (table_in s r)) = ap (λ (q : Record). q.used) e in
    let n : r.count ≡ length (table_in s r) = ap (λ (q : Record). q.count) e in
    let c : r.charge ≡ charge_sum r.entry_size (table_in s r) = ap (λ (q : Record). q.charge) e in
    let f = d.fits in
    record {
      stand = table_stands s r h;
      bytes = omega arith;
      charged = omega arith;
      used_small = omega arith;
      count_small = omega arith;
      charge_small = omega arith;
      size_small = E;
    }

-- what is written up to the key and its entry is a part of the whole
pub room : (k : Path) (v : Entry) (t : Table) (n : ℕ) → length (encode (put k v t)) ≤ n → 0 + length (encode (up_to k t)) + (24 + length k + length (body_of v)) ≤ n
room k v t n h =
    let e = ap (λ (x : Table). length (encode x)) (put_cut k v t) in
    let a = ap length (encode_append (up_to k t) ((k, v) ∷ behind k t)) ∙ length-append (encode (up_to k t)) (encode ((k, v) ∷ behind k t)) in
    let b = length-append (entry_bytes k v) (encode (behind k t)) in
    let l = entry_length k v in
    omega arith

-- where the writing ends, by what is written and what is left of the old table
pub ends : (s w : Bytes) (t : Table) (k : Path) (left at out used : ℕ) → Merged s w t k left at out → end_of s left at ≡ used
    → (at ≤ used) × (out + (used - at) ≡ length (encode t))
ends s w t k left at out used m e =
    let x = ap (λ (y : Table). length (encode y)) m.passed.whole in
    let a = ap length (encode_append m.passed.done (entries_at s left at)) ∙ length-append (encode m.passed.done) (encode (entries_at s left at)) in
    let z = m.size in
    (omega arith, omega arith)

-- a pass that begins at the first entry, as code has it
pub counts_first : (s : Bytes) (r : Record) (q : Place) → is_table s r ≡ true → q ≡ record { at = 0; left = r.count } → Counts s q.left q.at r
counts_first s r q h e = subst (λ (p : Place). Counts s p.left p.at r) (sym e) (counts_all s r h)

pub measure_first : (s : Bytes) (r : Record) (q : Place) → is_table s r ≡ true → q ≡ record { at = 0; left = r.count }
    → Measured s (table_in s r) [] q.left q.at r.entry_size r
measure_first s r q h e = subst (λ (p : Place). Measured s (table_in s r) [] p.left p.at r.entry_size r) (sym e) (measure_begun s r h)

-- the room, by an entry's fields
pub room_for : (k : Path) (kind m z : ℕ) (b : Bytes) (t : Table) (n w : ℕ) → Written kind m z b → length (encode (put k (entry_of kind m z b) t)) ≤ n → n ≤ w
    → 0 + length (encode (up_to k t)) + (24 + length k + length b) ≤ w
room_for k kind m z b t n w e h g =
    let l = ap length e.content in
    let f = room k (entry_of kind m z b) t n h in
    omega arith

-- what is left to write fits, as the whole does
pub rest_fits : (s w : Bytes) (r : Record) (t : Table) (k : Path) (left at out : ℕ) → is_table s r ≡ true → Merged s w t k left at out
    → end_of s left at ≡ end_of s r.count 0 → length (encode t) ≤ length s
    → ((at ≤ r.used) × (r.used ≤ length s)) × (out + (r.used - at) ≤ length s)
rest_fits s w r t k left at out h m e f =
    let d = table_end s r h in
    let x = ends s w t k left at out r.used m (e ∙ d) in
    let x0 = x.0 in
    let x1 = x.1 in
    let i = (decoded s r h).fits in
    ((x0, omega arith), omega arith)

-- what is left of the old table ends where that does
pub same_used : (s : Bytes) (r : Record) (left at : ℕ) → is_table s r ≡ true → end_of s left at ≡ end_of s r.count 0 → r.used ≡ end_of s left at
same_used s r left at h e = sym (e ∙ table_end s r h)

pub zeros_as_long : (w w₁ w₂ : Bytes) → w₂ ≡ replicate (length w₁) 0 → length w₁ ≡ length w → w₂ ≡ replicate (length w) 0
zeros_as_long w w₁ w₂ e l = e ∙ ap (λ (n : ℕ). replicate n 0) l

-- the three answers, by the two tests
pub over_limit_lem : (r : Record) (limit n : ℕ) → limit < capped r.charge → Err MemoryUsageLimitExceeded ≡ judged r limit n
over_limit_lem r limit n h = rw (lt-leb (capped r.charge) limit h)

pub no_room : (r : Record) (limit n : ℕ) → capped r.charge ≤ limit → n < r.used → Err NoRoom ≡ judged r limit n
no_room r limit n h g = rw (le-leb (capped r.charge) limit h, lt-leb r.used n g)

pub in_both : (r : Record) (limit n : ℕ) → capped r.charge ≤ limit → r.used ≤ n → Ok r ≡ judged r limit n
in_both r limit n h g = rw (le-leb (capped r.charge) limit h, le-leb r.used n g)

-- it is done only in the room that there is
done_fits : (r : Record) (limit n : ℕ) → is_ok (judged r limit n) ≡ true → r.used ≤ n
done_fits r limit n h =
    elim (test (leb (capped r.charge) limit)) [
      | yea a ↦ elim (test (leb r.used n)) [ yea b ↦ leb-true r.used n b | nay b ↦ absurd (bot (cc)) ]
      | nay a ↦ absurd (bot (cc))
    ]

-- the answer a to the record x that the new table t is to have
pub answered : (E limit n : ℕ) (t : Table) (x : Record) (a : Inserted) → x ≡ record_of E t → a ≡ judged x limit n → a ≡ insertion E limit n t
answered E limit n t x a e h = h ∙ ap (λ (r : Record). judged r limit n) e

pub fits_done : (E limit n : ℕ) (t : Table) (p : Record) → Ok p ≡ insertion E limit n t → length (encode t) ≤ n
fits_done E limit n t p h = done_fits (record_of E t) limit n (ap is_ok (sym h))
