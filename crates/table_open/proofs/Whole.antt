-- The one pass gives `is_table`: what it passes is a table with its record, and each table with its record passes.
-- Assumes nothing but that what stands in the buffer are bytes.
use mathlib.Core.Path.{◌≡◌, refl, sym, ap, ◌∙◌}
use mathlib.Core.Bool.{Bool, true, false, ◌&&◌}
use mathlib.Core.List.{[], ◌++◌}
use Prim.Native.Nat.{ℕ, zero, suc, ◌+◌, ◌-◌, ◌<◌}
use native.Mathlib.Omega.{arith}
use lib.ListN.{length, drop, get_or, replicate, length-append}
use lib.Seq.{drop-append_seam}
use borrow.Author.Tests.{eq-eqb}
use Rattle.model.specs.Bytes.{Bytes, every, number_at, same, before}
use Rattle.model.specs.Path.{Path}
use Rattle.model.specs.Map.{ascends}
use Rattle.model.specs.Tree.{Table}
use Rattle.model.specs.Table.{entry_bytes, encode, padded, charge_sum, record_of, key_at, body_at, entry_at, entry_end, entries_at, table_in}
use Rattle.model.specs.Table.{formed_entry, same_record, sized, is_table}
use Rattle.model.specs.declared.Record.{Record}
use Rattle.model.proofs.Words.{IsBytes}
use Rattle.model.proofs.Orders.{and_true, same_refl}
use Rattle.model.proofs.Codec.{decoded, same_record_lem}
use Rattle.base_fields.specs.Read.{zeros}
use Rattle.base_fields.proofs.Pieces.{bytes_of}
use Rattle.base_fields.proofs.Zeros.{zeros_of, zeros_behind}
use Rattle.table_charge.specs.Charge.{charge_by}
use Rattle.table_entries.specs.Place.{Standing}
use Rattle.table_entries.proofs.Entries.{Stands, stands, table_stands, count_is}
use Rattle.table_open.specs.Pass.{headed, referring, run, passes}
use Rattle.table_open.proofs.Steps.{Ordered, in_order_lem}
use Rattle.table_open.proofs.Rules.{form_ruled, form_body}
use Rattle.table_open.proofs.Back.{passed}

all_five : (a b c d e : Bool) → a ≡ true → b ≡ true → c ≡ true → d ≡ true → e ≡ true → (a && b && c && d && e) ≡ true
all_five a b c d e f g h i j = rw (f, g, h, i, j)

record_is : (r : Record) (u n c : ℕ) → u ≡ r.used → n ≡ r.count → c ≡ r.charge
    → record { used = u; count = n; charge = c; entry_size = r.entry_size } ≡ r
record_is r u n c a b d = λ i. record { used = a i; count = b i; charge = d i; entry_size = r.entry_size }

-- what passes is a table
pass_table : (s : Bytes) → IsBytes s → (r : Record) → passes s r ≡ true → is_table s r ≡ true
unfolding passes
pass_table s bs r h =
    let t : Table = table_in s r in
    let a = and_true (sized r.entry_size (length s)) (run s r r.count 0 [] 0) h in
    let d = passed s bs r r.count 0 [] 0 (omega arith) a.1 in
    let u : length (encode t) ≡ r.used = let u = d.used in omega arith in
    let c : charge_sum r.entry_size t ≡ r.charge = let c = d.charged in omega arith in
    let z : drop r.used s ≡ replicate (length s - length (encode t)) 0
    = zeros_behind s r.used d.nothing ∙ ap (λ (n : ℕ). replicate (length s - n) 0) (sym u) in
    let e : s ≡ padded (length s) (encode t) = d.bytes ∙ ap (λ (x : Bytes). encode t ++ x) z in
    let q : record_of r.entry_size t ≡ r
    = record_is r (length (encode t)) (length t) (charge_sum r.entry_size t) u (count_is s r.count 0) c in
    all_five (sized r.entry_size (length s)) (ascends [] t) (every formed_entry t) (same s (padded (length s) (encode t)))
    (same_record r (record_of r.entry_size t))
    a.0 d.up d.formed (ap (same s) (sym e) ∙ same_refl s) (ap (same_record r) q ∙ same_record_lem r)

-- an entry that stands is in order
entry_ordered : (s : Bytes) (n at : ℕ) (p : Path) → Stands s n at → before p (key_at s at) ≡ true → Ordered s at p
unfolding headed referring
entry_ordered s n at p w b = record {
  head = let i = w.inside in omega arith;
  end = w.inside;
  numbers =
      form_ruled (number_at s (at + 2) 2) (number_at s (at + 4) 4) (number_at s (at + 8) 8) (number_at s (at + 16) 8) (entry_at s at)
      w.type w.body_length w.mtime w.size w.body_form;
  key = w.key_form;
  body =
      form_body (number_at s (at + 2) 2) (number_at s (at + 8) 8) (number_at s (at + 16) 8) (number_at s (at + 4) 4) (body_at s at)
      w.body_length w.body_form;
  behind = b;
}

-- entries that stand, and a record that agrees with them, pass
module _ (s : Bytes) (r : Record) (z : zeros (drop r.used s) ≡ true) where
  runs : (n at : ℕ) (p : Path) (c : ℕ) → Standing s n at → ascends p (entries_at s n at) ≡ true
      → at + length (encode (entries_at s n at)) ≡ r.used → c + charge_sum r.entry_size (entries_at s n at) ≡ r.charge
      → run s r n at p c ≡ true
  runs zero at p c st up u v =
      let e : at ≡ r.used = omega arith in
      let f : c ≡ r.charge = omega arith in
      rw (eq-eqb at r.used e, eq-eqb c r.charge f) (ap (λ (i : ℕ). zeros (drop i s)) e ∙ z)
  runs (suc n) at p c st up u v =
      let w = stands s n at st in
      let a = and_true (before p (key_at s at)) (ascends (key_at s at) (entries_at s n (entry_end s at))) up in
      let kl = w.key_length in
      let bl = w.body_length in
      let en = w.end in
      let la = length-append (entry_bytes (key_at s at) (entry_at s at)) (encode (entries_at s n (entry_end s at))) in
      let d : ℕ = c + charge_by r.entry_size (number_at s at 2) (number_at s (at + 4) 4) in
      rw (in_order_lem s at p (entry_ordered s n at p w a.0))
      (runs n (entry_end s at) (key_at s at) d w.next a.1 (omega arith) (omega arith))

table_passes : (s : Bytes) (r : Record) → is_table s r ≡ true → passes s r ≡ true
unfolding passes
table_passes s r h =
    let t : Table = table_in s r in
    let d = decoded s r h in
    let u : r.used ≡ length (encode t) = ap (λ (q : Record). q.used) d.rec in
    let c : r.charge ≡ charge_sum r.entry_size t = ap (λ (q : Record). q.charge) d.rec in
    let pad : Bytes = replicate (length s - length (encode t)) 0 in
    let b : drop (length (encode t)) s ≡ pad = ap (drop (length (encode t))) d.bytes ∙ drop-append_seam (encode t) pad in
    let z : zeros (drop r.used s) ≡ true
    = ap (λ (n : ℕ). zeros (drop n s)) u ∙ ap zeros b ∙ zeros_of (length s - length (encode t)) in
    rw d.size (runs s r z r.count 0 [] 0 (table_stands s r h) d.ascending (omega arith) (omega arith))

-- both ways, the two tests are one
agree : (a b : Bool) → (a ≡ true → b ≡ true) → (b ≡ true → a ≡ true) → a ≡ b
agree true true f g = refl
agree true false f g = sym (f refl)
agree false true f g = g refl
agree false false f g = refl

pub pass_is_table : (s : Bytes) → ((i : ℕ) → get_or s i 0 < 256) → (r : Record) → passes s r ≡ is_table s r
pass_is_table s bs r = agree (passes s r) (is_table s r) (pass_table s (bytes_of s bs) r) (table_passes s r)
