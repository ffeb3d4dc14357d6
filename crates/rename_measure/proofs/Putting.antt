-- Entries with ascending keys put in one pass that measures: what is put so far, with those still to put, is the whole.
use mathlib.Core.Path.{◌≡◌, refl, ap, sym, subst, ◌∙◌}
use mathlib.Core.List.{[], ◌∷◌}
use mathlib.Core.Bool.{true}
use Prim.Native.Nat.{ℕ, ◌+◌, ◌≤◌}
use native.Mathlib.Omega.{arith}
use lib.ListN.{length, replicate, length-replicate}
use Rattle.model.specs.Bytes.{Bytes, before}
use Rattle.model.specs.Path.{Path}
use Rattle.model.specs.Map.{ascends, put, puts}
use Rattle.model.specs.Tree.{Entry, own, Table}
use Rattle.model.specs.Table.{body_of, encode, charge_sum, record_of, entries_at, table_in, is_table}
use Rattle.model.specs.declared.Record.{Record}
use Rattle.model.proofs.Orders.{and_true}
use Rattle.model.proofs.Maps.{ascends_is}
use Rattle.model.proofs.Codec.{decoded, bounds}
use Rattle.table_entries.specs.declared.Place.{Place}
use Rattle.table_entries.proofs.Cuts.{charge_append}
use Rattle.table_measure.specs.Measure.{Measured, Counts}
use Rattle.table_measure.specs.Into.{into}
use Rattle.table_measure.proofs.Passes.{bytes_append, put_bytes}
use Rattle.table_measure.proofs.Intos.{into_puts}
use Rattle.table_insert.proofs.Inserts.{measure_first}

-- an entry with a body of n bytes
abbrev pub some_entry : ℕ → Entry
some_entry n = own 0 (replicate n 0)

pub as_long : (n : ℕ) → length (body_of (some_entry n)) ≡ n
as_long n = length-replicate n 0

-- the table's entry size is small
pub size_small : (s : Bytes) (r : Record) → is_table s r ≡ true → r.entry_size ≤ 4096
size_small s r h = (decoded s r h).size_most

-- a is the record of t; with `rest` put too, whose keys are behind those put, t is the whole
pub record Putting (s : Bytes) (E : ℕ) (whole rest : Table) (q : Place) (a : Record) (most : ℕ) : Type 0 where
  pub t : Table
  pub k : Path
  pub up : ascends k rest ≡ true
  pub all : into rest t ≡ whole
  pub size : a.entry_size ≡ E
  pub measured : Measured s t k q.left q.at a.entry_size a
  pub within : a.used ≤ most

pub putting_begun : (s : Bytes) (r : Record) (c : Table) (q : Place) → is_table s r ≡ true → ascends [] c ≡ true → q
    ≡ record { at = 0; left = r.count }
    → Putting s r.entry_size (puts c (table_in s r)) c q r 16777216
putting_begun s r c q h u e =
    let d = decoded s r h in
    let l = d.length_most in
    let o : r.used ≡ length (encode (table_in s r)) = ap (λ (x : Record). x.used) d.rec in
    let f = d.fits in
    let a = ascends_is [] c u in
    let b = ascends_is [] (table_in s r) d.ascending in
    record {
      t = table_in s r;
      k = [];
      up = u;
      all = into_puts c (table_in s r) a.1 b.1;
      size = refl;
      measured = measure_first s r q h e;
      within = omega arith;
    }

module _ (s : Bytes) (E : ℕ) (whole : Table) (q : Place) (a : Record) (most : ℕ) where
  -- one entry more can be counted
  pub putting_counts : (rest : Table) → Putting s E whole rest q a most → E ≤ 4096 → most ≤ 1000000000000000 → Counts s q.left q.at a
  putting_counts rest m z b =
      let x = m.measured.passed in
      let F : ℕ = a.entry_size in
      let y : F ≤ 4096 = (let f = m.size in omega arith) in
      let g = bounds F m.t y in
      let g0 = g.0 in
      let g1 = g.1 in
      let ar = m.measured.agrees in
      let u : a.used ≡ length (encode m.t) = ap (λ (o : Record). o.used) ar in
      let n : a.count ≡ length m.t = ap (λ (o : Record). o.count) ar in
      let c : a.charge ≡ charge_sum F m.t = ap (λ (o : Record). o.charge) ar in
      let bb = ap (λ (o : Table). length (encode o)) x.whole ∙ bytes_append 0 x.done (entries_at s q.left q.at) in
      let cb = ap (charge_sum F) x.whole ∙ charge_append F x.done (entries_at s q.left q.at) in
      let w = m.within in
      record {
        stand = x.stand;
        bytes = omega arith;
        charged = omega arith;
        used_small = omega arith;
        count_small = omega arith;
        charge_small = omega arith;
        size_small = y;
      }

  -- all is put
  pub putting_over : Putting s E whole [] q a most → record { used = a.used; count = a.count; charge = a.charge; entry_size = E }
      ≡ record_of E whole
  putting_over m =
      ap (λ (o : Record). record { used = o.used; count = o.count; charge = o.charge; entry_size = E })
      (m.measured.agrees ∙ ap (λ (o : ℕ). record_of o m.t) m.size ∙ ap (record_of E) m.all)

  -- the next entry is put, with a body as long as the code has it
  pub putting_on : (key : Path) (v : Entry) (rest : Table) (n : ℕ) → Putting s E whole ((key, v) ∷ rest) q a most → length (body_of v) ≡ n
      → (q' : Place) (a' : Record) (more : ℕ) → most + 24 + length key + n ≤ more
      → ((t : Table) (k : Path) (u : Entry) → Measured s t k q.left q.at a.entry_size a → before k key ≡ true → length (body_of u) ≡ n
      → Measured s (put key u t) key q'.left q'.at a.entry_size a')
      → Putting s E whole rest q' a' more
  putting_on key v rest n m b q' a' more l f =
      let x = and_true (before m.k key) (ascends key rest) m.up in
      let j = f m.t m.k v m.measured x.0 b in
      let same : a'.entry_size ≡ a.entry_size = ap (λ (o : Record). o.entry_size) j.agrees in
      let u' : a'.used ≡ length (encode (put key v m.t)) = ap (λ (o : Record). o.used) j.agrees in
      let u : a.used ≡ length (encode m.t) = ap (λ (o : Record). o.used) m.measured.agrees in
      let g = put_bytes key v m.t in
      let w = m.within in
      record {
        t = put key v m.t;
        k = key;
        up = x.1;
        all = m.all;
        size = same ∙ m.size;
        measured = subst (λ (F : ℕ). Measured s (put key v m.t) key q'.left q'.at F a') (sym same) j;
        within = omega arith;
      }
