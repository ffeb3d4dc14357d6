-- Directories put one after the other in one pass: what is put so far, with those still to put, is the whole.
use mathlib.Core.Path.{◌≡◌, refl, ap, ap₂, sym, subst, ◌∙◌}
use mathlib.Core.List.{List, [], ◌∷◌}
use mathlib.Core.Bool.{true}
use Prim.Native.Nat.{ℕ, ◌+◌, ◌*◌, ◌≤◌}
use native.Mathlib.Omega.{arith}
use lib.ListN.{length, take, drop, length-take}
use Rattle.model.specs.Bytes.{Bytes, before}
use Rattle.model.specs.Path.{Path, is_path}
use Rattle.model.specs.Map.{ascends, put, puts, each}
use Rattle.model.specs.Tree.{Entry, Table}
use Rattle.model.specs.Table.{body_of, encode, charge_sum, record_of, entries_at, table_in, is_table}
use Rattle.model.specs.declared.Record.{Record}
use Rattle.model.proofs.Orders.{and_true}
use Rattle.model.proofs.Maps.{ascends_is}
use Rattle.model.proofs.Codec.{decoded, bounds, path_short}
use Rattle.table_entries.specs.declared.Place.{Place}
use Rattle.table_entries.proofs.Cuts.{charge_append}
use Rattle.table_measure.specs.Measure.{Measured, Counts}
use Rattle.table_measure.specs.Into.{into}
use Rattle.table_measure.proofs.Passes.{bytes_append, put_bytes}
use Rattle.table_measure.proofs.Intos.{into_puts}
use Rattle.table_insert.proofs.Inserts.{measure_first}
use Rattle.base_paths.specs.Dirs.{climbs, prefixes}
use Rattle.table_dirs.proofs.Climbs.{climb_ascends}

-- the prefixes of p that end at es, each with v
abbrev pub dirs : Entry → Path → List ℕ → Table
dirs v p es = each v (prefixes p es)

-- with t, whose keys are put up to k, and the directories that are left, the whole is what all of them make of T
pub record Going (v : Entry) (p : Path) (es : List ℕ) (T t : Table) (k : Path) (i : ℕ) : Type 0 where
  pub up : ascends k (dirs v p (drop i es)) ≡ true
  pub whole : into (dirs v p (drop i es)) t ≡ puts (dirs v p es) T

pub going_begun : (v : Entry) (p : Path) (es : List ℕ) (s : Bytes) (r : Record) → is_table s r ≡ true → climbs 0 (length p) es ≡ true
    → Going v p es (table_in s r) (table_in s r) [] 0
going_begun v p es s r h c =
    let u = climb_ascends v p 0 es c in
    let a = ascends_is [] (dirs v p es) u in
    let b = ascends_is [] (table_in s r) (decoded s r h).ascending in
    record { up = u; whole = into_puts (dirs v p es) (table_in s r) a.1 b.1 }

module _ (v : Entry) (p : Path) (es : List ℕ) (T t : Table) (k : Path) (i e : ℕ) (g : Going v p es T t k i) (n : drop i es ≡ e ∷ drop (i + 1) es) where
  pub going_first : ascends k ((take e p, v) ∷ dirs v p (drop (i + 1) es)) ≡ true
  going_first = ap (λ (x : List ℕ). ascends k (dirs v p x)) (sym n) ∙ g.up

  pub going_above : before k (take e p) ≡ true
  going_above = (and_true (before k (take e p)) (ascends (take e p) (dirs v p (drop (i + 1) es))) going_first).0

  pub going_whole : into ((take e p, v) ∷ dirs v p (drop (i + 1) es)) t ≡ puts (dirs v p es) T
  going_whole = ap (λ (x : List ℕ). into (dirs v p x) t) (sym n) ∙ g.whole

  pub going_on : Going v p es T (put (take e p) v t) (take e p) (i + 1)
  going_on = record {
    up = (and_true (before k (take e p)) (ascends (take e p) (dirs v p (drop (i + 1) es))) going_first).1;
    whole = going_whole;
  }

pub going_over : (v : Entry) (p : Path) (es : List ℕ) (T t : Table) (k : Path) (i : ℕ) → Going v p es T t k i → drop i es ≡ [] → t ≡ puts (dirs v p es) T
going_over v p es T t k i g n = sym (ap (λ (x : List ℕ). into (dirs v p x) t) n) ∙ g.whole

-- the pass that measures, with i directories put: a is the record so far
pub record Measuring (v : Entry) (s : Bytes) (p : Path) (es : List ℕ) (r : Record) (i : ℕ) (q : Place) (a : Record) : Type 0 where
  pub t : Table
  pub k : Path
  pub going : Going v p es (table_in s r) t k i
  pub size : a.entry_size ≡ r.entry_size
  pub measured : Measured s t k q.left q.at a.entry_size a
  pub within : a.used ≤ 16777216 + 1024 * i

module _ (v : Entry) (s : Bytes) (p : Path) (es : List ℕ) (r : Record) where
  pub measuring_begun : (q : Place) → is_table s r ≡ true → climbs 0 (length p) es ≡ true → q ≡ record { at = 0; left = r.count }
      → Measuring v s p es r 0 q r
  measuring_begun q h c e =
      let d = decoded s r h in
      let l = d.length_most in
      let u : r.used ≡ length (encode (table_in s r)) = ap (λ (x : Record). x.used) d.rec in
      let f = d.fits in
      record {
        t = table_in s r;
        k = [];
        going = going_begun v p es s r h c;
        size = refl;
        measured = measure_first s r q h e;
        within = omega arith;
      }

  module _ (i : ℕ) (q : Place) (a : Record) (m : Measuring v s p es r i q a) where
    -- one directory more can be counted
    pub measuring_counts : is_table s r ≡ true → i ≤ 32 → Counts s q.left q.at a
    measuring_counts h b =
        let x = m.measured.passed in
        let E : ℕ = a.entry_size in
        let z = (decoded s r h).size_most in
        let y : E ≤ 4096 = (let f = m.size in omega arith) in
        let g = bounds E m.t y in
        let g0 = g.0 in
        let g1 = g.1 in
        let ar = m.measured.agrees in
        let u : a.used ≡ length (encode m.t) = ap (λ (o : Record). o.used) ar in
        let n : a.count ≡ length m.t = ap (λ (o : Record). o.count) ar in
        let c : a.charge ≡ charge_sum E m.t = ap (λ (o : Record). o.charge) ar in
        let bb = ap (λ (o : Table). length (encode o)) x.whole ∙ bytes_append 0 x.done (entries_at s q.left q.at) in
        let cb = ap (charge_sum E) x.whole ∙ charge_append E x.done (entries_at s q.left q.at) in
        let w = m.within in
        record {
          stand = x.stand;
          bytes = omega arith;
          charged = omega arith;
          used_small = omega arith;
          count_small = omega arith;
          charge_small = omega arith;
          size_small = y;
        }

    pub measuring_over : drop i es ≡ []
        → record { used = a.used; count = a.count; charge = a.charge; entry_size = r.entry_size } ≡ record_of r.entry_size (puts (dirs v p es) (table_in s r))
    measuring_over n =
        let e = m.measured.agrees ∙ ap₂ record_of m.size (going_over v p es (table_in s r) m.t m.k i m.going n) in
        ap (λ (o : Record). record { used = o.used; count = o.count; charge = o.charge; entry_size = r.entry_size }) e

    pub measuring_on : (e : ℕ) (q' : Place) (a' : Record) → is_path p ≡ true → body_of v ≡ [] → drop i es ≡ e ∷ drop (i + 1) es
        → ((t : Table) (k : Path) (u : Entry) → Measured s t k q.left q.at a.entry_size a → before k (take e p) ≡ true → length (body_of u) ≡ 0
        → Measured s (put (take e p) u t) (take e p) q'.left q'.at a.entry_size a')
        → Measuring v s p es r (i + 1) q' a'
    measuring_on e q' a' h b n f =
        let T = table_in s r in
        let j = f m.t m.k v m.measured (going_above v p es T m.t m.k i e m.going n) (ap length b) in
        let same : a'.entry_size ≡ a.entry_size = ap (λ (o : Record). o.entry_size) j.agrees in
        let u' : a'.used ≡ length (encode (put (take e p) v m.t)) = ap (λ (o : Record). o.used) j.agrees in
        let u : a.used ≡ length (encode m.t) = ap (λ (o : Record). o.used) m.measured.agrees in
        let g = put_bytes (take e p) v m.t in
        let l = length-take e p in
        let lp = path_short p h in
        let lb = ap length b in
        let w = m.within in
        record {
          t = put (take e p) v m.t;
          k = take e p;
          going = going_on v p es T m.t m.k i e m.going n;
          size = same ∙ m.size;
          measured = subst (λ (E : ℕ). Measured s (put (take e p) v m.t) (take e p) q'.left q'.at E a') (sym same) j;
          within = omega arith;
        }
