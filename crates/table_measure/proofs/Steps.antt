-- The steps of a pass: whether the entry at a place has a key, where the pass goes on, and the record then.
use mathlib.Core.Path.{◌≡◌, refl, ap, ap₂, sym, subst, ◌∙◌}
use mathlib.Core.List.{[], ◌∷◌}
use mathlib.Core.Bool.{Bool, true, false}
use Prim.Native.Nat.{ℕ, zero, suc, ◌+◌, ◌-◌, ◌<◌, ◌≤◌}
use native.Mathlib.Omega.{arith}
use lib.ListN.{length, length-append}
use Rattle.model.specs.Bytes.{Bytes, number_at, same, before}
use Rattle.model.specs.Path.{Path}
use Rattle.model.specs.Map.{put}
use Rattle.model.specs.Tree.{Entry, Table}
use Rattle.model.specs.Table.{body_of, entry_bytes, encode, body_charge, charge_sum, key_at, entry_at, entry_end, entries_at}
use Rattle.model.specs.declared.Record.{Record}
use Rattle.model.proofs.Orders.{bot}
use Rattle.model.proofs.Codec.{entry_length}
use Rattle.table_entries.specs.Place.{Sought, end_of}
use Rattle.table_entries.specs.declared.Place.{Place}
use Rattle.table_entries.specs.Cut.{up_to, since, unless_first, behind}
use Rattle.table_entries.proofs.Entries.{Stands, stands_here, first_entry}
use Rattle.table_entries.proofs.Cuts.{up_since, encode_append, charge_append}
use Rattle.table_measure.specs.Measure.{starts_at, added, replaced, Passed, Measured, Counts}
use Rattle.table_measure.proofs.Passes.{put_whole, put_on, added_is, replaced_is}

module _ (s : Bytes) (q : Path) (n at : ℕ) where
  pub key_test : 0 < n → (p : Bytes) (b : Bool) → p ≡ key_at s at → b ≡ same p q → b ≡ starts_at q (entries_at s n at)
  key_test h p b e f = f ∙ ap (λ (x : Bytes). same x q) e ∙ sym (ap (starts_at q) (first_entry s n at h))

  pub some_left : (b : Bool) → b ≡ starts_at q (entries_at s n at) → b ≡ true → 0 < n
  some_left b e t = go n (sym e ∙ t)
    where
      go : (n : ℕ) → starts_at q (entries_at s n at) ≡ true → 0 < n
      go zero h = absurd (bot (cc))
      go (suc m) h = omega arith

  -- its key is q: what is behind q is what is behind it
  pub gone_on : (b : Bool) → b ≡ starts_at q (entries_at s n at) → b ≡ true → entries_at s (n - 1) (entry_end s at) ≡ unless_first q (entries_at s n at)
  gone_on b e t =
      let f = first_entry s n at (some_left b e t) in
      let h : same (key_at s at) q ≡ true = sym (ap (starts_at q) f) ∙ sym e ∙ t in
      sym (ap (unless_first q) f ∙ rw h)

  pub same_key : (b : Bool) → b ≡ starts_at q (entries_at s n at) → b ≡ true → same (key_at s at) q ≡ true
  same_key b e t = sym (ap (starts_at q) (first_entry s n at (some_left b e t))) ∙ sym e ∙ t

pub stayed : (q : Path) (t : Table) (b : Bool) → b ≡ starts_at q t → b ≡ false → t ≡ unless_first q t
stayed q [] b e f = refl
stayed q (x ∷ xs) b e f = let h : same x.0 q ≡ false = sym e ∙ f in rw h

-- a search forward leaves the end of the entries where it is
pub sought_end : (s : Bytes) (q : Path) (n at m to : ℕ) → Sought s q n at m to → end_of s m to ≡ end_of s n at
sought_end s q n at m to f =
    let b : Table = entries_at s n at in
    let e = f.there in
    let g = ap (λ (t : Table). length (encode t)) f.are in
    let w = ap (λ (t : Table). length (encode t)) (up_since q b) in
    let x = ap length (encode_append (up_to q b) (since q b)) ∙ length-append (encode (up_to q b)) (encode (since q b)) in
    omega arith

-- what stands from q on is counted where all that is ahead is
module _ (s : Bytes) (q : Path) (n at m to : ℕ) (r : Record) (c : Counts s n at r) (f : Sought s q n at m to) (h : 0 < m) where
  st : Stands s (m - 1) to
  st = stands_here s m to h f.stand

  first : since q (entries_at s n at) ≡ (key_at s to, entry_at s to) ∷ entries_at s (m - 1) (entry_end s to)
  first = sym f.are ∙ first_entry s m to h

  pub old_fits : (old : ℕ) → old ≡ number_at s (to + 4) 4 → (old ≤ r.used) × (body_charge old ≤ r.charge)
  old_fits old e =
      let b : Table = entries_at s n at in
      let w = ap (λ (t : Table). length (encode t)) (up_since q b) in
      let x = ap length (encode_append (up_to q b) (since q b)) ∙ length-append (encode (up_to q b)) (encode (since q b)) in
      let y = ap (λ (t : Table). length (encode t)) first ∙ length-append (entry_bytes (key_at s to) (entry_at s to)) (encode (entries_at s (m - 1) (entry_end s to))) in
      let z = entry_length (key_at s to) (entry_at s to) in
      let g = st.body_length in
      let i = ap (charge_sum r.entry_size) (up_since q b) in
      let j = charge_append r.entry_size (up_to q b) (since q b) in
      let k = ap (charge_sum r.entry_size) first in
      let a = c.bytes in
      let d = c.charged in
      (omega arith, omega arith)

  pub head_fits : (to + 8 ≤ length s) × (length s ≤ 16777216)
  head_fits =
      let i = st.inside in
      let e = st.end in
      let l = entry_length (key_at s to) (entry_at s to) in
      (omega arith, f.stand.small)

-- the record after v is put at q, in both cases
module _ (s : Bytes) (t : Table) (k q : Path) (v : Entry) (n at m to E len : ℕ) (r : Record) (w : Measured s t k n at E r) (up : before k q ≡ true)
    (l : length (body_of v) ≡ len) (f : Sought s q n at m to) (b : Bool) (e : b ≡ starts_at q (entries_at s m to)) where
  abbrev ahead : Table
  ahead = entries_at s n at

  pub put_fresh : b ≡ false → (r' : Record) → r' ≡ added r (length q) len → Measured s (put q v t) q m to E r'
  put_fresh x r' z =
      let u : since q ahead ≡ behind q ahead = stayed q (since q ahead) b (e ∙ ap (starts_at q) f.are) x in
      record {
        passed = put_on s t k q v n at w.passed up m to f.stand (f.are ∙ u);
        agrees =
            z
            ∙ ap (λ (y : Record). added y (length q) len) w.agrees
            ∙ added_is E t w.passed.done ahead q v w.passed.whole (put_whole s t k q v n at w.passed up) len (sym u) l;
      }

  pub put_over : b ≡ true → (old : ℕ) → old ≡ number_at s (to + 4) 4 → (p : Place) (r' : Record) → p ≡ record { at = entry_end s to; left = m - 1 }
      → r' ≡ replaced r old len → Measured s (put q v t) q p.left p.at E r'
  put_over x old o p r' y z =
      let h = some_left s q m to b e x in
      let st = stands_here s m to h f.stand in
      let g : entries_at s (m - 1) (entry_end s to) ≡ behind q ahead = gone_on s q m to b e x ∙ ap (unless_first q) f.are in
      let u : since q ahead ≡ (key_at s to, entry_at s to) ∷ behind q ahead =
      sym f.are ∙ first_entry s m to h ∙ ap (λ (z : Table). (key_at s to, entry_at s to) ∷ z) g in
      record {
        passed =
            subst (λ (i : Place). Passed s (put q v t) q i.left i.at) (sym y)
            (put_on s t k q v n at w.passed up (m - 1) (entry_end s to) st.next g);
        agrees =
            z
            ∙ ap₂ (λ (i : Record) (j : ℕ). replaced i j len) w.agrees (o ∙ st.body_length)
            ∙ replaced_is E t w.passed.done ahead q v w.passed.whole (put_whole s t k q v n at w.passed up) len
            (key_at s to) (entry_at s to) (same_key s q m to b e x) u l;
      }
