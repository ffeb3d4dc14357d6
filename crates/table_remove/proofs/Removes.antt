-- One entry removed from a table: what stands before its key stays, then what stands behind it; the record is less by the entry between.
use mathlib.Core.Path.{◌≡◌, refl, ap, ap₂, sym, subst, ◌∙◌}
use mathlib.Core.List.{[], ◌∷◌, ◌++◌}
use mathlib.Core.Bool.{Bool, true, false}
use Prim.Native.Nat.{ℕ, ◌+◌, ◌-◌, ◌<◌, ◌≤◌}
use native.Mathlib.Omega.{arith}
use lib.ListN.{length, take, length-append}
use Rattle.model.specs.Bytes.{Bytes, number_at, same, before}
use Rattle.model.specs.Path.{Path}
use Rattle.model.specs.Map.{del}
use Rattle.model.specs.Tree.{Entry, Table}
use Rattle.model.specs.Table.{body_of, encode, charge_sum, record_of, key_at, entry_at, entries_at, table_in, is_table}
use Rattle.model.specs.declared.Record.{Record}
use Rattle.model.proofs.Orders.{Lt, Lt_irrefl, Lt_trans, Lt-≢, Cmp, cmp, same_no, same_refl, test, yea, nay}
use Rattle.model.proofs.Maps.{Above, Ascending, above_trans, ascends_is}
use Rattle.model.proofs.Codec.{decoded, entry_length, same_is}
use Rattle.base_fields.specs.Write.{overwritten}
use Rattle.base_fields.proofs.Common.{before_Lt, Lt_before}
use Rattle.base_fields.proofs.Writes.{take_overwritten}
use Rattle.table_charge.specs.Charge.{charge_by}
use Rattle.table_entries.specs.declared.Place.{Place}
use Rattle.table_entries.specs.Place.{Standing, Sought, end_of}
use Rattle.table_entries.specs.Cut.{up_to, since, unless_first, behind}
use Rattle.table_entries.proofs.Entries.{Stands, stands_here, first_entry, table_stands}
use Rattle.table_entries.proofs.Cuts.{up_since, charge_append}
use Rattle.table_measure.specs.Measure.{starts_at}
use Rattle.table_measure.proofs.Passes.{all_up, bytes_append, bytes_cons, charge_cons}
use Rattle.table_measure.proofs.Steps.{some_left, gone_on, same_key, stayed, sought_end}
use Rattle.table_write.specs.Merge.{Merged}
use Rattle.table_write.proofs.Merges.{stretch}
use Rattle.table_insert.proofs.Inserts.{rest_fits, same_used}
use Rattle.table_remove.specs.Remove.{lessened}

not_before : (x k : Path) → (Lt x k → ⊥) → before x k ≡ false
not_before x k n = elim (test (before x k)) [ yea a ↦ absurd (n (before_Lt x k a)) | nay a ↦ a ]

-- a path below all of them is not there
del_low : (k : Path) (t : Table) → Above k t → Ascending t → del k t ≡ t
del_low k [] h a = refl
del_low k (x ∷ xs) h a =
    rw (same_no k x.0 (Lt-≢ k x.0 h)) (ap (λ (l : Table). x ∷ l) (del_low k xs (above_trans k x.0 xs h a.0) a.1))

-- the whole without k: what stands before it, and what stands behind it
pub del_cut : (k : Path) (t : Table) → Ascending t → del k t ≡ up_to k t ++ behind k t
del_cut k [] a = refl
del_cut k (x ∷ xs) a =
    elim (cmp k x.0) [
      | Cmp.lt l w ↦
          rw (w, not_before x.0 k (λ m. Lt_irrefl k (Lt_trans k x.0 k l m)), same_no x.0 k (λ e. Lt-≢ k x.0 l (sym e)))
          (ap (λ (l : Table). x ∷ l) (del_low k xs (above_trans k x.0 xs l a.0) a.1))
      | Cmp.eq e w ↦
          let s : same x.0 k ≡ true = subst (λ (y : Path). same y k ≡ true) e (same_refl k) in
          rw (w, not_before x.0 k (λ m. Lt-≢ x.0 k m (sym e)), s) (del_low k xs (subst (λ (y : Path). Above y xs) (sym e) a.0) a.1)
      | Cmp.gt l w ↦ rw (w, Lt_before x.0 k l) (ap (λ (l : Table). x ∷ l) (del_cut k xs a.1))
    ]

-- whether the first entry has the key k
data First (k : Path) (t : Table) : Type 0 where
  stays : unless_first k t ≡ t → First k t
  goes : (x : Path) (e : Entry) → t ≡ (x, e) ∷ unless_first k t → First k t

first_of : (k : Path) (t : Table) → First k t
first_of k [] = stays refl
first_of k (x ∷ xs) = elim (test (same x.0 k)) [ yea a ↦ goes x.0 x.1 (rw a) | nay a ↦ stays (rw a) ]

abbrev bytes_of : Table → ℕ
bytes_of t = length (encode t)

behind_less : (k : Path) (t : Table) → bytes_of (behind k t) ≤ bytes_of (since k t)
behind_less k t =
    elim (first_of k (since k t)) [
      | stays f ↦ let b = ap bytes_of f in omega arith
      | goes x e f ↦ let b = ap bytes_of f ∙ bytes_cons 0 x e (behind k t) in omega arith
    ]

-- bytes, entries and charge of the table, and of the table without k
module _ (E : ℕ) (t : Table) (k : Path) where
  bytes_cut : bytes_of t ≡ bytes_of (up_to k t) + bytes_of (since k t)
  bytes_cut = ap bytes_of (sym (up_since k t)) ∙ bytes_append E (up_to k t) (since k t)

  count_cut : length t ≡ length (up_to k t) + length (since k t)
  count_cut = ap length (sym (up_since k t)) ∙ length-append (up_to k t) (since k t)

  charge_cut : charge_sum E t ≡ charge_sum E (up_to k t) + charge_sum E (since k t)
  charge_cut = ap (charge_sum E) (sym (up_since k t)) ∙ charge_append E (up_to k t) (since k t)

  module _ (up : Ascending t) where
    bytes_del : bytes_of (del k t) ≡ bytes_of (up_to k t) + bytes_of (behind k t)
    bytes_del = ap bytes_of (del_cut k t up) ∙ bytes_append E (up_to k t) (behind k t)

    count_del : length (del k t) ≡ length (up_to k t) + length (behind k t)
    count_del = ap length (del_cut k t up) ∙ length-append (up_to k t) (behind k t)

    charge_del : charge_sum E (del k t) ≡ charge_sum E (up_to k t) + charge_sum E (behind k t)
    charge_del = ap (charge_sum E) (del_cut k t up) ∙ charge_append E (up_to k t) (behind k t)

    same_record_lem : (u m c : ℕ) → u ≡ bytes_of (del k t) → m ≡ length (del k t) → c ≡ charge_sum E (del k t)
        → ◌≡◌ {A = Record} (record { used = u; count = m; charge = c; entry_size = E }) (record_of E (del k t))
    same_record_lem u m c a d e = λ i. record { used = a i; count = d i; charge = e i; entry_size = E }

    -- nothing stands at k
    none_less : since k t ≡ behind k t → record_of E t ≡ record_of E (del k t)
    none_less f = sym (ap (record_of E) (del_cut k t up ∙ ap (λ (l : Table). up_to k t ++ l) (sym f) ∙ up_since k t))

  -- the entry e stands there
  module _ (x : Path) (e : Entry) (key : x ≡ k) (f : since k t ≡ (x, e) ∷ behind k t) where
    held : (24 + length k + length (body_of e) ≤ bytes_of t) × (1 ≤ length t) × (charge_by E (length k) (length (body_of e)) ≤ charge_sum E t)
    held =
        let l = ap length key in
        let b = ap bytes_of f ∙ bytes_cons E x e (behind k t) in
        let m = ap length f in
        let c = ap (charge_sum E) f ∙ charge_cons E x e (behind k t) in
        let b1 = bytes_cut in
        let m1 = count_cut in
        let c1 = charge_cut in
        (omega arith, omega arith, omega arith)

    one_less : Ascending t → lessened (record_of E t) (length k) (length (body_of e)) ≡ record_of E (del k t)
    one_less up =
        let l = ap length key in
        let b = ap bytes_of f ∙ bytes_cons E x e (behind k t) in
        let m = ap length f in
        let c = ap (charge_sum E) f ∙ charge_cons E x e (behind k t) in
        let b1 = bytes_cut in
        let m1 = count_cut in
        let c1 = charge_cut in
        let b2 = bytes_del up in
        let m2 = count_del up in
        let c2 = charge_del up in
        same_record_lem up _ _ _ (omega arith) (omega arith) (omega arith)

table_ascends : (s : Bytes) (r : Record) → is_table s r ≡ true → Ascending (table_in s r)
table_ascends s r h = (ascends_is [] (table_in s r) (decoded s r h).ascending).1

-- the record without k, by the place where the search for k ends and whether the entry there has the key
module _ (s : Bytes) (r : Record) (k : Path) (left at : ℕ) (h : is_table s r ≡ true) (f : Sought s k r.count 0 left at)
    (b : Bool) (is : b ≡ starts_at k (entries_at s left at)) where
  abbrev all : Table
  all = table_in s r

  pub not_there : b ≡ false → r ≡ record_of r.entry_size (del k all)
  not_there out =
      let e : since k all ≡ behind k all = stayed k (since k all) b (is ∙ ap (starts_at k) f.are) out in
      (decoded s r h).rec ∙ none_less r.entry_size all k (table_ascends s r h) e

  module _ (hit : b ≡ true) where
    some_entry : 0 < left
    some_entry = some_left s k left at b is hit

    there : Stands s (left - 1) at
    there = stands_here s left at some_entry f.stand

    key_there : key_at s at ≡ k
    key_there = same_is (key_at s at) k (same_key s k left at b is hit)

    from_there : since k all ≡ (key_at s at, entry_at s at) ∷ behind k all
    from_there =
        sym f.are
        ∙ first_entry s left at some_entry
        ∙ ap (λ (t : Table). (key_at s at, entry_at s at) ∷ t) (gone_on s k left at b is hit ∙ ap (unless_first k) f.are)

    pub head_fits : at + 8 ≤ length s
    head_fits =
        let i = there.inside in
        let e = there.end in
        let l = entry_length (key_at s at) (entry_at s at) in
        omega arith

    module _ (m : ℕ) (body : m ≡ number_at s (at + 4) 4) where
      is_body : m ≡ length (body_of (entry_at s at))
      is_body = body ∙ there.body_length

      -- the entry's bytes and charge are in the record's
      pub in_record : ((r.entry_size ≤ 4096) × (length k ≤ 16777216) × (m ≤ 16777216))
          × ((24 + length k + m ≤ r.used) × (1 ≤ r.count) × (charge_by r.entry_size (length k) m ≤ r.charge))
      in_record =
          let c = held r.entry_size all k (key_at s at) (entry_at s at) key_there from_there in
          let e = (decoded s r h).rec in
          let u : r.used ≡ bytes_of all = ap (λ (q : Record). q.used) e in
          let d = (decoded s r h).fits in
          let i = is_body in
          let g : (24 + length k + m ≤ r.used) × (1 ≤ r.count) × (charge_by r.entry_size (length k) m ≤ r.charge) =
          subst (λ (q : Record). (24 + length k + m ≤ q.used) × (1 ≤ q.count) × (charge_by r.entry_size (length k) m ≤ q.charge)) (sym e)
          (subst
          (λ (n : ℕ). (24 + length k + n ≤ bytes_of all) × (1 ≤ length all) × (charge_by r.entry_size (length k) n ≤ charge_sum r.entry_size all))
          (sym is_body) c) in
          let g0 = g.0 in
          let d = decoded s r h in
          let S = d.length_most in
          ((d.size_most, omega arith, omega arith), g)

      pub taken_out : (q : Record) → q ≡ lessened r (length k) m → q ≡ record_of r.entry_size (del k all)
      taken_out q e =
          e
          ∙ ap₂ (λ (x : Record) (n : ℕ). lessened x (length k) n) (decoded s r h).rec is_body
          ∙ one_less r.entry_size all k (key_at s at) (entry_at s at) key_there from_there (table_ascends s r h)

-- a search from the first entry on is one of all
pub sought_all : (s : Bytes) (r : Record) (k : Path) (first found : Place) → first ≡ record { at = 0; left = r.count }
    → Sought s k first.left first.at found.left found.at → Sought s k r.count 0 found.left found.at
sought_all s r k first found begin f = subst (λ (p : Place). Sought s k p.left p.at found.left found.at) begin f

-- the places that `remove` has: the first entry, the first that is not before k, and the one behind k
module _ (s : Bytes) (r : Record) (k : Path) (first found next : Place) (h : is_table s r ≡ true) (begin : first ≡ record { at = 0; left = r.count })
    (search-from : Sought s k first.left first.at found.left found.at) (stand : Standing s next.left next.at)
    (on : entries_at s next.left next.at ≡ unless_first k (entries_at s found.left found.at))
    (end : end_of s next.left next.at ≡ end_of s found.left found.at) where
  abbrev t : Table
  t = table_in s r

  sought : Sought s k r.count 0 found.left found.at
  sought = sought_all s r k first found begin search-from

  ahead : entries_at s next.left next.at ≡ behind k t
  ahead = on ∙ ap (unless_first k) sought.are

  ascending : Ascending t
  ascending = table_ascends s r h

  whole_end : end_of s next.left next.at ≡ end_of s r.count 0
  whole_end = end ∙ sought_end s k r.count 0 found.left found.at sought

  pub used_is : r.used ≡ end_of s next.left next.at
  used_is = same_used s r next.left next.at h whole_end

  del_fits : bytes_of (del k t) ≤ length s
  del_fits =
      let a = bytes_cut 0 t k in
      let b = bytes_del 0 t k ascending in
      let l = behind_less k t in
      let f = (decoded s r h).fits in
      omega arith

  -- what is before k is copied into the work buffer w
  module _ (w w₁ : Bytes) (long : length s ≤ length w) (copied : w₁ ≡ overwritten w 0 (take found.at s)) where
    front : take found.at w₁ ≡ encode (up_to k t)
    front =
        let u : Bytes = encode (up_to k t) in
        let there : found.at ≡ 0 + length u = sought.there in
        let a = bytes_cut 0 t k in
        let f = (decoded s r h).fits in
        let z : found.at - 0 ≡ found.at = omega arith in
        let e : w₁ ≡ overwritten w 0 u = copied ∙ sym (ap (λ (n : ℕ). overwritten w 0 (take n s)) z) ∙ ap (overwritten w 0) (stretch s k r.count 0 found.at (table_stands s r h) there) in
        ap₂ take there e ∙ take_overwritten w 0 u (omega arith)

    pub merged : Merged s w₁ (del k t) k next.left next.at found.at
    merged =
        let there : found.at ≡ length (encode (up_to k t)) = let e = sought.there in omega arith in
        record {
          passed = record {
            stand = stand;
            done = up_to k t;
            whole = del_cut k t ascending ∙ ap (λ (l : Table). up_to k t ++ l) (sym ahead);
            low = λ q b. all_up k q t b;
          };
          front = front;
          size = there;
        }

    -- all that `finish` writes fits
    pub fits_back : ((next.at ≤ r.used) × (r.used ≤ length s)) × (found.at + (r.used - next.at) ≤ length s)
    fits_back = rest_fits s w₁ r (del k t) k next.left next.at found.at h merged whole_end del_fits
