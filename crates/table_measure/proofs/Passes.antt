-- Entries put one behind the other, with ascending keys: what is passed stays as it is, and the record changes by the entry put.
use mathlib.Core.Path.{◌≡◌, refl, ap, sym, ◌∙◌}
use mathlib.Core.List.{[], ◌∷◌, ◌++◌, append_assoc}
use mathlib.Core.Bool.{Bool, true}
use Prim.Native.Nat.{ℕ, ◌+◌, ◌≤◌}
use native.Mathlib.Omega.{arith}
use lib.ListN.{length, length-append}
use Rattle.model.specs.Bytes.{Bytes, every, same, before}
use Rattle.model.specs.Path.{Path}
use Rattle.model.specs.Map.{put}
use Rattle.model.specs.Tree.{Entry, Table}
use Rattle.model.specs.Table.{body_of, entry_bytes, encode, charge_sum, record_of, entries_at, table_in, is_table}
use Rattle.model.specs.declared.Record.{Record}
use Rattle.model.proofs.Orders.{Lt_irrefl, Lt_trans, Lt-≢, Cmp, cmp, test, yea, nay, and_true}
use Rattle.model.proofs.Codec.{decoded, entry_length, same_is}
use Rattle.base_fields.proofs.Common.{before_Lt, Lt_before}
use Rattle.table_charge.specs.Charge.{charge_by}
use Rattle.table_charge.proofs.Charges.{charge_by_lem}
use Rattle.table_entries.specs.Place.{Standing}
use Rattle.table_entries.specs.Cut.{up_to, since, behind}
use Rattle.table_entries.proofs.Entries.{table_stands}
use Rattle.table_entries.proofs.Cuts.{up_since, put_cut, encode_append, charge_append}
use Rattle.table_measure.specs.Measure.{added, replaced, Passed, Measured}

abbrev pub all_before : Path → Table → Bool
all_before q t = every (λ x. before x.0 q) t

pub before_trans : (a b c : Path) → before a b ≡ true → before b c ≡ true → before a c ≡ true
before_trans a b c h g = Lt_before a c (Lt_trans a b c (before_Lt a b h) (before_Lt b c g))

all_append : (q : Path) (a b : Table) → all_before q a ≡ true → all_before q b ≡ true → all_before q (a ++ b) ≡ true
all_append q [] b h g = g
all_append q (x ∷ xs) b h g = let e = and_true (before x.0 q) (all_before q xs) h in rw e.0 (all_append q xs b e.1 g)

pub all_up : (k q : Path) (t : Table) → before k q ≡ true → all_before q (up_to k t) ≡ true
all_up k q [] h = refl
all_up k q (x ∷ xs) h =
    elim (test (before x.0 k)) [ yea a ↦ rw (a, before_trans x.0 k q a h) (all_up k q xs h) | nay a ↦ rw a ]

-- what is before q stays before what is put at q
pub put_passed : (q : Path) (v : Entry) (a b : Table) → all_before q a ≡ true → put q v (a ++ b) ≡ a ++ put q v b
put_passed q v [] b h = refl
put_passed q v (x ∷ xs) b h =
    let e = and_true (before x.0 q) (all_before q xs) h in
    let l = before_Lt x.0 q e.0 in
    elim (cmp q x.0) [
      | Cmp.gt m w ↦ rw w (ap (λ (l : Table). x ∷ l) (put_passed q v xs b e.1))
      | Cmp.eq f w ↦ absurd (Lt-≢ x.0 q l (sym f))
      | Cmp.lt m w ↦ absurd (Lt_irrefl q (Lt_trans q x.0 q m l))
    ]

-- a pass begins before the first entry
pub begun : (s : Bytes) (r : Record) → is_table s r ≡ true → Passed s (table_in s r) [] r.count 0
begun s r h = record { stand = table_stands s r h; done = []; whole = refl; low = λ q b. refl }

pub begun_done : (s : Bytes) (r : Record) (h : is_table s r ≡ true) → (begun s r h).done ≡ []
unfolding begun
begun_done s r h = refl

pub measure_begun : (s : Bytes) (r : Record) → is_table s r ≡ true → Measured s (table_in s r) [] r.count 0 r.entry_size r
measure_begun s r h = record { passed = begun s r h; agrees = (decoded s r h).rec }

-- what is passed once v is put at q: what was passed, what stands up to q, and the entry
abbrev pub beyond : Table → Path → Entry → Table → Table
beyond done q v b = done ++ (up_to q b ++ ((q, v) ∷ []))

module _ (s : Bytes) (t : Table) (k q : Path) (v : Entry) (left at : ℕ) (p : Passed s t k left at) (up : before k q ≡ true) where
  abbrev ahead : Table
  ahead = entries_at s left at

  abbrev done : Table
  done = p.done

  pub put_whole : put q v t ≡ done ++ put q v ahead
  put_whole = ap (put q v) p.whole ∙ put_passed q v done ahead (p.low q up)

  -- the whole is then what is passed, and what is behind q
  pub put_parts : put q v t ≡ beyond done q v ahead ++ behind q ahead
  put_parts =
      put_whole
      ∙ ap (λ (l : Table). done ++ l) (put_cut q v ahead)
      ∙ ap (λ (l : Table). done ++ l) (sym (append_assoc (up_to q ahead) ((q, v) ∷ []) (behind q ahead)))
      ∙ sym (append_assoc done (up_to q ahead ++ ((q, v) ∷ [])) (behind q ahead))

  pub low_on : (j : Path) → before q j ≡ true → all_before j (beyond done q v ahead) ≡ true
  low_on j b =
      all_append j done (up_to q ahead ++ ((q, v) ∷ [])) (p.low j (before_trans k q j up b))
      (all_append j (up_to q ahead) ((q, v) ∷ []) (all_up q j ahead b) (rw b))

  module _ (left' at' : ℕ) (stand : Standing s left' at') (are : entries_at s left' at' ≡ behind q ahead) where
    pub put_on : Passed s (put q v t) q left' at'
    put_on = record {
      stand = stand;
      done = beyond done q v ahead;
      whole = put_parts ∙ ap (λ (l : Table). beyond done q v ahead ++ l) (sym are);
      low = low_on;
    }

    pub put_on_done : put_on.done ≡ beyond done q v ahead
    unfolding put_on
    put_on_done = refl

-- a table's bytes, entries and charge, by its parts
module _ (E : ℕ) where
  abbrev bytes_of : Table → ℕ
  bytes_of t = length (encode t)

  pub bytes_append : (a b : Table) → bytes_of (a ++ b) ≡ bytes_of a + bytes_of b
  bytes_append a b = ap length (encode_append a b) ∙ length-append (encode a) (encode b)

  pub bytes_cons : (k : Path) (e : Entry) (t : Table) → bytes_of ((k, e) ∷ t) ≡ 24 + length k + length (body_of e) + bytes_of t
  bytes_cons k e t = length-append (entry_bytes k e) (encode t) ∙ ap (λ (n : ℕ). n + bytes_of t) (entry_length k e)

  pub charge_cons : (k : Path) (e : Entry) (t : Table) → charge_sum E ((k, e) ∷ t) ≡ charge_by E (length k) (length (body_of e)) + charge_sum E t
  charge_cons k e t = ap (λ (n : ℕ). n + charge_sum E t) (charge_by_lem E k e)

  -- v put at q, in the place of what `since` begins with, if that has the key q
  module _ (t done b : Table) (q : Path) (v : Entry) (w : t ≡ done ++ b) (p : put q v t ≡ done ++ put q v b) where
    cut : t ≡ done ++ (up_to q b ++ since q b)
    cut = w ∙ ap (λ (l : Table). done ++ l) (sym (up_since q b))

    put_there : put q v t ≡ done ++ (up_to q b ++ ((q, v) ∷ behind q b))
    put_there = p ∙ ap (λ (l : Table). done ++ l) (put_cut q v b)

    bytes_cut : bytes_of t ≡ bytes_of done + (bytes_of (up_to q b) + bytes_of (since q b))
    bytes_cut = ap bytes_of cut ∙ bytes_append done (up_to q b ++ since q b) ∙ ap (λ (n : ℕ). bytes_of done + n) (bytes_append (up_to q b) (since q b))

    bytes_put : bytes_of (put q v t) ≡ bytes_of done + (bytes_of (up_to q b) + (24 + length q + length (body_of v) + bytes_of (behind q b)))
    bytes_put =
        ap bytes_of put_there
        ∙ bytes_append done (up_to q b ++ ((q, v) ∷ behind q b))
        ∙ ap (λ (n : ℕ). bytes_of done + n)
        (bytes_append (up_to q b) ((q, v) ∷ behind q b) ∙ ap (λ (n : ℕ). bytes_of (up_to q b) + n) (bytes_cons q v (behind q b)))

    count_cut : length t ≡ length done + (length (up_to q b) + length (since q b))
    count_cut = ap length cut ∙ length-append done (up_to q b ++ since q b) ∙ ap (λ (n : ℕ). length done + n) (length-append (up_to q b) (since q b))

    count_put : length (put q v t) ≡ length done + (length (up_to q b) + (1 + length (behind q b)))
    count_put =
        ap length put_there
        ∙ length-append done (up_to q b ++ ((q, v) ∷ behind q b))
        ∙ ap (λ (n : ℕ). length done + n) (length-append (up_to q b) ((q, v) ∷ behind q b) ∙ ap (λ (n : ℕ). length (up_to q b) + n) (omega arith))

    charge_cut : charge_sum E t ≡ charge_sum E done + (charge_sum E (up_to q b) + charge_sum E (since q b))
    charge_cut =
        ap (charge_sum E) cut ∙ charge_append E done (up_to q b ++ since q b) ∙ ap (λ (n : ℕ). charge_sum E done + n) (charge_append E (up_to q b) (since q b))

    charge_put : charge_sum E (put q v t)
        ≡ charge_sum E done + (charge_sum E (up_to q b) + (charge_by E (length q) (length (body_of v)) + charge_sum E (behind q b)))
    charge_put =
        ap (charge_sum E) put_there
        ∙ charge_append E done (up_to q b ++ ((q, v) ∷ behind q b))
        ∙ ap (λ (n : ℕ). charge_sum E done + n)
        (charge_append E (up_to q b) ((q, v) ∷ behind q b) ∙ ap (λ (n : ℕ). charge_sum E (up_to q b) + n) (charge_cons q v (behind q b)))

    same_record_lem : (u n c : ℕ) → u ≡ bytes_of (put q v t) → n ≡ length (put q v t) → c ≡ charge_sum E (put q v t)
        → ◌≡◌ {A = Record} (record { used = u; count = n; charge = c; entry_size = E }) (record_of E (put q v t))
    same_record_lem u n c a d e = λ i. record { used = a i; count = d i; charge = e i; entry_size = E }

    -- nothing stood at q
    pub added_is : (m : ℕ) → behind q b ≡ since q b → length (body_of v) ≡ m → added (record_of E t) (length q) m ≡ record_of E (put q v t)
    added_is m f l =
        let bb = ap bytes_of f in
        let nn = ap length f in
        let cc' = ap (charge_sum E) f in
        let b1 = bytes_cut in
        let b2 = bytes_put in
        let n1 = count_cut in
        let n2 = count_put in
        let c1 = charge_cut in
        let c2 = charge_put in
        same_record_lem _ _ _ (omega arith) (omega arith) (omega arith)

    -- the entry e stood there
    pub replaced_is : (m : ℕ) (x : Path) (e : Entry) → same x q ≡ true → since q b ≡ (x, e) ∷ behind q b → length (body_of v) ≡ m
        → replaced (record_of E t) (length (body_of e)) m ≡ record_of E (put q v t)
    replaced_is m x e h f l =
        let k = ap length (same_is x q h) in
        let bb = ap bytes_of f ∙ bytes_cons x e (behind q b) in
        let nn = ap length f in
        let cc' = ap (charge_sum E) f ∙ charge_cons x e (behind q b) in
        let b1 = bytes_cut in
        let b2 = bytes_put in
        let n1 = count_cut in
        let n2 = count_put in
        let c1 = charge_cut in
        let c2 = charge_put in
        same_record_lem _ _ _ (omega arith) (omega arith) (omega arith)

    -- what is ahead is counted in the whole
    pub in_bytes : bytes_of (since q b) ≤ bytes_of t
    in_bytes = let h = bytes_cut in omega arith

    pub in_charge : charge_sum E (since q b) ≤ charge_sum E t
    in_charge = let h = charge_cut in omega arith

  -- another entry put at q in the place of v₀: only the body counts
  pub other_body : (q : Path) (v₀ v : Entry) (t : Table)
      → replaced (record_of E (put q v₀ t)) (length (body_of v₀)) (length (body_of v)) ≡ record_of E (put q v t)
  other_body q v₀ v t =
      let b0 = bytes_put t [] t q v₀ refl refl in
      let b1 = bytes_put t [] t q v refl refl in
      let n0 = count_put t [] t q v₀ refl refl in
      let n1 = count_put t [] t q v refl refl in
      let c0 = charge_put t [] t q v₀ refl refl in
      let c1 = charge_put t [] t q v refl refl in
      same_record_lem t [] t q v refl refl _ _ _ (omega arith) (omega arith) (omega arith)

-- an entry put makes a table longer by no more than its own bytes
pub put_bytes : (q : Path) (v : Entry) (t : Table) → length (encode (put q v t)) ≤ length (encode t) + (24 + length q + length (body_of v))
put_bytes q v [] = let l = bytes_cons 0 q v [] in omega arith
put_bytes q v (x ∷ xs) =
    let i = put_bytes q v xs in
    let a = bytes_cons 0 x.0 x.1 xs in
    elim (cmp q x.0) [
      | Cmp.lt m w ↦ let l = bytes_cons 0 q v (x ∷ xs) in rw w (omega arith)
      | Cmp.eq f w ↦ let l = bytes_cons 0 q v xs in rw w (omega arith)
      | Cmp.gt m w ↦ let l = bytes_cons 0 x.0 x.1 (put q v xs) in rw w (omega arith)
    ]
