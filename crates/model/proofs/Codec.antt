-- The table's bytes, both ways: what bytes and a record that are a table must be, and that a table, encoded with zeros behind, is read again
-- as it was. A table is encoded in numbers of fixed width, so the way there and back asks that its numbers fit (`Words`).
use mathlib.Core.Path.{◌≡◌, refl, ap, ap₂, sym, ◌∙◌}
use mathlib.Core.List.{[], ◌∷◌, ◌++◌, append_assoc}
use mathlib.Core.Bool.{Bool, true, ◌&&◌, ◌||◌}
use Prim.Native.Nat.{ℕ, zero, suc, ◌+◌, ◌-◌, ◌*◌, ◌^◌, ◌/◌, ◌<◌, ◌≤◌}
use native.Mathlib.Omega.{arith}
use native.Mathlib.Nat.{pow-succ'}
use lib.Dec.{leb, ltb, eqb}
use lib.ListN.{length, take, drop, replicate, length-append, length-replicate}
use lib.Seq.{drop-drop, drop-append-add, drop-append_seam, take-append_seam}
use borrow.Author.Tests.{ltb-true, leb-true, le-leb}
use Rattle.model.specs.Bytes.{Bytes, every, number, number_at, bytes, same}
use Rattle.model.specs.Path.{Path, is_path, is_root, short, component, components}
use Rattle.model.specs.Utf8.{utf8}
use Rattle.model.specs.Map.{ascends}
use Rattle.model.specs.Tree.{Entry, own, reference, directory, deleted, Table}
use Rattle.model.specs.Table.{type_of, mtime_of, size_of, body_of, entry_bytes, encode, padded, body_charge, charge_sum, capped, charge, record_of, key_at, body_at, entry_of, entry_at, entry_end}
use Rattle.model.specs.Table.{entries_at, table_in, formed_body, formed_entry, same_record, sized, is_table}
use Rattle.model.specs.declared.Record.{Record}
use Rattle.model.specs.Runs.{Word}
use Rattle.model.proofs.Words.{Worded, Words}
use Rattle.model.proofs.Orders.{Split, split, same_refl, bot, eqb_eq, eqb_true, and_true}

pub same_is : (s t : Bytes) → same s t ≡ true → s ≡ t
same_is s t h = elim (split s t) [ Split.eq e w ↦ e | Split.ne n w ↦ absurd (bot (cc)) ]

-- lengths

pub entry_length : (k : Path) (e : Entry) → length (entry_bytes k e) ≡ 24 + length k + length (body_of e)
entry_length k e = let l = length-append k (body_of e) in omega arith

-- `padded` cuts nothing: n bytes, or all of s where it is longer
length_padded : (n : ℕ) (s : Bytes) → length (padded n s) ≡ length s + (n - length s)
length_padded n s = length-append s (replicate (n - length s) 0) ∙ ap (λ (m : ℕ). length s + m) (length-replicate {A = ℕ} (n - length s) 0)

pub padded_length : (n : ℕ) (s : Bytes) → length s ≤ n → length (padded n s) ≡ n
padded_length n s h = let l = length_padded n s in omega arith

-- what is a table

pub record Decoded (s : Bytes) (r : Record) : Type 0 where
  pub bytes : s ≡ padded (length s) (encode (table_in s r))
  pub rec : r ≡ record_of r.entry_size (table_in s r)
  pub size : sized r.entry_size (length s) ≡ true
  pub size_most : r.entry_size ≤ 4096
  pub length_most : length s ≤ 16777216
  pub ascending : ascends [] (table_in s r) ≡ true
  pub formed : every formed_entry (table_in s r) ≡ true
  pub fits : length (encode (table_in s r)) ≤ length s

-- what an entry size and a buffer's length may be
sized_is : (E n : ℕ) → sized E n ≡ true → (E ≤ 4096) × (n ≤ 16777216)
sized_is E n h = let z = and_true (leb E 4096) (leb n 16777216) h in (leb-true E 4096 z.0, leb-true n 16777216 z.1)

pub same_record_is : (r q : Record) → same_record r q ≡ true → r ≡ q
same_record_is r q h =
    let x = and_true (eqb r.used q.used && eqb r.count q.count && eqb r.charge q.charge) (eqb r.entry_size q.entry_size) h in
    let y = and_true (eqb r.used q.used && eqb r.count q.count) (eqb r.charge q.charge) x.0 in
    let z = and_true (eqb r.used q.used) (eqb r.count q.count) y.0 in
    let u = eqb_eq r.used q.used z.0 in
    let n = eqb_eq r.count q.count z.1 in
    let c = eqb_eq r.charge q.charge y.1 in
    let e = eqb_eq r.entry_size q.entry_size x.1 in
    λ i. record { used = u i; count = n i; charge = c i; entry_size = e i }

pub same_record_lem : (r : Record) → same_record r r ≡ true
same_record_lem r = rw (eqb_true r.used, eqb_true r.count, eqb_true r.charge, eqb_true r.entry_size)

pub decoded : (s : Bytes) (r : Record) → is_table s r ≡ true → Decoded s r
decoded s r h =
    let t : Table = table_in s r in
    let a : Bool = sized r.entry_size (length s) in
    let b : Bool = ascends [] t in
    let c : Bool = every formed_entry t in
    let d : Bool = same s (padded (length s) (encode t)) in
    let q : Record = record_of r.entry_size t in
    let w = and_true (a && b && c && d) (same_record r q) h in
    let x = and_true (a && b && c) d w.0 in
    let y = and_true (a && b) c x.0 in
    let z = and_true a b y.0 in
    let m = sized_is r.entry_size (length s) z.0 in
    let e : s ≡ padded (length s) (encode t) = same_is s (padded (length s) (encode t)) x.1 in
    let l : length s ≡ length (encode t) + (length s - length (encode t)) = ap length e ∙ length_padded (length s) (encode t) in
    record { bytes = e; rec = same_record_is r q w.1; size = z.0; size_most = m.0; length_most = m.1; ascending = z.1; formed = y.1; fits = omega arith }

-- the charge

-- a table's bytes are at least 24 for an entry, and its sum is at most 256 + 4,096 for each byte
pub bounds : (E : ℕ) (t : Table) → E ≤ 4096 → (24 * length t ≤ length (encode t)) × (charge_sum E t ≤ 4352 * length (encode t))
bounds E [] h = (omega arith, omega arith)
bounds E (x ∷ xs) h =
    let i = bounds E xs h in
    let l = entry_length x.0 x.1 in
    let a = length-append (entry_bytes x.0 x.1) (encode xs) in
    let i0 = i.0 in
    let i1 = i.1 in
    (omega arith, omega arith)

-- a sum of 64 bits is not cut
pub exact : (n : ℕ) → n ≤ 0xFFFF_FFFF_FFFF_FFFF → capped n ≡ n
exact n h = omega arith

-- nor is that of a table of at most 16 MiB
pub charge_exact : (E n : ℕ) (t : Table) → sized E n ≡ true → length (encode t) ≤ n → charge E t ≡ charge_sum E t
charge_exact E n t z l =
    let m = sized_is E n z in
    let m0 = m.0 in
    let m1 = m.1 in
    let b = (bounds E t m0).1 in
    exact (charge_sum E t) (omega arith)

-- "A rounded length or sum that would pass 2^64 − 1 counts as 2^64 − 1": with the body's length and each sum on the way cut, the charge is the same
pub cut_on_the_way : (E : ℕ) (k : Path) (e : Entry) (t : Table)
    → charge E ((k, e) ∷ t) ≡ capped (capped (256 + length k + E + capped (body_charge (length (body_of e)))) + charge E t)
cut_on_the_way E k e t = omega arith

-- the record's charge is the table's
pub charge_is : (s : Bytes) (r : Record) → is_table s r ≡ true → r.charge ≡ charge r.entry_size (table_in s r)
charge_is s r h =
    let d = decoded s r h in
    ap (λ (q : Record). q.charge) d.rec ∙ sym (charge_exact r.entry_size (length s) (table_in s r) d.size d.fits)

-- the numbers that a table's bytes can hold: mtimes are any of 64 bits, and `formed_body` bounds the sizes

pub number_bytes : (n v : ℕ) → v < 256 ^ n → number (bytes n v) ≡ v
number_bytes zero v h = omega arith
number_bytes (suc n) v h =
    let g : v < 256 * 256 ^ n = rw pow-succ' at h in
    let e : number (bytes n (v / 256)) ≡ v / 256 = number_bytes n (v / 256) (omega arith) in
    rw e (omega arith)

-- a path has at most 512 bytes and 32 components
path_limits : (p : Path) → is_path p ≡ true → (leb (length p) 512 ≡ true) × (leb (length (components p)) 32 ≡ true)
path_limits p h =
    let x = and_true (short p && utf8 p) (is_root p || every component (components p)) h in
    let y = and_true (short p) (utf8 p) x.0 in
    and_true (leb (length p) 512) (leb (length (components p)) 32) y.0

pub path_short : (p : Path) → is_path p ≡ true → length p ≤ 512
path_short p h = leb-true (length p) 512 (path_limits p h).0

pub path_shallow : (p : Path) → is_path p ≡ true → length (components p) ≤ 32
path_shallow p h = leb-true (length (components p)) 32 (path_limits p h).1

-- the numbers of an entry fit their fields
pub record Fit (e : Entry) : Type 0 where
  pub type : type_of e < 0x1_0000
  pub body : length (body_of e) < 0x1_0000_0000
  pub mtime : Word (mtime_of e)
  pub size : Word (size_of e)

pub fit : (e : Entry) → formed_body e ≡ true → Worded e → length (body_of e) < 0x1_0000_0000 → Fit e
fit (own m c) h w l = record { type = omega arith; body = l; mtime = w; size = omega arith }
fit (reference m z p) h w l =
    let x = and_true (is_path p && ltb 0 (length p)) (ltb z 0x8000_0000_0000_0000) h in
    let b = ltb-true z 0x8000_0000_0000_0000 x.1 in
    record { type = omega arith; body = l; mtime = w; size = omega arith }
fit (directory m) h w l = record { type = omega arith; body = l; mtime = w; size = omega arith }
fit deleted h w l = record { type = omega arith; body = l; mtime = omega arith; size = omega arith }

-- the fields and the body of an entry make it again
pub same_entry : (e : Entry) → entry_of (type_of e) (mtime_of e) (size_of e) (body_of e) ≡ e
same_entry (own m c) = refl
same_entry (reference m z p) = refl
same_entry (directory m) = refl
same_entry deleted = refl

-- an entry that stands behind p, with q behind it, is read as it is
module _ (p : Bytes) (k : Path) (e : Entry) (q : Bytes) (hk : length k < 0x1_0000) (f : Fit e) where
  abbrev whole : Bytes
  whole = p ++ (entry_bytes k e ++ q)

  from : (j : ℕ) → drop (length p + j) whole ≡ drop j (entry_bytes k e ++ q)
  from j = drop-append-add p (entry_bytes k e ++ q) j

  behind : drop (length p + 24) whole ≡ k ++ (body_of e ++ q)
  behind = from 24 ∙ append_assoc k (body_of e) q

  read_length : number_at whole (length p) 2 ≡ length k
  read_length = ap (λ (l : Bytes). number (take 2 l)) (drop-append_seam p (entry_bytes k e ++ q)) ∙ number_bytes 2 (length k) hk

  read_body_length : number_at whole (length p + 4) 4 ≡ length (body_of e)
  read_body_length = ap (λ (l : Bytes). number (take 4 l)) (from 4) ∙ number_bytes 4 (length (body_of e)) f.body

  pub read_key : key_at whole (length p) ≡ k
  read_key = ap₂ take read_length behind ∙ take-append_seam k (body_of e ++ q)

  behind_key : drop (length p + 24 + length k) whole ≡ body_of e ++ q
  behind_key = sym (drop-drop (length k) (length p + 24) whole) ∙ ap (drop (length k)) behind ∙ drop-append_seam k (body_of e ++ q)

  read_body : body_at whole (length p) ≡ body_of e
  read_body =
      ap₂ take read_body_length (ap (λ (n : ℕ). drop (length p + 24 + n) whole) read_length ∙ behind_key) ∙ take-append_seam (body_of e) q

  pub read_entry : entry_at whole (length p) ≡ e
  read_entry =
      let t : number_at whole (length p + 2) 2 ≡ type_of e = ap (λ (l : Bytes). number (take 2 l)) (from 2) ∙ number_bytes 2 (type_of e) f.type in
      let m : number_at whole (length p + 8) 8 ≡ mtime_of e = ap (λ (l : Bytes). number (take 8 l)) (from 8) ∙ number_bytes 8 (mtime_of e) f.mtime in
      let z : number_at whole (length p + 16) 8 ≡ size_of e = ap (λ (l : Bytes). number (take 8 l)) (from 16) ∙ number_bytes 8 (size_of e) f.size in
      (λ i. entry_of (t i) (m i) (z i) (read_body i)) ∙ same_entry e

  pub read_end : entry_end whole (length p) ≡ length (p ++ entry_bytes k e)
  read_end =
      let l = length-append p (entry_bytes k e) in
      let n = entry_length k e in
      ap₂ (λ (a b : ℕ). length p + 24 + a + b) read_length read_body_length ∙ (omega arith)

-- the entries of a table that stands behind p, with q behind it, are that table; the bound is that of a body's length, which has 32 bits
pub read_table : (t : Table) (p q : Bytes) → every formed_entry t ≡ true → Words t → length (encode t) < 0x1_0000_0000
    → entries_at (p ++ (encode t ++ q)) (length t) (length p) ≡ t
read_table [] p q h w l = refl
read_table (x ∷ xs) p q h w l =
    let b : Bytes = entry_bytes x.0 x.1 in
    let r : Bytes = encode xs ++ q in
    let n : ℕ = length xs in
    let g = and_true (formed_entry x) (every formed_entry xs) h in
    let y = and_true (is_path x.0) (formed_body x.1) g.0 in
    let lb : length b ≡ 24 + length x.0 + length (body_of x.1) = entry_length x.0 x.1 in
    let la : length (b ++ encode xs) ≡ length b + length (encode xs) = length-append b (encode xs) in
    let lk = path_short x.0 y.0 in
    let hk : length x.0 < 0x1_0000 = omega arith in
    let f = fit x.1 y.1 w.0 (omega arith) in
    let key = read_key p x.0 x.1 r hk f in
    let entry = read_entry p x.0 x.1 r hk f in
    let end = read_end p x.0 x.1 r hk f in
    let ih : entries_at ((p ++ b) ++ r) n (length (p ++ b)) ≡ xs = read_table xs (p ++ b) q g.1 w.1 (omega arith) in
    let rest : entries_at (p ++ (b ++ r)) n (length (p ++ b)) ≡ xs = rw (append_assoc p b r) at ih in
    let tail = ap (entries_at (p ++ (b ++ r)) n) end ∙ rest in
    ap (λ (s : Bytes). entries_at (p ++ s) (suc n) (length p)) (append_assoc b (encode xs) q) ∙ (λ i. (key i, entry i) ∷ tail i)

-- encoded, with zeros behind up to n bytes, a table is read again, and is well-formed
pub encoded : (E n : ℕ) (t : Table) → ascends [] t ≡ true → every formed_entry t ≡ true → Words t → length (encode t) ≤ n → sized E n ≡ true
    → (table_in (padded n (encode t)) (record_of E t) ≡ t) × (is_table (padded n (encode t)) (record_of E t) ≡ true)
encoded E n t a f w l z =
    let s : Bytes = padded n (encode t) in
    let m = (sized_is E n z).1 in
    let e : table_in s (record_of E t) ≡ t = read_table t [] (replicate (n - length (encode t)) 0) f w (omega arith) in
    (e, rw (e, padded_length n (encode t) l, z, a, f, same_refl s, same_record_lem (record_of E t)))

-- a table's entries in another buffer that they fit are a table with the same record and the same entries
pub moved_table : (s : Bytes) (r : Record) → is_table s r ≡ true → Words (table_in s r) → (n : ℕ)
    → length (encode (table_in s r)) ≤ n → n ≤ 16777216
    → (table_in (padded n (encode (table_in s r))) r ≡ table_in s r)
    × (is_table (padded n (encode (table_in s r))) r ≡ true)
moved_table s r h w n l m =
    let t : Table = table_in s r in
    let d = decoded s r h in
    let e = encoded r.entry_size n t d.ascending d.formed w l (rw (le-leb r.entry_size 4096 d.size_most, le-leb n 16777216 m)) in
    (ap (table_in (padded n (encode t))) d.rec ∙ e.0, ap (is_table (padded n (encode t))) d.rec ∙ e.1)

-- the buffer of zeros is the empty table
pub opened_table : (E n : ℕ) → sized E n ≡ true → (table_in (replicate n 0) (record_of E []) ≡ []) × (is_table (replicate n 0) (record_of E []) ≡ true)
opened_table E n z =
    let e : n - 0 ≡ n = omega arith in
    let d = encoded E n [] refl refl tt (omega arith) z in
    rw e at d
