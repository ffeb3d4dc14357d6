-- What stands at a place in a table: the numbers read there are those of the entry, and behind it stands the next.
use mathlib.Core.Path.{◌≡◌, refl, ap, ap₂, sym, ◌∙◌}
use mathlib.Core.List.{[], ◌∷◌, ◌++◌, append_assoc}
use mathlib.Core.Bool.{true}
use Prim.Native.Nat.{ℕ, zero, suc, ◌+◌, ◌-◌, ◌^◌, ◌/◌, ◌<◌, ◌≤◌}
use native.Mathlib.Omega.{arith}
use native.Mathlib.Nat.{pow-succ'}
use lib.Dec.{eqb}
use lib.ListN.{length, take, drop, replicate, length-append, length-drop}
use lib.Seq.{drop-drop, drop-append_seam}
use Rattle.model.specs.Bytes.{Bytes, every, number, number_at, bytes, before}
use Rattle.model.specs.Path.{Path, is_path}
use Rattle.model.specs.Map.{ascends}
use Rattle.model.specs.Tree.{Entry, Table}
use Rattle.model.specs.Table.{type_of, mtime_of, size_of, body_of, entry_bytes, encode, key_at, body_at, entry_of, entry_at, entry_end}
use Rattle.model.specs.Table.{entries_at, table_in, formed_body, formed_entry, is_table}
use Rattle.model.specs.declared.Record.{Record}
use Rattle.model.proofs.Orders.{test, yea, nay, and_true}
use Rattle.model.proofs.Maps.{ascends_is, is_ascends, above_trans}
use Rattle.model.proofs.Codec.{decoded, number_bytes, path_short, entry_length}
use Rattle.table_entries.specs.Place.{Standing, end_of}

-- a number in n bytes is below 256 ^ n
number_bound : (n v : ℕ) → number (bytes n v) < 256 ^ n
number_bound zero v = omega arith
number_bound (suc n) v = let h = number_bound n (v / 256) in rw pow-succ' (omega (arith, h))

-- an entry made of fields has none larger
type_of_lem : (t m z : ℕ) (b : Bytes) → type_of (entry_of t m z b) ≤ 4
type_of_lem t m z b =
    elim (test (eqb t 1)) [
      | yea a ↦ rw a (omega arith)
      | nay a ↦ elim (test (eqb t 2)) [ yea c ↦ rw (a, c) (omega arith) | nay c ↦ elim (test (eqb t 3)) [ yea d ↦ rw (a, c, d) (omega arith) | nay d ↦ rw (a, c, d) (omega arith) ] ]
    ]

mtime_of_lem : (t m z : ℕ) (b : Bytes) → mtime_of (entry_of t m z b) ≤ m
mtime_of_lem t m z b =
    elim (test (eqb t 1)) [
      | yea a ↦ rw a (omega arith)
      | nay a ↦ elim (test (eqb t 2)) [ yea c ↦ rw (a, c) (omega arith) | nay c ↦ elim (test (eqb t 3)) [ yea d ↦ rw (a, c, d) (omega arith) | nay d ↦ rw (a, c, d) (omega arith) ] ]
    ]

size_of_lem : (t m z : ℕ) (b : Bytes) → size_of (entry_of t m z b) ≤ z
size_of_lem t m z b =
    elim (test (eqb t 1)) [
      | yea a ↦ rw a (omega arith)
      | nay a ↦ elim (test (eqb t 2)) [ yea c ↦ rw (a, c) (omega arith) | nay c ↦ elim (test (eqb t 3)) [ yea d ↦ rw (a, c, d) (omega arith) | nay d ↦ rw (a, c, d) (omega arith) ] ]
    ]

-- what is known of the entry at a place, and of what stands behind it
pub record Stands (s : Bytes) (n at : ℕ) : Type 0 where
  pub key_length : number_at s at 2 ≡ length (key_at s at)
  pub type : number_at s (at + 2) 2 ≡ type_of (entry_at s at)
  pub body_length : number_at s (at + 4) 4 ≡ length (body_of (entry_at s at))
  pub mtime : number_at s (at + 8) 8 ≡ mtime_of (entry_at s at)
  pub size : number_at s (at + 16) 8 ≡ size_of (entry_at s at)
  pub word : mtime_of (entry_at s at) < 0x1_0000_0000_0000_0000
  pub key_short : length (key_at s at) ≤ 512
  pub key_form : is_path (key_at s at) ≡ true
  pub body_form : formed_body (entry_at s at) ≡ true
  pub key_after : before [] (key_at s at) ≡ true
  pub end : entry_end s at ≡ at + length (entry_bytes (key_at s at) (entry_at s at))
  pub here : drop at s ≡ entry_bytes (key_at s at) (entry_at s at) ++ drop (entry_end s at) s
  pub inside : entry_end s at ≤ length s
  pub next : Standing s n (entry_end s at)

module _ (s : Bytes) (n at : ℕ) (st : Standing s (suc n) at) where
  abbrev k : Path
  k = key_at s at

  abbrev e : Entry
  e = entry_at s at

  abbrev more : Bytes
  more = encode (entries_at s n (entry_end s at)) ++ st.rest

  first : drop at s ≡ entry_bytes k e ++ more
  first = st.bytes ∙ append_assoc (entry_bytes k e) (encode (entries_at s n (entry_end s at))) st.rest

  from : (j : ℕ) → drop (at + j) s ≡ drop j (entry_bytes k e ++ more)
  from j = sym (drop-drop j at s) ∙ ap (drop j) first

  form : (is_path k ≡ true) × (formed_body e ≡ true)
  form = and_true (is_path k) (formed_body e) (and_true (formed_entry (k, e)) (every formed_entry (entries_at s n (entry_end s at))) st.formed).0

  short : length k ≤ 512
  short = path_short k form.0

  total : 24 + length k + length (body_of e) ≤ length s
  total =
      let a = ap length first in
      let b = length-drop at s in
      let c = length-append (entry_bytes k e) more in
      let d = entry_length k e in
      omega arith

  small : length (body_of e) < 0x1_0000_0000
  small = let t = total in let l = st.small in omega arith

  field : (j w v : ℕ) → take w (drop j (entry_bytes k e ++ more)) ≡ bytes w v → number_at s (at + j) w ≡ number (bytes w v)
  field j w v h = ap number (ap (take w) (from j) ∙ h)

  read_key : number_at s at 2 ≡ length k
  read_key = ap (λ (l : Bytes). number (take 2 l)) first ∙ number_bytes 2 (length k) (let h = short in omega arith)

  read_type : number_at s (at + 2) 2 ≡ type_of e
  read_type =
      let h = type_of_lem (number_at s (at + 2) 2) (number_at s (at + 8) 8) (number_at s (at + 16) 8) (body_at s at) in
      field 2 2 (type_of e) refl ∙ number_bytes 2 (type_of e) (omega arith)

  read_body : number_at s (at + 4) 4 ≡ length (body_of e)
  read_body = field 4 4 (length (body_of e)) refl ∙ number_bytes 4 (length (body_of e)) small

  word_mtime : mtime_of e < 256 ^ 8
  word_mtime =
      let f = field 8 8 (mtime_of e) refl in
      let b = number_bound 8 (mtime_of e) in
      let h = mtime_of_lem (number_at s (at + 2) 2) (number_at s (at + 8) 8) (number_at s (at + 16) 8) (body_at s at) in
      omega arith

  word_size : size_of e < 256 ^ 8
  word_size =
      let f = field 16 8 (size_of e) refl in
      let b = number_bound 8 (size_of e) in
      let h = size_of_lem (number_at s (at + 2) 2) (number_at s (at + 8) 8) (number_at s (at + 16) 8) (body_at s at) in
      omega arith

  end_is : entry_end s at ≡ at + length (entry_bytes k e)
  end_is =
      let l = entry_length k e in
      ap₂ (λ (a b : ℕ). at + 24 + a + b) read_key read_body ∙ (omega arith)

  behind_is : drop (entry_end s at) s ≡ more
  behind_is = ap (λ (j : ℕ). drop j s) end_is ∙ from (length (entry_bytes k e)) ∙ drop-append_seam (entry_bytes k e) more

  end_in : entry_end s at ≤ length s
  end_in =
      let a = ap length first in
      let b = length-drop at s in
      let c = length-append (entry_bytes k e) more in
      let d = end_is in
      let w = st.within in
      omega arith

  go_on : ascends [] (entries_at s n (entry_end s at)) ≡ true
  go_on =
      let u = ascends_is [] ((k, e) ∷ entries_at s n (entry_end s at)) st.up in
      let x = u.1 in
      let t = entries_at s n (entry_end s at) in
      is_ascends [] t (above_trans [] k t u.0 x.0) x.1

  pub stands : Stands s n at
  stands = record {
    key_length = read_key;
    type = read_type;
    body_length = read_body;
    mtime = field 8 8 (mtime_of e) refl ∙ number_bytes 8 (mtime_of e) word_mtime;
    size = field 16 8 (size_of e) refl ∙ number_bytes 8 (size_of e) word_size;
    word = word_mtime;
    key_short = short;
    key_form = form.0;
    body_form = form.1;
    key_after = (and_true (before [] k) (ascends k (entries_at s n (entry_end s at))) st.up).0;
    end = end_is;
    here = first ∙ ap (λ (l : Bytes). entry_bytes k e ++ l) (sym behind_is);
    inside = end_in;
    next = record {
      small = st.small;
      within = end_in;
      rest = st.rest;
      bytes = behind_is;
      up = go_on;
      formed = (and_true (formed_entry (k, e)) (every formed_entry (entries_at s n (entry_end s at))) st.formed).1;
    };
  }

pub table_stands : (s : Bytes) (r : Record) → is_table s r ≡ true → Standing s r.count 0
table_stands s r h =
    let d = decoded s r h in
    record {
      small = d.length_most;
      within = omega arith;
      rest = replicate (length s - length (encode (table_in s r))) 0;
      bytes = d.bytes;
      up = d.ascending;
      formed = d.formed;
    }

-- the same at a place with some entries left, as code has it
pub first_entry : (s : Bytes) (n at : ℕ) → 0 < n → entries_at s n at ≡ (key_at s at, entry_at s at) ∷ entries_at s (n - 1) (entry_end s at)
first_entry s zero at h = absurd (omega arith)
first_entry s (suc m) at h = let d : suc m - 1 ≡ m = omega arith in rw d

pub stands_here : (s : Bytes) (n at : ℕ) → 0 < n → Standing s n at → Stands s (n - 1) at
stands_here s zero at h w = absurd (omega arith)
stands_here s (suc m) at h w = let d : suc m - 1 ≡ m = omega arith in rw d (stands s m at w)

-- and the numbers in its head are inside the bytes, and so what they count
pub entry_inside : (s : Bytes) (n at : ℕ) → Standing s n at → 0 < n → at + 24 + number_at s at 2 + number_at s (at + 4) 4 ≤ length s
entry_inside s n at w h = (stands_here s n at h w).inside

-- n entries are counted, and the i first are passed: some are left, and behind the next one less
pub left_some : (n i : ℕ) → i < n → 0 < n - i
left_some n i h = omega (arith, h)

pub left_next : (n i : ℕ) → n - i - 1 ≡ n - (i + 1)
left_next n i = omega arith

pub left_none : (n i : ℕ) → n ≤ i → n - i ≤ 0
left_none n i h = omega (arith, h)

-- as many as are counted, and none is longer than the bytes that they stand in
pub count_is : (s : Bytes) (n at : ℕ) → length (entries_at s n at) ≡ n
count_is s zero at = refl
count_is s (suc n) at = ap suc (count_is s n (entry_end s at))

pub standing_length : (s : Bytes) (n at : ℕ) → Standing s n at → end_of s n at ≤ length s
standing_length s n at w =
    let a = ap length w.bytes in
    let b = length-drop at s in
    let c = length-append (encode (entries_at s n at)) w.rest in
    let i = w.within in
    omega arith

-- behind the first entry stand the others, with the same end
pub same_end : (s : Bytes) (n at : ℕ) → 0 < n → Standing s n at → end_of s (n - 1) (entry_end s at) ≡ end_of s n at
same_end s n at h w =
    let e = (stands_here s n at h w).end in
    let f = ap (λ (t : Table). length (encode t)) (first_entry s n at h) in
    let l = length-append (entry_bytes (key_at s at) (entry_at s at)) (encode (entries_at s (n - 1) (entry_end s at))) in
    omega arith

-- the end of a table's entries is what its record has as used
pub table_end : (s : Bytes) (r : Record) → is_table s r ≡ true → end_of s r.count 0 ≡ r.used
table_end s r h = let e = ap (λ (q : Record). q.used) (decoded s r h).rec in omega arith
