-- A table in a buffer of another length: it is a table exactly if its bytes fit and the buffer has at most 16 MiB, and
-- then it has the same entries. Assumes a table in form, of bytes.
use mathlib.Core.Path.{◌≡◌, refl, ap, ◌∙◌}
use mathlib.Core.Bool.{true}
use mathlib.Core.List.{◌∷◌, ◌++◌, append_assoc}
use Prim.Native.Nat.{ℕ, zero, suc, ◌+◌, ◌-◌, ◌≤◌}
use native.Mathlib.Omega.{arith}
use lib.ListN.{length, take, replicate, length-append, length-replicate, replicate-append-replicate}
use lib.Seq.{length-take-le, take-append-add}
use Rattle.model.specs.Bytes.{Bytes}
use Rattle.model.specs.Table.{encode, padded, is_table, table_in}
use Rattle.model.specs.declared.Record.{Record}
use Rattle.model.specs.Outcome.{Store}
use Rattle.model.proofs.Words.{IsBytes}
use Rattle.model.proofs.Codec.{padded_length, decoded, moved_table}
use Rattle.model.proofs.Resumed.{words_read}
use Rattle.least_need.specs.Least.{in_buffer}

take_zeros : (n m : ℕ) → n ≤ m → take n (replicate {A = ℕ} m 0) ≡ replicate n 0
take_zeros zero m h = refl
take_zeros (suc n) zero h = absurd (omega arith)
take_zeros (suc n) (suc m) h = ap (λ (s : Bytes). 0 ∷ s) (take_zeros n m (omega arith))

-- a buffer of n bytes has n bytes
pub buffer_length : (n : ℕ) (s : Bytes) → length (take n (padded n s)) ≡ n
buffer_length n s =
    let l = length-append s (replicate (n - length s) 0) in
    let z = length-replicate {A = ℕ} (n - length s) 0 in
    length-take-le n (padded n s) (omega arith)

-- what was padded before is padded anew
padded_anew : (n k : ℕ) (x : Bytes) → length x ≤ k → length x ≤ n → take n (padded n (padded k x)) ≡ padded n x
padded_anew n k x h g =
    let m = length x in
    let p : length (padded k x) ≡ k = padded_length k x h in
    let one : padded n (padded k x) ≡ x ++ replicate (k - m + (n - k)) 0 =
    append_assoc x (replicate (k - m) 0) (replicate (n - length (padded k x)) 0)
    ∙ ap (λ (s : Bytes). x ++ s) (replicate-append-replicate {A = ℕ} (k - m) (n - length (padded k x)) 0 ∙ ap (λ (j : ℕ). replicate (k - m + (n - j)) 0) p) in
    let e : n ≡ m + (n - m) = omega arith in
    ap (take n) one
    ∙ ap (λ (j : ℕ). take j (x ++ replicate (k - m + (n - k)) 0)) e
    ∙ take-append-add x (replicate (k - m + (n - k)) 0) (n - m)
    ∙ ap (λ (s : Bytes). x ++ s) (take_zeros (n - m) (k - m + (n - k)) (omega arith))

module _ (s : Store) (is : is_table s.table s.rec ≡ true) where
  -- the bytes used, as the record has them
  pub used_is : s.rec.used ≡ length (encode (table_in s.table s.rec))
  used_is = ap (λ (r : Record). r.used) (decoded s.table s.rec is).rec

  pub used_most : s.rec.used ≤ 16777216
  used_most =
      let d = decoded s.table s.rec is in
      omega (arith, used_is, d.fits, d.length_most)

  -- in a buffer that they fit
  module _ (bytes : IsBytes s.table) (n : ℕ) (fits : s.rec.used ≤ n) (most : n ≤ 16777216) where
    in_longer : (table_in (in_buffer n s).table s.rec ≡ table_in s.table s.rec) × (is_table (in_buffer n s).table s.rec ≡ true)
    in_longer =
        let t = table_in s.table s.rec in
        let d = decoded s.table s.rec is in
        let same_bytes : (in_buffer n s).table ≡ padded n (encode t) =
        ap (λ (x : Bytes). take n (padded n x)) d.bytes ∙ padded_anew n (length s.table) (encode t) d.fits (omega (arith, used_is)) in
        let m = moved_table s.table s.rec is (words_read s.table bytes s.rec.count 0) n (omega (arith, used_is)) most in (
          ap (λ (x : Bytes). table_in x s.rec) same_bytes ∙ m.0,
          ap (λ (x : Bytes). is_table x s.rec) same_bytes ∙ m.1,
        )

    pub buffer_entries : table_in (in_buffer n s).table s.rec ≡ table_in s.table s.rec
    buffer_entries = in_longer.0

    pub buffer_table : is_table (in_buffer n s).table s.rec ≡ true
    buffer_table = in_longer.1

  -- no other buffer holds it
  pub buffer_fits : (n : ℕ) → is_table (in_buffer n s).table s.rec ≡ true → (s.rec.used ≤ n) × (n ≤ 16777216)
  buffer_fits n h =
      let d = decoded (in_buffer n s).table s.rec h in
      let l = buffer_length n s.table in
      let u : s.rec.used ≡ length (encode (table_in (in_buffer n s).table s.rec)) = ap (λ (r : Record). r.used) d.rec in
      (omega (arith, d.fits), omega (arith, d.length_most))
