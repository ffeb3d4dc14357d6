-- The entries of a kept file, whose count isn't written: a table's bytes, read up to their end, are that table; and
-- bytes that are entries are what the table in them encodes to. Assumes, where a table's bytes are read again, that its
-- mtimes have 64 bits (`Words`).
use mathlib.Core.Path.{◌≡◌, refl, ap, ◌∙◌}
use mathlib.Core.List.{[], ◌∷◌, ◌++◌, append-nil, append_assoc}
use mathlib.Core.Bool.{Bool, true, false, cond, ◌&&◌}
use Prim.Native.Nat.{ℕ, zero, suc, ◌+◌, ◌-◌, ◌<◌, ◌≤◌}
use native.Mathlib.Omega.{arith}
use lib.Dec.{leb, eqb}
use lib.ListN.{length, length-append}
use borrow.Author.Tests.{le-leb, lt-leb}
use Rattle.model.specs.Bytes.{Bytes, every}
use Rattle.model.specs.Path.{is_path}
use Rattle.model.specs.Map.{ascends}
use Rattle.model.specs.Tree.{Table}
use Rattle.model.specs.Table.{body_of, entry_bytes, encode, padded, record_of, key_at, entry_at, entry_end, entries_at}
use Rattle.model.specs.Table.{table_in, formed_body, formed_entry, sized, is_table}
use Rattle.model.specs.declared.Record.{Record}
use Rattle.model.proofs.Orders.{eqb_eq, eqb_true, and_true}
use Rattle.model.proofs.Words.{Words}
use Rattle.model.proofs.Codec.{entry_length, decoded, path_short, fit, read_key, read_entry, read_end, encoded}
use Rattle.kept_file.specs.Kept.{entries_up_to, summed, is_entries}

-- a table that stands behind p, read up to the end in at most n entries, is that table
pub up_to_table : (t : Table) (p : Bytes) (n : ℕ) → every formed_entry t ≡ true → Words t
    → length (encode t) < 0x1_0000_0000 → length t ≤ n → entries_up_to (p ++ encode t) n (length p) ≡ t
up_to_table [] p zero h w l m = refl
up_to_table [] p (suc n) h w l m =
    let e : length (p ++ []) ≡ length p = ap length (append-nil p) in
    rw (le-leb (length (p ++ [])) (length p) (omega arith))
up_to_table (x ∷ xs) p zero h w l m = absurd (omega arith)
up_to_table (x ∷ xs) p (suc n) h w l m =
    let b : Bytes = entry_bytes x.0 x.1 in
    let r : Bytes = encode xs in
    let g = and_true (formed_entry x) (every formed_entry xs) h in
    let y = and_true (is_path x.0) (formed_body x.1) g.0 in
    let lb : length b ≡ 24 + length x.0 + length (body_of x.1) = entry_length x.0 x.1 in
    let lr : length (b ++ r) ≡ length b + length r = length-append b r in
    let lw : length (p ++ (b ++ r)) ≡ length p + length (b ++ r) = length-append p (b ++ r) in
    let lk = path_short x.0 y.0 in
    let hk : length x.0 < 0x1_0000 = omega arith in
    let f = fit x.1 y.1 w.0 (omega arith) in
    let key = read_key p x.0 x.1 r hk f in
    let entry = read_entry p x.0 x.1 r hk f in
    let end = read_end p x.0 x.1 r hk f in
    let inside : leb (length (p ++ (b ++ r))) (length p) ≡ false
    = lt-leb (length (p ++ (b ++ r))) (length p) (omega arith) in
    let ih : entries_up_to ((p ++ b) ++ r) n (length (p ++ b)) ≡ xs
    = up_to_table xs (p ++ b) n g.1 w.1 (omega arith) (omega arith) in
    let rest : entries_up_to (p ++ (b ++ r)) n (length (p ++ b)) ≡ xs = rw (append_assoc p b r) at ih in
    let tail = ap (entries_up_to (p ++ (b ++ r)) n) end ∙ rest in
    rw inside (λ i. (key i, entry i) ∷ tail i)

-- each entry has a byte at least
pub count_within : (t : Table) → length t ≤ length (encode t)
count_within [] = omega arith
count_within (x ∷ xs) =
    let b : Bytes = entry_bytes x.0 x.1 in
    let ih = count_within xs in
    let lb : length b ≡ 24 + length x.0 + length (body_of x.1) = entry_length x.0 x.1 in
    let la : length (b ++ encode xs) ≡ length b + length (encode xs) = length-append b (encode xs) in
    omega arith

-- nothing is put behind what has the length already
pub padded_full : (n : ℕ) (s : Bytes) → length s ≡ n → padded n s ≡ s
padded_full n s e =
    let z : n - length s ≡ 0 = omega arith in
    rw (z, append-nil s)

-- a table's bytes are entries
pub entries_of_lem : (E : ℕ) (t : Table) → ascends [] t ≡ true → every formed_entry t ≡ true → Words t
    → length (encode t) ≤ 16777216 → E ≤ 4096
    → (entries_up_to (encode t) (length (encode t)) 0 ≡ t) × (is_entries E (encode t) ≡ true)
entries_of_lem E t a f w l m =
    let s : Bytes = encode t in
    let z : sized E (length s) ≡ true = rw (le-leb E 4096 m, le-leb (length s) 16777216 l) in
    let u : entries_up_to s (length s) 0 ≡ t = up_to_table t [] (length s) f w (omega arith) (count_within t) in
    let i : is_table s (record_of E t) ≡ true
    = rw (padded_full (length s) s refl) at (encoded E (length s) t a f w (omega arith) z).1 in
    let r : summed E s ≡ record_of E t = ap (record_of E) u in
    let full : (is_table s (record_of E t) && eqb (length s) (length s)) ≡ true = rw (i, eqb_true (length s)) in
    (u, ap (λ (q : Record). is_table s q && eqb q.used (length s)) r ∙ full)

-- as many entries as are read up to the end are read by that count
pub counted : (s : Bytes) (n at : ℕ) → entries_at s (length (entries_up_to s n at)) at ≡ entries_up_to s n at
counted s zero at = refl
counted s (suc n) at = go (leb (length s) at) (counted s n (entry_end s at))
  where
    go : (b : Bool)
        → entries_at s (length (entries_up_to s n (entry_end s at))) (entry_end s at) ≡ entries_up_to s n (entry_end s at)
        → let t = cond b [] ((key_at s at, entry_at s at) ∷ entries_up_to s n (entry_end s at)) in
        entries_at s (length t) at ≡ t
    go true ih = refl
    go false ih = ap (λ (t : Table). (key_at s at, entry_at s at) ∷ t) ih

-- what bytes that are entries are
pub record Entries (E : ℕ) (s : Bytes) : Type 0 where
  pub table : is_table s (summed E s) ≡ true
  pub entries : table_in s (summed E s) ≡ entries_up_to s (length s) 0
  pub bytes : s ≡ encode (entries_up_to s (length s) 0)
  pub short : length s ≤ 16777216

pub are_entries : (E : ℕ) (s : Bytes) → is_entries E s ≡ true → Entries E s
are_entries E s h =
    let t : Table = entries_up_to s (length s) 0 in
    let r : Record = summed E s in
    let x = and_true (is_table s r) (eqb r.used (length s)) h in
    let u : length (encode t) ≡ length s = eqb_eq r.used (length s) x.1 in
    let d = decoded s r x.0 in
    let e : table_in s r ≡ t = counted s (length s) 0 in
    record {
      table = x.0;
      entries = e;
      bytes = d.bytes ∙ ap (λ (y : Table). padded (length s) (encode y)) e ∙ padded_full (length s) (encode t) u;
      short = d.length_most;
    }
