-- Document 01, "The table and its charge": the table's bytes, its record and its charge.
use Rattle.std.specs.Prelude.{Bool, true, cond, ◌&&◌, [], ◌∷◌, ◌++◌, ℕ, zero, suc, ◌+◌, ◌*◌, ◌/◌, ◌-◌, min, leb}
use Rattle.std.specs.Prelude.{ltb, eqb, length, take, drop, replicate}
use Rattle.model.specs.Bytes.{Bytes, every, number_at, bytes, same}
use Rattle.model.specs.Path.{Path, is_path}
use Rattle.model.specs.Map.{ascends}
use Rattle.model.specs.Tree.{Entry, own, reference, directory, deleted, Table}
use Rattle.model.specs.declared.Record.{Record}

-- "kind (16 bits: 1 own file, 2 reference to a listed file, 3 directory, 4 deleted)"
abbrev pub type_of : Entry → ℕ
type_of (own m c) = 1
type_of (reference m z p) = 2
type_of (directory m) = 3
type_of deleted = 4

-- "mtime bits are 0 in kind 4"
abbrev pub mtime_of : Entry → ℕ
mtime_of (own m c) = m
mtime_of (reference m z p) = m
mtime_of (directory m) = m
mtime_of deleted = 0

-- "Size is 0 except in kind 2"
abbrev pub size_of : Entry → ℕ
size_of (own m c) = 0
size_of (reference m z p) = z
size_of (directory m) = 0
size_of deleted = 0

-- "The body is the content (1), the listed path (2), else empty."
abbrev pub body_of : Entry → Bytes
body_of (own m c) = c
body_of (reference m z p) = p
body_of (directory m) = []
body_of deleted = []

-- "An entry: key length (16 bits), kind (16 bits …), body length (32 bits), mtime bits (64), size (signed 64), key,
-- body."
abbrev pub entry_bytes : Path → Entry → Bytes
entry_bytes k e =
    bytes 2 (length k)
    ++ (bytes 2 (type_of e)
    ++ (bytes 4 (length (body_of e))
    ++ (bytes 8 (mtime_of e)
    ++ (bytes 8 (size_of e)
    ++ (k ++ body_of e)))))

abbrev pub encode : Table → Bytes
encode [] = []
encode (x ∷ xs) = entry_bytes x.0 x.1 ++ encode xs

-- "Entries ascend strictly by key bytes from the buffer's start; all bytes behind them are 0."
abbrev pub padded : ℕ → Bytes → Bytes
padded n s = s ++ replicate (n - length s) 0

-- #107: "A body's length is now charged rounded up to a multiple of 16; 0 stays 0."
abbrev pub body_charge : ℕ → ℕ
body_charge n = 16 * ((n + 15) / 16)

-- "An entry's charge: 256 + key length + E + body length."
abbrev pub entry_charge : ℕ → Path → Entry → ℕ
entry_charge E k e = 256 + length k + E + body_charge (length (body_of e))

-- "A table's charge is the sum."
abbrev pub charge_sum : ℕ → Table → ℕ
charge_sum E [] = 0
charge_sum E (x ∷ xs) = entry_charge E x.0 x.1 + charge_sum E xs

-- #107: "A rounded length or sum that would pass 2^64 − 1 counts as 2^64 − 1": cut once, at the end, since a cut on the
-- way there changes nothing (`cut_on_the_way`)
abbrev pub capped : ℕ → ℕ
capped n = min n 0xFFFF_FFFF_FFFF_FFFF

abbrev pub charge : ℕ → Table → ℕ
charge E t = capped (charge_sum E t)

-- "The record by value holds bytes used, count, charge and E": the sum itself, which for a table is never cut
-- (`charge_exact`)
abbrev pub record_of : ℕ → Table → Record
record_of E t = record { used = length (encode t); count = length t; charge = charge_sum E t; entry_size = E }

-- reading an entry that starts at `at`: its key, itself, and where it ends
abbrev pub key_at : Bytes → ℕ → Path
key_at s at = take (number_at s at 2) (drop (at + 24) s)

abbrev pub body_at : Bytes → ℕ → Bytes
body_at s at = take (number_at s (at + 4) 4) (drop (at + 24 + number_at s at 2) s)

abbrev pub entry_of : ℕ → ℕ → ℕ → Bytes → Entry
entry_of type m z b = cond (eqb type 1) (own m b) (cond (eqb type 2) (reference m z b)
    (cond (eqb type 3) (directory m) deleted))

abbrev pub entry_at : Bytes → ℕ → Entry
entry_at s at = entry_of (number_at s (at + 2) 2) (number_at s (at + 8) 8) (number_at s (at + 16) 8) (body_at s at)

abbrev pub entry_end : Bytes → ℕ → ℕ
entry_end s at = at + 24 + number_at s at 2 + number_at s (at + 4) 4

-- the n entries from `at` on
abbrev pub entries_at : Bytes → ℕ → ℕ → Table
entries_at s zero at = []
entries_at s (suc n) at = (key_at s at, entry_at s at) ∷ entries_at s n (entry_end s at)

abbrev pub table_in : Bytes → Record → Table
table_in s r = entries_at s r.count 0

-- "Keys and kind 2 bodies are paths in the form above and never empty" (a key, since the keys ascend from the empty one
-- on); "… kind 2, where [the size] is at least 0"
abbrev pub formed_body : Entry → Bool
formed_body (own m c) = true
formed_body (reference m z p) = is_path p && ltb 0 (length p) && ltb z 0x8000_0000_0000_0000
formed_body (directory m) = true
formed_body deleted = true

abbrev pub formed_entry : Path × Entry → Bool
formed_entry x = is_path x.0 && formed_body x.1

abbrev pub same_record : Record → Record → Bool
same_record r q =
    eqb r.used q.used && eqb r.count q.count && eqb r.charge q.charge
    && eqb r.entry_size q.entry_size

-- "The buffer is at most 16 MiB"; "E is 0 to 4,096"
abbrev pub sized : ℕ → ℕ → Bool
sized E n = leb E 4096 && leb n 16777216

-- the bytes s are a table and r is its record: s is exactly the entries read from it, encoded, with zeros behind, and r
-- "must agree with the entries"
abbrev pub is_table : Bytes → Record → Bool
is_table s r =
    let t = table_in s r in
    sized r.entry_size (length s)
    && ascends [] t
    && every formed_entry t
    && same s (padded (length s) (encode t))
    && same_record r (record_of r.entry_size t)
