-- Change request #101, "Kept overlay file, writer and reader": the file's bytes, and what the writer and the reader
-- answer and leave, for every input.
use Rattle.std.specs.Prelude.{Bool, cond, ◌&&◌, [], ◌∷◌, ◌++◌, ℕ, zero, suc, ◌+◌, leb, eqb, length, take, drop}
use Rattle.std.specs.Prelude.{Result, Ok, Err}
use Rattle.std.proofs.Math.Option.{Option, none, some}
use Rattle.model.specs.Bytes.{Bytes, number_at, bytes, same}
use Rattle.model.specs.Tree.{Table}
use Rattle.model.specs.Listing.{is_listing}
use Rattle.model.specs.Table.{encode, padded, record_of, key_at, entry_at, entry_end, table_in, is_table}
use Rattle.model.specs.Checks.{Check, pass, refuse, ◌then◌, unless}
use Rattle.model.specs.Answer.{Reply, accepted, refused}
use Rattle.model.specs.Output.{Written, written_by}
use Rattle.model.specs.declared.Record.{Record}
use Rattle.kept_file.specs.declared.Content.{Content}
use Rattle.kept_file.specs.declared.WriteError.{WriteError}
use Rattle.kept_file.specs.declared.WriteError.TheVariants as write_error
use Rattle.kept_file.specs.declared.ReadError.{ReadError}
use Rattle.kept_file.specs.declared.ReadError.TheVariants as read_error

-- "Mark `OVT`, a 16-bit version 1": what a file of a version begins with
abbrev pub head : ℕ → Bytes
head version = (79 ∷ 86 ∷ 84 ∷ []) ++ bytes 2 version

-- "…, listing length (32 bits, little-endian like the rest), listing, length of the entries (32 bits), entries, and no
-- byte more."
abbrev pub kept : ℕ → Bytes → Bytes → Bytes
kept version listing entries =
    head version ++ (bytes 4 (length listing) ++ (listing ++ (bytes 4 (length entries) ++ entries)))

-- the version that a file names, and how many bytes stand before the listing's length in a file of a version
abbrev pub version_in : Bytes → ℕ
version_in s = number_at s 3 2

abbrev pub head_length : ℕ → ℕ
head_length version = 5

-- where the listing stands in a file: "its part of the file, not a copy"
abbrev pub start_of_listing : Bytes → ℕ
start_of_listing s = head_length (version_in s) + 4

abbrev pub listing_length : Bytes → ℕ
listing_length s = number_at s (head_length (version_in s)) 4

abbrev pub listing_in : Bytes → Bytes
listing_in s = take (listing_length s) (drop (start_of_listing s) s)

-- what stands behind the listing and the length of the entries
abbrev pub entries_in : Bytes → Bytes
entries_in s = drop (start_of_listing s + listing_length s + 4) s

-- "E is 40 and isn't written."
abbrev pub entry_size_in : Bytes → ℕ
entry_size_in s = 40

-- the entries in s up to its end, at most n of them: their count isn't written
abbrev pub entries_up_to : Bytes → ℕ → ℕ → Table
entries_up_to s zero at = []
entries_up_to s (suc n) at = cond (leb (length s) at) [] ((key_at s at, entry_at s at) ∷ entries_up_to s n
    (entry_end s at))

-- "The charge isn't written either; the reader sums it."
abbrev pub summed : ℕ → Bytes → Record
summed E s = record_of E (entries_up_to s (length s) 0)

-- s is a table of document 01 that its entries fill
abbrev pub is_entries : ℕ → Bytes → Bool
is_entries E s = is_table s (summed E s) && eqb (summed E s).used (length s)

-- "A wrong mark or version, or a file too short for them, is 14"
abbrev pub marked : Bytes → Bool
marked s = same (take 5 s) (head 1)

-- "any other damage, entries above 16 MiB included, 15 after it": the listing and the entries are in form, and the file
-- is what they make
abbrev pub undamaged : Bytes → Bool
undamaged s =
    is_listing (listing_in s) && is_entries (entry_size_in s) (entries_in s)
    && same s (kept (version_in s) (listing_in s) (entries_in s))

-- the file that is written
abbrev pub file_of : Bytes → Bytes → Record → Bytes
file_of listing table rec = kept 1 listing (encode (table_in table rec))

-- "writing with E other than 40 is 16 after 1 and 2; an output or table buffer too short is 13, last"
abbrev pub may_write : Bytes → Bytes → Record → Bytes → Check
may_write listing table rec output =
    unless 1 (is_table table rec)
    then unless 2 (is_listing listing)
    then unless 16 (eqb rec.entry_size 40)
    then unless 13 (leb (length (file_of listing table rec)) (length output))

-- what the writer answers, and the output buffer after it: "What a buffer has beyond its content is 0."
abbrev pub written : Bytes → Bytes → Record → Bytes → Written
written listing table rec output = written_by (may_write listing table rec output) (file_of listing table rec) output

-- what the reader answers, what the file holds where it is accepted, and the table buffer after it
pub record ReadBack : Type 0 where
  pub reply : Reply
  pub content : Option Content
  pub table : Bytes

abbrev pub content_of : Bytes → Content
content_of file = record {
  listing_start = start_of_listing file;
  listing_len = listing_length file;
  «record» = summed (entry_size_in file) (entries_in file);
}

-- "In reading, the table buffer's old bytes don't matter and one above 16 MiB is 1, first."; 14, 15; 13, last
abbrev pub may_read : Bytes → Bytes → Check
may_read file buffer =
    unless 1 (leb (length buffer) 16777216)
    then unless 14 (marked file)
    then unless 15 (undamaged file)
    then unless 13 (leb (length (entries_in file)) (length buffer))

abbrev pub read_by : Check → Bytes → Bytes → ReadBack
read_by pass file buffer =
    record { reply = accepted 0; content = some (content_of file); table = padded (length buffer) (entries_in file) }
read_by (refuse n w k) file buffer = record { reply = refused n w k; content = none; table = buffer }

abbrev pub read_back : Bytes → Bytes → ReadBack
read_back file buffer = read_by (may_read file buffer) file buffer

-- What the declared answers say: "Numbers from 14 up … join demand 1's and 01's table, return 0, 0 and leave all
-- unchanged."
abbrev pub told_writing : Result ℕ WriteError → Reply
told_writing (Ok n) = accepted n
told_writing (Err write_error.MalformedTable) = refused 1 0 0
told_writing (Err write_error.MalformedListing) = refused 2 0 0
told_writing (Err write_error.OtherEntrySize) = refused 16 0 0
told_writing (Err write_error.NoRoom) = refused 13 0 0

abbrev pub told_reading : Result Content ReadError → Reply
told_reading (Ok c) = accepted 0
told_reading (Err read_error.LongTable) = refused 1 0 0
told_reading (Err read_error.NotKept) = refused 14 0 0
told_reading (Err read_error.Damaged) = refused 15 0 0
told_reading (Err read_error.NoRoom) = refused 13 0 0

abbrev pub told_content : Result Content ReadError → Option Content
told_content (Ok c) = some c
told_content (Err e) = none
