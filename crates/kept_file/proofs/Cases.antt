-- Computed cases of the kept file: its bytes, each number of the writer and of the reader, and what each wrong check
-- would make of them. The listing is document 01's L, or the shortest one; the entries are those after `a` to `b`.
use mathlib.Core.Bool.{Bool, true, false}
use mathlib.Core.List.{List, [], ◌∷◌, ◌++◌, map}
use mathlib.Core.Option.{none, some}
use mathlib.Core.Path.{◌≡◌, refl, ap}
use Prim.Native.Nat.{ℕ}
use lib.Dec.{leb}
use lib.ListN.{length, take, replicate}
use Rattle.model.specs.Bytes.{Bytes, bytes}
use Rattle.model.specs.Tree.{own, reference, deleted}
use Rattle.model.specs.Table.{encode, padded, record_of}
use Rattle.model.specs.Checks.{◌then◌, unless}
use Rattle.model.specs.Answer.{Reply, accepted, refused}
use Rattle.model.specs.Output.{Written}
use Rattle.model.specs.declared.Record.{Record}
use Rattle.model.proofs.Case.{path, file_at, listing_bytes}
use Rattle.model.proofs.Cases.{L, there}
use Rattle.kept_file.specs.Kept.{head, kept, entries_in, marked, undamaged, written, ReadBack, read_by, read_back}

-- L has 91 bytes, the entries 107; the shortest listing has 9
abbrev listing : Bytes
listing = listing_bytes L

abbrev entries : Bytes
entries = encode there

abbrev bare : Bytes
bare = listing_bytes []

-- the file of a listing and entries, and one with lengths, listing and entries given each by itself
abbrev file : Bytes → Bytes → Bytes
file l e = kept 1 l e

abbrev formed : ℕ → Bytes → ℕ → Bytes → Bytes
formed n l m e = head 1 ++ (bytes 4 n ++ (l ++ (bytes 4 m ++ e)))

-- an entry that is deleted, and two with a body
abbrev gone : Bytes
gone = encode ((path "k", deleted) ∷ [])

abbrev own_k : Bytes
own_k = encode ((path "k", own 7 (1 ∷ 2 ∷ [])) ∷ [])

abbrev long_k : Bytes
long_k = encode ((path "k", own 7 (replicate 17 1)) ∷ [])

-- the shortest file, byte by byte
pub shortest : file bare [] ≡ 79 ∷ 86 ∷ 84 ∷ 1 ∷ 0 ∷ 9 ∷ 0 ∷ 0 ∷ 0 ∷ 82 ∷ 68 ∷ 76 ∷ 1 ∷ 0 ∷ 0 ∷ 0 ∷ 0 ∷ 0 ∷ 0 ∷ 0 ∷ 0 ∷ 0 ∷ []
shortest = refl

-- the file of 67 bytes in docs/FORMATS.md: one listed file, `z`, and what its unlink leaves
pub dumped : file (listing_bytes (file_at "z" 0 0 ∷ [])) (encode ((path "z", deleted) ∷ []))
    ≡ (79 ∷ 86 ∷ 84 ∷ 1 ∷ 0 ∷ 29 ∷ 0 ∷ 0 ∷ 0 ∷ [])
    ++ (82 ∷ 68 ∷ 76 ∷ 1 ∷ 0 ∷ 1 ∷ 0 ∷ 0 ∷ 0 ∷ 1 ∷ 0 ∷ 2 ∷ replicate 16 0)
    ++ (122 ∷ 25 ∷ 0 ∷ 0 ∷ 0 ∷ 1 ∷ 0 ∷ 4 ∷ 0 ∷ replicate 20 0)
    ++ (122 ∷ [])
dumped = refl

-- a writing: listing, table, record and output, and what is answered and left
pub record WritingCase : Type 0 where
  pub listing : Bytes
  pub table : Bytes
  pub rec : Record
  pub output : Bytes
  pub gives : Written

abbrev keeping : Bytes → Bytes → Record → ℕ → Reply → Bytes → WritingCase
keeping l t r n a o = record { listing = l; table = t; rec = r; output = replicate n 7; gives = record { reply = a; output = o } }

abbrev did : WritingCase → Written
did c = written c.listing c.table c.rec c.output

pub writings : List WritingCase
writings =
    -- accepted: the file's length, and zeros behind the file
    keeping listing entries (record_of 40 there) 211 (accepted 211) (file listing entries)
    ∷ keeping listing entries (record_of 40 there) 213 (accepted 211) (file listing entries ++ (0 ∷ 0 ∷ []))
    -- zeros behind the table's entries are not written
    ∷ keeping listing (padded 120 entries) (record_of 40 there) 211 (accepted 211) (file listing entries)
    ∷ keeping bare [] (record_of 40 []) 22 (accepted 22) (file bare [])
    -- 1: another charge, the sum from before #107 among them; before 2, 16 and 13
    ∷ keeping listing entries (record { used = 107; count = 4; charge = 1207; entry_size = 40 }) 211 (refused 1 0 0) (replicate 211 7)
    ∷ keeping listing entries (record { used = 107; count = 4; charge = 1195; entry_size = 40 }) 211 (refused 1 0 0) (replicate 211 7)
    ∷ keeping [] entries (record { used = 107; count = 4; charge = 1207; entry_size = 41 }) 0 (refused 1 0 0) []
    -- 2: a byte behind the listing; before 16 and 13
    ∷ keeping (listing ++ (0 ∷ [])) entries (record_of 40 there) 212 (refused 2 0 0) (replicate 212 7)
    ∷ keeping [] entries (record_of 41 there) 0 (refused 2 0 0) []
    -- 16: before 13
    ∷ keeping listing entries (record_of 41 there) 211 (refused 16 0 0) (replicate 211 7)
    ∷ keeping listing entries (record_of 0 there) 0 (refused 16 0 0) []
    -- 13: a byte too short
    ∷ keeping listing entries (record_of 40 there) 210 (refused 13 0 0) (replicate 210 7)
    ∷ keeping bare [] (record_of 40 []) 21 (refused 13 0 0) (replicate 21 7)
    ∷ []

pub writings_hold : map did writings ≡ map (λ (c : WritingCase). c.gives) writings
unfolding writings
writings_hold = refl {a = map (λ (c : WritingCase). c.gives) writings}

-- a reading: the file, the buffer's length, and what is answered and left
pub record ReadingCase : Type 0 where
  pub file : Bytes
  pub buffer : Bytes
  pub gives : ReadBack

abbrev reads : Bytes → ℕ → ℕ → Record → Bytes → ReadingCase
reads f n k r t = record {
  file = f;
  buffer = replicate n 7;
  gives = record {
    reply = accepted 0;
    content = some (record { listing_start = 9; listing_len = k; «record» = r });
    table = t;
  };
}

abbrev turns_down : Bytes → ℕ → ℕ → ReadingCase
turns_down f n number = record {
  file = f;
  buffer = replicate n 7;
  gives = record { reply = refused number 0 0; content = none; table = replicate n 7 };
}

abbrev took : ReadingCase → ReadBack
took c = read_back c.file c.buffer

pub readings : List ReadingCase
readings =
    -- accepted: where the listing stands, the record with the charge summed (#107: "Older kept files read with the new
    -- sums", here of 2 bytes and of 17), and zeros behind the entries
    reads (file listing entries) 107 91 (record_of 40 there) entries
    ∷ reads (file listing entries) 109 91 (record_of 40 there) (entries ++ (0 ∷ 0 ∷ []))
    ∷ reads (file bare []) 0 9 (record_of 40 []) []
    ∷ reads (file bare own_k) 27 9 (record { used = 27; count = 1; charge = 313; entry_size = 40 }) own_k
    ∷ reads (file bare long_k) 42 9 (record { used = 42; count = 1; charge = 329; entry_size = 40 }) long_k
    -- an entry that the listing lacks, or that no call makes, is no damage
    ∷ reads (file bare (encode ((path "q/r", deleted) ∷ []))) 27 9 (record { used = 27; count = 1; charge = 299; entry_size = 40 }) (encode ((path "q/r", deleted) ∷ []))
    -- 14: nothing, a byte too short, another mark, another version; before 15 and 13
    ∷ turns_down [] 0 14
    ∷ turns_down (take 4 (head 1)) 4 14
    ∷ turns_down (79 ∷ 86 ∷ 85 ∷ 1 ∷ 0 ∷ []) 4 14
    ∷ turns_down (kept 2 listing entries) 107 14
    ∷ turns_down (kept 257 listing entries) 107 14
    ∷ turns_down (kept 0 bare []) 0 14
    -- 15: mark and version alone, a byte cut off or added, lengths that don't meet the end; before 13
    ∷ turns_down (head 1) 4 15
    ∷ turns_down (formed 91 listing 107 (take 106 entries)) 107 15
    ∷ turns_down (file listing entries ++ (0 ∷ [])) 108 15
    ∷ turns_down (formed 91 listing 108 (entries ++ (0 ∷ []))) 108 15
    ∷ turns_down (formed 91 listing 106 entries) 107 15
    ∷ turns_down (formed 92 listing 107 entries) 107 15
    ∷ turns_down (formed 0xFFFF_FFFF listing 107 entries) 107 15
    -- 15: a listing that is none (another version, its count, nothing), not 2
    ∷ turns_down (file [] []) 4 15
    ∷ turns_down (file (path "RDL" ++ bytes 2 2 ++ bytes 4 0) []) 4 15
    ∷ turns_down (file (path "RDL" ++ bytes 2 1 ++ bytes 4 1) []) 0 15
    -- 15: entries that are none: keys out of order, twice, empty; a reference to nothing; a kind that there is not
    ∷ turns_down (file bare (own_k ++ gone)) 60 15
    ∷ turns_down (file bare (encode ((path "l", deleted) ∷ (path "k", deleted) ∷ []))) 60 15
    ∷ turns_down (file bare (encode ((path "", deleted) ∷ []))) 60 15
    ∷ turns_down (file bare (encode ((path "k", reference 0 0 []) ∷ []))) 60 15
    ∷ turns_down (file bare (1 ∷ 0 ∷ 5 ∷ replicate 21 0 ++ (107 ∷ []))) 60 15
    -- 13: a byte too short
    ∷ turns_down (file listing entries) 106 13
    ∷ turns_down (file bare gone) 0 13
    ∷ []

pub readings_hold : map took readings ≡ map (λ (c : ReadingCase). c.gives) readings
unfolding readings
readings_hold = refl {a = map (λ (c : ReadingCase). c.gives) readings}

-- 1: a buffer of a byte more than 16 MiB, first, whatever the file; with 16 MiB the file counts
pub long_buffer : (f b : Bytes) → length b ≡ 16777217 → read_back f b ≡ record { reply = refused 1 0 0; content = none; table = b }
long_buffer f b l =
    let e : leb (length b) 16777216 ≡ false = ap (λ (n : ℕ). leb n 16777216) l in
    ap (λ (x : Bool). read_by (unless 1 x then unless 14 (marked f) then unless 15 (undamaged f) then unless 13 (leb (length (entries_in f)) (length b))) f b) e

pub longest_buffer : (b : Bytes) → length b ≡ 16777216 → (read_back [] b).reply ≡ refused 14 0 0
longest_buffer b l =
    let e : leb (length b) 16777216 ≡ true = ap (λ (n : ℕ). leb n 16777216) l in
    ap (λ (x : Bool). (read_by (unless 1 x then unless 14 false then unless 15 (undamaged []) then unless 13 (leb (length (entries_in [])) (length b))) [] b).reply) e
