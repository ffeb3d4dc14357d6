-- #101: "Reading a written file returns the same listing …, table and record, and each accepted file is what the writer
-- makes of its reading." Assumes that a table's mtimes have 64 bits (`Words`), as those of built tables have, or that
-- the elements of the table or of the file are bytes, from which it follows.
use mathlib.Core.Path.{◌≡◌, refl, ap, sym, ◌∙◌, subst}
use mathlib.Core.Bool.{Bool, true}
use mathlib.Core.Option.{some}
use Prim.Native.Nat.{ℕ, ◌+◌, ◌≤◌, ◌<◌}
use native.Mathlib.Omega.{arith}
use lib.Dec.{leb, eqb}
use lib.ListN.{length, take, drop}
use borrow.Author.Tests.{leb-true, le-leb, eq-eqb}
use Rattle.model.specs.Bytes.{Bytes}
use Rattle.model.specs.Tree.{Table}
use Rattle.model.specs.Listing.{is_listing}
use Rattle.model.specs.Table.{encode, padded, table_in, is_table}
use Rattle.model.specs.Checks.{Check, pass, refuse, ◌then◌, unless}
use Rattle.model.specs.Answer.{accepted}
use Rattle.model.specs.Output.{written_by}
use Rattle.model.specs.declared.Record.{Record}
use Rattle.model.proofs.Orders.{eqb_eq}
use Rattle.model.proofs.Words.{Words, IsBytes}
use Rattle.model.proofs.Codec.{decoded, moved_table}
use Rattle.model.proofs.Invariant.{then_pass, unless_pass}
use Rattle.model.proofs.Outputs.{writing_accepted}
use Rattle.model.proofs.Formed.{bytes_drop}
use Rattle.model.proofs.Resumed.{words_read}
use Rattle.model.proofs.Listings.{checked}
use Rattle.kept_file.specs.Kept.{kept, start_of_listing, listing_length, listing_in, entries_in, summed}
use Rattle.kept_file.specs.Kept.{is_entries, marked, undamaged, file_of, may_write, written, content_of}
use Rattle.kept_file.specs.Kept.{may_read, read_by, read_back}
use Rattle.kept_file.specs.declared.Content.{Content}
use Rattle.kept_file.proofs.Entries.{entries_of_lem, are_entries}
use Rattle.kept_file.proofs.Files.{kept_marked, kept_length, kept_listing, kept_entries}
use Rattle.kept_file.proofs.Files.{kept_undamaged, parts}

-- four checks, one after the other, pass where each of the tests does
module _ (i j k m : ℕ) (a b c d : Bool) where
  pub all_pass : a ≡ true → b ≡ true → c ≡ true → d ≡ true
      → (unless i a then unless j b then unless k c then unless m d) ≡ pass
  all_pass x y z w = rw (x, y, z, w)

  pub all_passed : (unless i a then unless j b then unless k c then unless m d) ≡ pass
      → (a ≡ true) × (b ≡ true) × (c ≡ true) × (d ≡ true)
  all_passed h =
      let x = then_pass (unless i a) (unless j b then unless k c then unless m d) h in
      let y = then_pass (unless j b) (unless k c then unless m d) x.1 in
      let z = then_pass (unless k c) (unless m d) y.1 in
      (unless_pass i a x.0, unless_pass j b y.0, unless_pass k c z.0, unless_pass m d z.1)

-- what is written where no check refuses
pub written_passed : (listing table : Bytes) (rec : Record) (output : Bytes) → is_table table rec ≡ true
    → is_listing listing ≡ true → rec.entry_size ≡ 40 → length (file_of listing table rec) ≤ length output
    → written listing table rec output
    ≡ record {
      reply = accepted (length (file_of listing table rec));
      output = padded (length output) (file_of listing table rec);
    }
written_passed listing table rec output t l e h =
    let file : Bytes = file_of listing table rec in
    ap (λ (c : Check). written_by c file output) (all_pass 1 2 16 13
    (is_table table rec) (is_listing listing) (eqb rec.entry_size 40) (leb (length file) (length output))
    t l (eq-eqb rec.entry_size 40 e) (le-leb (length file) (length output) h))

-- what an accepted writing found, and what it leaves
pub record WrittenFile (listing table : Bytes) (rec : Record) (output : Bytes) (n : ℕ) : Type 0 where
  pub well_formed : is_table table rec ≡ true
  pub well_listed : is_listing listing ≡ true
  pub entry_size : rec.entry_size ≡ 40
  pub length_is : n ≡ length (file_of listing table rec)
  pub file : take n (written listing table rec output).output ≡ file_of listing table rec

pub written_file : (listing table : Bytes) (rec : Record) (output : Bytes) (n : ℕ)
    → (written listing table rec output).reply ≡ accepted n → WrittenFile listing table rec output n
written_file listing table rec output n h =
    let file : Bytes = file_of listing table rec in
    let x = writing_accepted (may_write listing table rec output) file output n h in
    let y = all_passed 1 2 16 13
    (is_table table rec) (is_listing listing) (eqb rec.entry_size 40) (leb (length file) (length output)) x.0 in
    record {
      well_formed = y.0;
      well_listed = y.1;
      entry_size = eqb_eq rec.entry_size 40 y.2;
      length_is = x.1;
      file = x.2;
    }

-- "Reading a written file returns the same listing (as its part of the file, not a copy), table and record"
pub record SameRead (listing table : Bytes) (rec : Record) (buffer : Bytes) : Type 0 where
  -- where the listing stands, the record, and the entries with zeros behind
  pub answer : read_back (file_of listing table rec) buffer
      ≡ record {
        reply = accepted 0;
        content = some (record { listing_start = 9; listing_len = length listing; «record» = rec });
        table = padded (length buffer) (encode (table_in table rec));
      }
  pub listing_part : listing_in (file_of listing table rec) ≡ listing
  -- the buffer is a table with the same entries
  pub entries : table_in (padded (length buffer) (encode (table_in table rec))) rec ≡ table_in table rec
  pub well_formed : is_table (padded (length buffer) (encode (table_in table rec))) rec ≡ true

-- the file of a listing in form and of entries, read
read_whole : (listing entries : Bytes) (rec : Record) (buffer : Bytes) → is_listing listing ≡ true
    → is_entries 40 entries ≡ true → summed 40 entries ≡ rec → length entries ≤ length buffer → length buffer ≤ 16777216
    → read_back (kept 1 listing entries) buffer
    ≡ record {
      reply = accepted 0;
      content = some (record { listing_start = 9; listing_len = length listing; «record» = rec });
      table = padded (length buffer) entries;
    }
read_whole listing entries rec buffer l i r fits small =
    let file : Bytes = kept 1 listing entries in
    let m = (checked listing l).small in
    let short : length listing < 0x1_0000_0000 = omega arith in
    let len : listing_length file ≡ length listing = kept_length listing entries short in
    let part : entries_in file ≡ entries = kept_entries listing entries short in
    let rec_is : summed 40 (entries_in file) ≡ rec = ap (summed 40) part ∙ r in
    let room : length (entries_in file) ≤ length buffer = rw part fits in
    let passed = all_pass 1 14 15 13
    (leb (length buffer) 16777216) (marked file) (undamaged file) (leb (length (entries_in file)) (length buffer))
    (le-leb (length buffer) 16777216 small) (kept_marked listing entries) (kept_undamaged listing entries l i)
    (le-leb (length (entries_in file)) (length buffer) room) in
    let same : read_by pass file buffer ≡ record {
      reply = accepted 0;
      content = some (record { listing_start = 9; listing_len = length listing; «record» = rec });
      table = padded (length buffer) entries;
    } = λ x. record {
      reply = accepted 0;
      content = some (record { listing_start = 9; listing_len = len x; «record» = rec_is x });
      table = padded (length buffer) (part x);
    } in
    ap (λ (c : Check). read_by c file buffer) passed ∙ same

module _ (listing table : Bytes) (rec : Record) (l : is_listing listing ≡ true) (t : is_table table rec ≡ true)
    (e : rec.entry_size ≡ 40) (buffer : Bytes) (fits : length (encode (table_in table rec)) ≤ length buffer)
    (small : length buffer ≤ 16777216) where
  pub kept_read_words : Words (table_in table rec) → SameRead listing table rec buffer
  kept_read_words w =
      let entries : Bytes = encode (table_in table rec) in
      let d = decoded table rec t in
      let i = entries_of_lem 40 (table_in table rec) d.ascending d.formed w (omega arith) (omega arith) in
      let m = (checked listing l).small in
      let short : length listing < 0x1_0000_0000 = omega arith in
      let n = moved_table table rec t w (length buffer) fits small in
      record {
        answer = read_whole listing entries rec buffer l i.1 (rw (i.0, ← e) (sym d.rec)) fits small;
        listing_part = kept_listing listing entries short;
        entries = n.0;
        well_formed = n.1;
      }

  pub kept_read : IsBytes table → SameRead listing table rec buffer
  kept_read b = kept_read_words (words_read table b rec.count 0)

  -- #107: "Older kept files read with the new sums." Whatever charge the record had when the file was written, it has
  -- the table's now.
  pub older_read : IsBytes table → (c : ℕ)
      → read_back (file_of listing table (record { used = rec.used; count = rec.count; charge = c; entry_size = rec.entry_size })) buffer
      ≡ record {
        reply = accepted 0;
        content = some (record { listing_start = 9; listing_len = length listing; «record» = rec });
        table = padded (length buffer) (encode (table_in table rec));
      }
  older_read b c = (kept_read b).answer

-- "each accepted file is what the writer makes of its reading"
pub record SameWritten (file buffer : Bytes) : Type 0 where
  pub content : Content
  pub content_is : (read_back file buffer).content ≡ some content
  pub listing_part : take content.listing_len (drop content.listing_start file) ≡ listing_in file
  pub well_formed : is_table (read_back file buffer).table content.«record» ≡ true
  pub same_file : file_of (listing_in file) (read_back file buffer).table content.«record» ≡ file
  pub answer : (output : Bytes) → length file ≤ length output
      → written (listing_in file) (read_back file buffer).table content.«record» output
      ≡ record { reply = accepted (length file); output = padded (length output) file }

-- only a check that passed accepts a reading
read_by_lem : (c : Check) (file buffer : Bytes) (v : ℕ) → (read_by c file buffer).reply ≡ accepted v → c ≡ pass
read_by_lem pass file buffer v h = refl
read_by_lem (refuse x y z) file buffer v h = cc

pub kept_written : (file : Bytes) → IsBytes file → (buffer : Bytes) (v : ℕ) → (read_back file buffer).reply ≡ accepted v
    → SameWritten file buffer
kept_written file b buffer v h =
    let part : Bytes = entries_in file in
    let rec : Record = summed 40 part in
    let t : Table = table_in part rec in
    let p = read_by_lem (may_read file buffer) file buffer v h in
    let q = all_passed 1 14 15 13 (leb (length buffer) 16777216) (marked file) (undamaged file)
    (leb (length part) (length buffer)) p in
    let made = parts file q.1 q.2 in
    let a = are_entries 40 part made.entries in
    let e : encode t ≡ part = ap encode a.entries ∙ sym a.bytes in
    let w = words_read part (bytes_drop (start_of_listing file + listing_length file + 4) file b) rec.count 0 in
    let fits : length (encode t) ≤ length buffer = rw e (leb-true (length part) (length buffer) q.3) in
    let n = moved_table part rec a.table w (length buffer) fits (leb-true (length buffer) 16777216 q.0) in
    let buf : (read_back file buffer).table ≡ padded (length buffer) (encode t)
    = ap (λ (c : Check). (read_by c file buffer).table) p ∙ ap (padded (length buffer)) (sym e) in
    let well : is_table (read_back file buffer).table rec ≡ true = ap (λ (s : Bytes). is_table s rec) buf ∙ n.1 in
    let same : file_of (listing_in file) (read_back file buffer).table rec ≡ file
    = ap (λ (s : Bytes). file_of (listing_in file) s rec) buf
    ∙ ap (λ (y : Table). kept 1 (listing_in file) (encode y)) n.0
    ∙ ap (kept 1 (listing_in file)) e
    ∙ sym made.file in
    record {
      content = content_of file;
      content_is = ap (λ (c : Check). (read_by c file buffer).content) p;
      listing_part = refl;
      well_formed = well;
      same_file = same;
      answer = λ output l. written_passed (listing_in file) (read_back file buffer).table rec output well made.listing
          refl (subst (λ (f : Bytes). length f ≤ length output) (sym same) l)
          ∙ ap (λ (f : Bytes). record { reply = accepted (length f); output = padded (length output) f }) same;
    }
