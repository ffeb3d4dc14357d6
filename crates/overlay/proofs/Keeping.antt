-- From what the writer and the reader of kept files give to what their exports answer and leave. A written file's length fits in a packed answer:
-- listing and entries have at most 16 MiB each.
use mathlib.Core.Path.{◌≡◌, refl, ap, sym, ◌∙◌, subst}
use mathlib.Core.Bool.{Bool, true, false, cond, ◌&&◌}
use mathlib.Core.List.{List}
use Prim.Native.Nat.{ℕ, ◌<◌}
use native.Mathlib.Omega.{arith}
use lib.Dec.{leb, eqb}
use lib.ListN.{length}
use borrow.Author.Tests.{eq-eqb, ne_eqb}
use Rattle.model.specs.Bytes.{Bytes}
use Rattle.model.specs.Listing.{is_listing}
use Rattle.model.specs.Table.{encode, table_in, is_table}
use Rattle.model.specs.Checks.{pass, ◌then◌, unless}
use Rattle.model.specs.Output.{written_by}
use Rattle.model.specs.declared.Record.{Record}
use Rattle.model.proofs.Codec.{decoded}
use Rattle.model.proofs.Listings.{checked}
use Rattle.kept_file.specs.Kept.{file_of, written, ReadBack, read_back, told_writing, told_reading, told_content}
use Rattle.std.specs.Prelude.{Result}
use Rattle.kept_file.specs.declared.Content.{Content}
use Rattle.kept_file.specs.declared.WriteError.{WriteError}
use Rattle.kept_file.specs.declared.ReadError.{ReadError}
use Rattle.kept_file.proofs.Files.{kept_size}
use Rattle.kept_file.proofs.RoundTrip.{all_passed}
use Rattle.overlay_packed.specs.Packed.{packed, Fits, record_in, content_numbers, content_place}
use Rattle.overlay.specs.Exported.{is_four, is_two, write_left, kept_written, read_left, kept_read}
use Rattle.overlay.proofs.Leaving.{is_four_lem, not_four}
use Rattle.overlay.proofs.Filling.{not_filled, fill_settled}

-- every answer of the writer fits
module _ (l t : Bytes) (r : Record) (o : Bytes) where
  abbrev file : Bytes
  file = file_of l t r

  file_small : is_table t r ≡ true → is_listing l ≡ true → length file < 0x1_0000_0000_0000
  file_small h g =
      let k = kept_size l (encode (table_in t r)) in
      let d = decoded t r h in
      let a = d.fits in
      let b = d.length_most in
      let c = (checked l g).small in
      omega arith

  checks_fit : (a b c d : Bool) → ((unless 1 a then unless 2 b then unless 16 c then unless 13 d) ≡ pass → length file < 0x1_0000_0000_0000)
      → Fits (written_by (unless 1 a then unless 2 b then unless 16 c then unless 13 d) file o).reply
  checks_fit false b c d h = (omega arith, omega arith, omega arith)
  checks_fit true false c d h = (omega arith, omega arith, omega arith)
  checks_fit true true false d h = (omega arith, omega arith, omega arith)
  checks_fit true true true false h = (omega arith, omega arith, omega arith)
  checks_fit true true true true h = h refl

  pub written_fits : Fits (written l t r o).reply
  written_fits =
      let a : Bool = is_table t r in
      let b : Bool = is_listing l in
      let c : Bool = eqb r.entry_size 40 in
      let d : Bool = leb (length file) (length o) in
      checks_fit a b c d (λ e. let p = all_passed 1 2 16 13 a b c d e in file_small p.0 p.1)

-- the kept file of the table t with the record n
module _ (l t : Bytes) (n : List ℕ) (o : Bytes) where
  pub not_written : (length n ≡ 4 → ⊥) → write_left 1 o ≡ kept_written l t n o
  unfolding kept_written
  not_written h = not_filled n o (λ r. written l t r o) h

  -- the writer answered a, and left o'
  module _ (h : length n ≡ 4) (r : Record) (e : r ≡ record_in n) (a : Result ℕ WriteError) (f : told_writing a ≡ (written l t r o).reply) (o' : Bytes) (g : o' ≡ (written l t r o).output) where
    pub writing_fits : Fits (told_writing a)
    writing_fits = subst Fits (sym f) (written_fits l t r o)

    pub write_settled : (x : ℕ) → x ≡ packed (told_writing a) → write_left x o' ≡ kept_written l t n o
    unfolding kept_written
    write_settled x k = fill_settled n o (λ q. written l t q o) h r e (told_writing a) f o' g x k

-- a kept file read into the buffer t
module _ (s t : Bytes) (n p : List ℕ) where
  abbrev r : ReadBack
  r = read_back s t

  -- what is left, by whether record and place have their numbers
  by_lengths : (b c : Bool) → is_four n ≡ b → is_two p ≡ c
      → cond (b && c) (read_left (packed r.reply) (content_numbers r.content n) (content_place r.content p) r.table) (read_left 1 n p t)
      ≡ kept_read s t n p
  unfolding kept_read
  by_lengths b c e f = sym (λ z. cond (e z && f z)
      (read_left (packed r.reply) (content_numbers r.content n) (content_place r.content p) r.table) (read_left 1 n p t))

  pub no_record : (length n ≡ 4 → ⊥) → read_left 1 n p t ≡ kept_read s t n p
  no_record h = by_lengths false (is_two p) (not_four n h) refl

  pub no_place : length n ≡ 4 → (length p ≡ 2 → ⊥) → read_left 1 n p t ≡ kept_read s t n p
  no_place h g = by_lengths true false (is_four_lem n h) (ne_eqb (length p) 2 g)

  -- the reader answered a, and left t'
  pub read_settled : length n ≡ 4 → length p ≡ 2 → (a : Result Content ReadError) → told_reading a ≡ r.reply → told_content a ≡ r.content → (t' : Bytes) → t' ≡ r.table
      → (x : ℕ) (m q : List ℕ) → x ≡ packed (told_reading a) → m ≡ content_numbers (told_content a) n → q ≡ content_place (told_content a) p
      → read_left x m q t' ≡ kept_read s t n p
  read_settled h g a f c t' k x m q ex em eq =
      (λ z. read_left ((ex ∙ ap packed f) z) ((em ∙ (λ y. content_numbers (c y) n)) z) ((eq ∙ (λ y. content_place (c y) p)) z) (k z))
      ∙ by_lengths true true (is_four_lem n h) (eq-eqb (length p) 2 g)
