-- A program that links the library, keeps a table that the calls built in a file and reads it again: what it reads from the answers' numbers, from the
-- record's four and from the place's two is a table that the calls built, over the same listing, beside the plain tree at writing.
use mathlib.Core.Path.{◌≡◌, refl, ap, sym, ◌∙◌}
use mathlib.Core.Bool.{Bool, true, false, cond, ◌&&◌}
use mathlib.Core.List.{List}
use mathlib.Core.Option.{some}
use Prim.Native.Nat.{ℕ, ◌/◌, ◌%◌}
use native.Mathlib.Omega.{arith}
use lib.ListN.{length, take, drop, get_or}
use Rattle.model.specs.Bytes.{Bytes}
use Rattle.model.specs.Answer.{Reply, accepted, refused}
use Rattle.model.specs.Outcome.{Store}
use Rattle.model.specs.Runs.{State, Built}
use Rattle.model.specs.Checks.{Check, pass, refuse}
use Rattle.model.proofs.Words.{IsBytes}
use Rattle.call_answer.specs.Meets.{stored}
use Rattle.kept_file.specs.Kept.{written, content_of, may_read, read_by, read_back}
use Rattle.kept_file.specs.declared.Content.{Content}
use Rattle.kept_file.proofs.Refused.{OneOf, first, second, third, fourth, refused_writing, refused_reading}
use Rattle.kept_file.proofs.Acts.{read_built}
use Rattle.overlay_packed.specs.Packed.{packed, record_in, place_of, content_numbers, content_place}
use Rattle.overlay.specs.Exported.{is_four, is_two, WriteLeft, write_left, kept_written, ReadLeft, read_left, kept_read}
use Rattle.overlay.proofs.Fitting.{unpacked_value}
use Rattle.overlay.proofs.Leaving.{chosen}

-- no refusal's number is 0, or a multiple of 256
written_number : (n : ℕ) → OneOf 1 2 16 13 n → n % 256 ≡ 0 → ⊥
written_number _ first h = omega arith
written_number _ second h = omega arith
written_number _ third h = omega arith
written_number _ fourth h = omega arith

read_number : (n : ℕ) → OneOf 1 14 15 13 n → n ≡ 0 → ⊥
read_number _ first h = omega arith
read_number _ second h = omega arith
read_number _ third h = omega arith
read_number _ fourth h = omega arith

-- what a writing's number and output say, where the lowest 8 bits are 0
module _ (l t : Bytes) (n : List ℕ) (four : length n ≡ 4) (o : Bytes) (a : ℕ) (o' : Bytes) (left : write_left a o' ≡ kept_written l t n o) (zero : a % 256 ≡ 0) where
  left_is : write_left a o' ≡ write_left (packed (written l t (record_in n) o).reply) (written l t (record_in n) o).output
  unfolding kept_written
  left_is =
      let w = written l t (record_in n) o in
      left ∙ sym (chosen n (write_left (packed w.reply) w.output) (write_left 1 o) four)

  output_is : o' ≡ (written l t (record_in n) o).output
  output_is = ap (λ (x : WriteLeft). x.output) left_is

  answer_is : a ≡ packed (written l t (record_in n) o).reply
  answer_is = ap (λ (x : WriteLeft). x.answer) left_is

  pub kept_accepted : (written l t (record_in n) o).reply ≡ accepted (a / 65536)
  kept_accepted = go (written l t (record_in n) o).reply refl
    where
      go : (r : Reply) → (written l t (record_in n) o).reply ≡ r → r ≡ accepted (a / 65536)
      go (accepted v) e = ap accepted (sym (unpacked_value v).1 ∙ ap (λ (m : ℕ). m / 65536) (sym (answer_is ∙ ap packed e)))
      go (refused i j k) e =
          let m = (refused_writing l t (record_in n) o i j k e).0 in
          let z : a ≡ packed (refused i j k) = answer_is ∙ ap packed e in
          let p = m.no_path in
          let q = m.no_length in
          absurd (written_number i m.number (omega arith))

-- what a reading's number, record, place and table say, where the number is 0
module _ (s u : Bytes) (m p : List ℕ) (a : ℕ) (m' p' : List ℕ) (u' : Bytes) (left : read_left a m' p' u' ≡ kept_read s u m p) (zero : a ≡ 0) where
  pub record Told (c : Content) : Type 0 where
    pub content : (read_back s u).content ≡ some c
    pub rec : record_in m' ≡ c.«record»
    pub place : p' ≡ place_of c
    pub table : u' ≡ (read_back s u).table

  by_test : (b : Bool) → read_left a m' p' u'
      ≡ cond b (read_left (packed (read_back s u).reply) (content_numbers (read_back s u).content m) (content_place (read_back s u).content p) (read_back s u).table) (read_left 1 m p u)
      → Told (content_of s)
  by_test false e = absurd (not_one (sym zero ∙ ap (λ (x : ReadLeft). x.answer) e))
    where
      not_one : ◌≡◌ {A = ℕ} 0 1 → ⊥
      not_one z = omega arith
  by_test true e = go (may_read s u) refl
    where
      go : (c : Check) → may_read s u ≡ c → Told (content_of s)
      go pass h =
          let content : (read_back s u).content ≡ some (content_of s) = ap (λ (c : Check). (read_by c s u).content) h in record {
            content = content;
            rec = ap record_in (ap (λ (x : ReadLeft). x.rec) e ∙ ap (λ c. content_numbers c m) content);
            place = ap (λ (x : ReadLeft). x.place) e ∙ ap (λ c. content_place c p) content;
            table = ap (λ (x : ReadLeft). x.table) e;
          }
      go (refuse i j k) h =
          let r : (read_back s u).reply ≡ refused i j k = ap (λ (c : Check). (read_by c s u).reply) h in
          let q = (refused_reading s u i j k r).0 in
          let z : 0 ≡ packed (refused i j k) = sym zero ∙ ap (λ (x : ReadLeft). x.answer) e ∙ ap packed r in
          let v = q.no_path in
          let w = q.no_length in
          absurd (read_number i q.number (omega arith))

  pub read_told : Told (content_of s)
  unfolding kept_read
  read_told = by_test (is_four m && is_two p) left

-- a built table, written and read through the library
module _ (l : Bytes) (bytes : IsBytes l) (E : ℕ) (x : State) (b : Built l E x) (t : Bytes) (n : List ℕ) (four : length n ≡ 4) (have : x.store ≡ stored t (record_in n))
    (o : Bytes) (a : ℕ) (o' : Bytes) (wrote : write_left a o' ≡ kept_written l t n o) (accepted-writing : a % 256 ≡ 0) where
  -- the file, as its writer reads it off the answer
  abbrev file : Bytes
  file = take (a / 65536) o'

  -- the state that the reader has: the same listing at the place told, and a table that the calls built
  pub record Resumed (u' : Bytes) (m' p' : List ℕ) : Type 0 where
    pub state : State
    pub built : Built l E state
    pub store : state.store ≡ stored u' (record_in m')
    pub plain : state.plain ≡ x.plain
    pub same_listing : take (get_or p' 1 0) (drop (get_or p' 0 0) file) ≡ l

  pub handing_read : (u : Bytes) (m p : List ℕ) (a₂ : ℕ) (m' p' : List ℕ) (u' : Bytes) → read_left a₂ m' p' u' ≡ kept_read file u m p → a₂ ≡ 0 → Resumed u' m' p'
  handing_read u m p a₂ m' p' u' read zero =
      let k = read_told file u m p a₂ m' p' u' read zero in
      let c : Content = content_of file in
      let w : (written l x.store.table x.store.rec o).reply ≡ accepted (a / 65536)
      = ap (λ (s : Store). (written l s.table s.rec o).reply) have ∙ kept_accepted l t n four o a o' wrote accepted-writing in
      let f : take (a / 65536) (written l x.store.table x.store.rec o).output ≡ file
      = ap (λ (s : Store). take (a / 65536) (written l s.table s.rec o).output) have
      ∙ ap (take (a / 65536)) (sym (output_is l t n four o a o' wrote accepted-writing)) in
      let content = ap (λ (s : Bytes). (read_back s u).content) f ∙ k.content in
      let r = read_built l E bytes x b o (a / 65536) w u c content in
      record {
        state = record { store = record { table = (read_back (take (a / 65536) (written l x.store.table x.store.rec o).output) u).table; rec = c.«record» }; plain = x.plain };
        built = r.1;
        store = λ i. stored ((ap (λ (s : Bytes). (read_back s u).table) f ∙ sym k.table) i) (sym k.rec i);
        plain = refl;
        same_listing = ap (λ (q : List ℕ). take (get_or q 1 0) (drop (get_or q 0 0) file)) k.place
            ∙ ap (λ (s : Bytes). take c.listing_len (drop c.listing_start s)) (sym f) ∙ r.0;
      }
