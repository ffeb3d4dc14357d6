-- What the writer answers and leaves: a law for each exit of its checks, and what it says that they pass.
use mathlib.Core.Path.{◌≡◌, ap, sym, subst⁻¹, ◌∙◌}
use mathlib.Core.Bool.{Bool, true, false}
use Prim.Native.Nat.{ℕ, ◌+◌, ◌≤◌, ◌<◌}
use native.Mathlib.Omega.{arith}
use lib.Dec.{leb, eqb}
use lib.ListN.{length, take}
use borrow.Author.Tests.{leb-true, lt-leb, eq-eqb}
use Rattle.std.specs.Prelude.{Result, Ok, Err}
use Rattle.model.specs.Bytes.{Bytes}
use Rattle.model.specs.Listing.{is_listing}
use Rattle.model.specs.Table.{encode, padded, table_in, is_table}
use Rattle.model.specs.Checks.{Check, pass, ◌then◌, unless}
use Rattle.model.specs.Answer.{Reply, refused}
use Rattle.model.specs.Output.{written_by}
use Rattle.model.specs.declared.Record.{Record}
use Rattle.model.proofs.Codec.{decoded}
use Rattle.model.proofs.Outputs.{writing_accepted, writing_refused}
use Rattle.model.proofs.Listings.{checked}
use Rattle.kept_file.specs.Kept.{kept, file_of, may_write, written, told_writing}
use Rattle.kept_file.specs.declared.WriteError.{WriteError}
use Rattle.kept_file.specs.declared.WriteError.TheVariants as write_error
use Rattle.kept_file.proofs.Files.{kept_size}
use Rattle.kept_file.proofs.RoundTrip.{all_passed}
use Rattle.kept_write.proofs.Files.{used_is, used_bytes, used_within}

-- listing and entries together: no sum wraps
pub small : (l s : Bytes) (r : Record) → is_table s r ≡ true → is_listing l ≡ true → length l + r.used ≤ 33554432
small l s r t i =
    let a = (checked l i).small in
    let b = (decoded s r t).length_most in
    let c = used_within s r t in
    omega arith

-- the exits of the checks, in their order
module _ (l s : Bytes) (r : Record) (o : Bytes) where
  abbrev answer : Bool → Bool → Bool → Bool → Reply
  answer t i e f = (written_by (unless 1 t then unless 2 i then unless 16 e then unless 13 f) (file_of l s r) o).reply

  abbrev room : Bool
  room = leb (length (file_of l s r)) (length o)

  pub no_table : is_table s r ≡ false → refused 1 0 0 ≡ (written l s r o).reply
  no_table t = sym (λ i. answer (t i) (is_listing l) (eqb r.entry_size 40) room)

  pub no_listing : is_table s r ≡ true → is_listing l ≡ false → refused 2 0 0 ≡ (written l s r o).reply
  no_listing t g = sym (λ i. answer (t i) (g i) (eqb r.entry_size 40) room)

  module _ (t : is_table s r ≡ true) (g : is_listing l ≡ true) (d : r.entry_size ≡ 40) where
    size : eqb r.entry_size 40 ≡ true
    size = eq-eqb r.entry_size 40 d

    file_length : length (file_of l s r) ≡ 9 + length l + 4 + r.used
    file_length = let u = used_is s r t in let k = kept_size l (encode (table_in s r)) in omega arith

    pub no_room : length o < 9 + length l + 4 + r.used → refused 13 0 0 ≡ (written l s r o).reply
    no_room h =
        let n = file_length in
        let f : room ≡ false = lt-leb (length (file_of l s r)) (length o) (omega arith) in
        sym (λ i. answer (t i) (g i) (size i) (f i))

-- a refusal leaves the output as it was
refused_as_was : (c : Check) (f o : Bytes) (n w k : ℕ) → refused n w k ≡ (written_by c f o).reply → o ≡ (written_by c f o).output
refused_as_was c f o n w k h = sym (writing_refused c f o n w k (sym h)).1

-- a is what `judge` answered
module _ (l s : Bytes) (r : Record) (o : Bytes) (a : Result ℕ WriteError) (h : told_writing a ≡ (written l s r o).reply) where
  pub not_done : (e : WriteError) → a ≡ Err e → o ≡ (written l s r o).output
  not_done e d = as_was e (sym (ap told_writing d) ∙ h)
    where
      as_was : (e : WriteError) → told_writing (Err e) ≡ (written l s r o).reply → o ≡ (written l s r o).output
      as_was write_error.MalformedTable = refused_as_was (may_write l s r o) (file_of l s r) o 1 0 0
      as_was write_error.MalformedListing = refused_as_was (may_write l s r o) (file_of l s r) o 2 0 0
      as_was write_error.OtherEntrySize = refused_as_was (may_write l s r o) (file_of l s r) o 16 0 0
      as_was write_error.NoRoom = refused_as_was (may_write l s r o) (file_of l s r) o 13 0 0

  module _ (n : ℕ) (d : a ≡ Ok n) where
    passes : may_write l s r o ≡ pass
    passes = (writing_accepted (may_write l s r o) (file_of l s r) o n (sym h ∙ ap told_writing d)).0

    abbrev fits : Bool
    fits = leb (length (file_of l s r)) (length o)

    tests : (is_table s r ≡ true) × (is_listing l ≡ true) × (eqb r.entry_size 40 ≡ true) × (fits ≡ true)
    tests = all_passed 1 2 16 13 (is_table s r) (is_listing l) (eqb r.entry_size 40) fits passes

    table_is : is_table s r ≡ true
    table_is = tests.0

    pub entries_within : r.used ≤ length s
    entries_within = used_within s r table_is

    -- the file, with the used bytes for the entries
    file_is : kept 1 l (take r.used s) ≡ file_of l s r
    file_is = ap (kept 1 l) (used_bytes s r table_is)

    pub file_within : length (kept 1 l (take r.used s)) ≤ length o
    file_within = subst⁻¹ (λ (f : Bytes). length f ≤ length o) file_is (leb-true (length (file_of l s r)) (length o) tests.3)

    pub now_written : (u : Bytes) → u ≡ padded (length o) (kept 1 l (take r.used s)) → u ≡ (written l s r o).output
    now_written u e =
        e
        ∙ ap (padded (length o)) file_is
        ∙ sym (ap (λ (c : Check). (written_by c (file_of l s r) o).output) passes)
