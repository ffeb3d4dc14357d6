-- Term 1 for the writer and the reader of kept files: on every input a refusal has one of their numbers, with 0 and 0, and changes nothing.
use mathlib.Core.Path.{◌≡◌, refl, subst}
use mathlib.Core.Bool.{Bool, true, false}
use mathlib.Core.Option.{none}
use Prim.Native.Nat.{ℕ}
use lib.Dec.{leb, eqb}
use lib.ListN.{length}
use Rattle.model.specs.Bytes.{Bytes}
use Rattle.model.specs.Listing.{is_listing}
use Rattle.model.specs.Table.{is_table}
use Rattle.model.specs.Checks.{Check, pass, refuse, ◌then◌, unless}
use Rattle.model.specs.Answer.{refused}
use Rattle.model.specs.declared.Record.{Record}
use Rattle.model.proofs.Orders.{bot}
use Rattle.model.proofs.Outputs.{writing_refused}
use Rattle.kept_file.specs.Kept.{entries_in, marked, undamaged, file_of, may_write, written, may_read, read_by, read_back}

-- n is one of four numbers
pub data OneOf (i j k m : ℕ) : ℕ → Type 0 where
  first : OneOf i j k m i
  second : OneOf i j k m j
  third : OneOf i j k m k
  fourth : OneOf i j k m m

-- what a refusal is: one of the four numbers, without a path and a length
pub record Numbered (i j k m n v w : ℕ) : Type 0 where
  pub number : OneOf i j k m n
  pub no_path : v ≡ 0
  pub no_length : w ≡ 0

number_is : (n x y z v w : ℕ) → refuse n x y ≡ refuse z v w → (n ≡ z) × (v ≡ x) × (w ≡ y)
number_is n x y z v w h = (cc, cc, cc)

-- four checks, one after the other, refuse with one of their numbers
numbered : (i j k m : ℕ) (a b c d : Bool) (n v w : ℕ) → (unless i a then unless j b then unless k c then unless m d) ≡ refuse n v w
    → Numbered i j k m n v w
numbered i j k m false b c d n v w h =
    let e = number_is i 0 0 n v w h in record { number = subst (OneOf i j k m) e.0 first; no_path = e.1; no_length = e.2 }
numbered i j k m true false c d n v w h =
    let e = number_is j 0 0 n v w h in record { number = subst (OneOf i j k m) e.0 second; no_path = e.1; no_length = e.2 }
numbered i j k m true true false d n v w h =
    let e = number_is k 0 0 n v w h in record { number = subst (OneOf i j k m) e.0 third; no_path = e.1; no_length = e.2 }
numbered i j k m true true true false n v w h =
    let e = number_is m 0 0 n v w h in record { number = subst (OneOf i j k m) e.0 fourth; no_path = e.1; no_length = e.2 }
numbered i j k m true true true true n v w h = absurd (bot (cc))

-- the writer: 1, 2, 16 or 13, and the output is as it was
module _ (listing table : Bytes) (rec : Record) (output : Bytes) (n v w : ℕ) where
  pub refused_writing : (written listing table rec output).reply ≡ refused n v w → Numbered 1 2 16 13 n v w × ((written listing table rec output).output ≡ output)
  refused_writing h =
      let e = writing_refused (may_write listing table rec output) (file_of listing table rec) output n v w h in (
        numbered 1 2 16 13 (is_table table rec) (is_listing listing) (eqb rec.entry_size 40)
            (leb (length (file_of listing table rec)) (length output)) n v w e.0,
        e.1,
      )

-- the reader: 1, 14, 15 or 13, nothing is told of the file, and the table buffer is as it was
module _ (file buffer : Bytes) (n v w : ℕ) where
  read_refused : (c : Check) → (read_by c file buffer).reply ≡ refused n v w
      → (c ≡ refuse n v w) × ((read_by c file buffer).content ≡ none) × ((read_by c file buffer).table ≡ buffer)
  read_refused pass h = absurd (bot (cc))
  read_refused (refuse x y z) h = (cc, refl, refl)

  pub refused_reading : (read_back file buffer).reply ≡ refused n v w
      → Numbered 1 14 15 13 n v w × ((read_back file buffer).content ≡ none) × ((read_back file buffer).table ≡ buffer)
  refused_reading h =
      let e = read_refused (may_read file buffer) h in
      (numbered 1 14 15 13 (leb (length buffer) 16777216) (marked file) (undamaged file) (leb (length (entries_in file)) (length buffer)) n v w e.0, e.1, e.2)
