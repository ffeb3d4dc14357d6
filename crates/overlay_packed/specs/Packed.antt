-- An answer in one number, a record as four numbers, where a listing stands in a kept file and a report as two each.
use Rattle.std.specs.Prelude.{List, [], ◌∷◌, ℕ, ◌+◌, ◌*◌, ◌<◌, get_or}
use Rattle.std.specs.Prelude.{Result, Ok, Err, Some, None}
use Rattle.std.specs.Prelude as code
use Rattle.std.proofs.Math.Option.{Option, none, some}
use Rattle.model.specs.Answer.{Reply, accepted, refused}
use Rattle.model.specs.declared.Record.{Record}
use Rattle.model.specs.declared.Refusal.{Refusal}
use Rattle.least_rename.specs.declared.Least.{Least}
use Rattle.kept_file.specs.declared.Content.{Content}
use Rattle.run_calls.specs.Runs.{Ran}
use Rattle.run_calls.specs.declared.RunError.TheVariants as error

-- the number (0: accepted) in the low 8 bits, the path in the next 8, and from bit 16 on the length, or the value of
-- what is accepted
abbrev pub packed : Reply → ℕ
packed (accepted v) = 65536 * v
packed (refused n p l) = n + 256 * p + 65536 * l

-- the parts fit in 8, 8 and 48 bits, so that they can be told apart
abbrev pub Fits : Reply → Type 0
Fits (accepted v) = v < 0x1_0000_0000_0000
Fits (refused n p l) = (n < 256) × (p < 256) × (l < 0x1_0000_0000_0000)

-- x where the call is accepted, else y
abbrev pub if_accepted : {A : Type 0} → Reply → A → A → A
if_accepted (accepted v) x y = x
if_accepted (refused n p l) x y = y

-- a record's four numbers, and the record that four numbers are
abbrev pub numbers : Record → List ℕ
numbers r = r.used ∷ r.count ∷ r.charge ∷ r.entry_size ∷ []

abbrev pub record_in : List ℕ → Record
record_in s = record { used = get_or s 0 0; count = get_or s 1 0; charge = get_or s 2 0; entry_size = get_or s 3 0 }

-- A run in one number: 0 done, 1 the table is malformed, 254 the bytes are no script, 255 the report has not a row for
-- each call. No call answers one of the last two.
abbrev pub ran_number : Ran → ℕ
ran_number (Ok r) = 0
ran_number (Err error.MalformedTable) = 1
ran_number (Err error.MalformedScript) = 254
ran_number (Err error.ShortReport) = 255

-- the four numbers after a run: of the record after its last call; s, what they were, where the table is malformed; and
-- m, what belongs to the table, where the script is not run
abbrev pub ran_numbers : Ran → List ℕ → List ℕ → List ℕ
ran_numbers (Ok r) m s = numbers r
ran_numbers (Err error.MalformedTable) m s = s
ran_numbers (Err error.MalformedScript) m s = m
ran_numbers (Err error.ShortReport) m s = m

-- where the listing stands in a kept file, and its length: two numbers
abbrev pub place_of : Content → List ℕ
place_of c = c.listing_start ∷ c.listing_len ∷ []

-- the four numbers of the record and the two of the place after a reading: of what the file holds; else s, what they
-- were
abbrev pub content_numbers : Option Content → List ℕ → List ℕ
content_numbers none s = s
content_numbers (some c) s = numbers c.«record»

abbrev pub content_place : Option Content → List ℕ → List ℕ
content_place none s = s
content_place (some c) s = place_of c

-- the two numbers after a report: the least limit and the least length, 0 and 0 where there are none; s, what they
-- were, where it is refused
abbrev pub report_numbers : Result (code.Option Least) Refusal → List ℕ → List ℕ
report_numbers (Ok (Some x)) s = x.limit ∷ x.len ∷ []
report_numbers (Ok None) s = 0 ∷ 0 ∷ []
report_numbers (Err x) s = s
