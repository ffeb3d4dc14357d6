-- What each exported call answers and leaves, for every input. A record that is not four numbers is answered with 1,
-- and all is left as it was.
use Rattle.std.specs.Prelude.{◌≡◌, Bool, true, false, cond, ◌&&◌, List, [], ℕ, ◌/◌, ◌%◌, eqb, length, Result, Option}
use Rattle.model.specs.Bytes.{Bytes}
use Rattle.model.specs.Path.{Path}
use Rattle.model.specs.Table.{record_of}
use Rattle.model.specs.Calls.{Call, Query}
use Rattle.model.specs.Answer.{Reply, accepted, refused}
use Rattle.model.specs.declared.Refusal.{Refusal}
use Rattle.model.specs.Output.{Written}
use Rattle.model.specs.Outcome.{Request, Outcome, outcome, ask, opened}
use Rattle.call_answer.specs.Meets.{stored}
use Rattle.run_calls.specs.Runs.{ran_on, ran_new}
use Rattle.show_names.specs.Names.{showing}
use Rattle.least_rename.specs.declared.Least.{Least}
use Rattle.least_rename.specs.Reports.{Reports, told_report}
use Rattle.kept_file.specs.Kept.{written, read_back}
use Rattle.overlay_packed.specs.Packed.{packed, numbers, record_in, ran_number, ran_numbers, content_numbers}
use Rattle.overlay_packed.specs.Packed.{content_place}
use Rattle.overlay_packed.specs.Packed.{report_numbers}

abbrev pub is_four : List ℕ → Bool
is_four s = eqb (length s) 4

abbrev pub is_two : List ℕ → Bool
is_two s = eqb (length s) 2

-- the answer, and the record, the table and the work buffer after it
pub record CallLeft : Type 0 where
  pub answer : ℕ
  pub rec : List ℕ
  pub table : Bytes
  pub work : Bytes

abbrev pub left : ℕ → List ℕ → Bytes → Bytes → CallLeft
left a n t w = record { answer = a; rec = n; table = t; work = w }

-- an answer as it is read from its number, part by part
abbrev pub reply_in : ℕ → Reply
reply_in a = cond (eqb (a % 256) 0) (accepted (a / 65536)) (refused (a % 256) (a / 256 % 256) (a / 65536))

abbrev pub leaves : Outcome → CallLeft
leaves o = left (packed o.reply) (numbers o.store.rec) o.store.table o.work

-- a changing call on the table t with the record n
unfoldable pub called : Bytes → Request → Bytes → List ℕ → CallLeft
called listing q t n = cond (is_four n) (leaves (outcome listing q (stored t (record_in n))))
    (left (packed (refused 1 0 0)) n t q.work)

-- a query, and opening
abbrev pub asked : Query → Bytes → Path → Bytes → List ℕ → Reply
asked q listing p t n = cond (is_four n) (ask q listing p (stored t (record_in n))) (refused 1 0 0)

abbrev pub opening : ℕ → Bytes → List ℕ → Reply
opening E t n = cond (is_four n) (opened E t).reply (refused 1 0 0)

-- a run's answer, and the record, the table, the work buffer and the report after it
pub record ScriptLeft : Type 0 where
  pub answer : ℕ
  pub rec : List ℕ
  pub table : Bytes
  pub work : Bytes
  pub report : Bytes

abbrev pub run_left : ℕ → List ℕ → Bytes → Bytes → Bytes → ScriptLeft
run_left a n t w o = record { answer = a; rec = n; table = t; work = w; report = o }

-- a script run on the table t with the record n; where it is not run, the record stays
unfoldable pub script_run : Bytes → Bytes → List ℕ → Bytes → Bytes → Bytes → ScriptLeft
script_run listing t n work script report =
    let x = ran_on listing (stored t (record_in n)) work script report in
    let a = x.answer in
    cond (is_four n) (run_left (ran_number a) (ran_numbers a n n) x.table x.work x.report)
    (run_left (packed (refused 1 0 0)) n t work report)

-- the same on t opened for entries of size E; where the script is not run, the record is that of the opening
unfoldable pub new_script_run : Bytes → ℕ → Bytes → List ℕ → Bytes → Bytes → Bytes → ScriptLeft
new_script_run listing E t n work script report =
    let x = ran_new listing E t work script report in
    let a = x.answer in
    cond (is_four n)
    (run_left (ran_number a) (ran_numbers a (numbers (record_of E [])) n) x.table x.work x.report)
    (run_left (packed (refused 1 0 0)) n t work report)

-- the answer of a call that fills an output, and the output after it
pub record WriteLeft : Type 0 where
  pub answer : ℕ
  pub output : Bytes

abbrev pub write_left : ℕ → Bytes → WriteLeft
write_left a o = record { answer = a; output = o }

-- by what fills the output, where the record n is four numbers
abbrev pub filled : List ℕ → Written → Bytes → WriteLeft
filled n w output = cond (is_four n) (write_left (packed w.reply) w.output)
    (write_left (packed (refused 1 0 0)) output)

-- the kept file of the table t with the record n
unfoldable pub kept_written : Bytes → Bytes → List ℕ → Bytes → WriteLeft
kept_written listing t n output = filled n (written listing t (record_in n) output) output

-- the names of the visible children of p
unfoldable pub children_shown : Bytes → Bytes → List ℕ → Path → Bytes → WriteLeft
children_shown listing t n p output = filled n (showing listing t (record_in n) p output) output

-- a reading's answer, and the record, the listing's place and the table after it
pub record ReadLeft : Type 0 where
  pub answer : ℕ
  pub rec : List ℕ
  pub place : List ℕ
  pub table : Bytes

abbrev pub read_left : ℕ → List ℕ → List ℕ → Bytes → ReadLeft
read_left a n p t = record { answer = a; rec = n; place = p; table = t }

-- a kept file read into the buffer t; a place that is not two numbers is answered with 1 too
unfoldable pub kept_read : Bytes → Bytes → List ℕ → List ℕ → ReadLeft
kept_read file t n p =
    let r = read_back file t in
    cond (is_four n && is_two p)
    (read_left (packed r.reply) (content_numbers r.content n) (content_place r.content p) r.table)
    (read_left (packed (refused 1 0 0)) n p t)

-- what would let the call c through, on the table t with the record n, in the two numbers that were s: the answer and
-- the numbers after it; two numbers that are not two are answered with 1 too
pub data LeastLeft (listing t : Bytes) (n s : List ℕ) (c : Call) : (answer : ℕ) → List ℕ → Type 0 where
  not_numbers : (is_four n && is_two s) ≡ false → LeastLeft listing t n s c (packed (refused 1 0 0)) s
  reported : (is_four n && is_two s) ≡ true → (x : Result (Option Least) Refusal)
      → Reports listing (stored t (record_in n)) c x
      → LeastLeft listing t n s c (packed (told_report x)) (report_numbers x s)
