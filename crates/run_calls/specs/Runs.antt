-- What a script's calls answer and leave, and demand 3 of document 01 on them.
use Rattle.std.specs.Prelude.{◌≡◌, cond, List, [], ◌∷◌, ◌++◌, ℕ, ◌*◌, leb, length, drop, Result, Ok, Err}
use Rattle.model.specs.Bytes.{Bytes, bytes}
use Rattle.model.specs.Answer.{Reply, accepted, refused}
use Rattle.model.specs.Outcome.{Store, Request, outcome, opened}
use Rattle.model.specs.Runs.{State, after, Throughout, DoesAsPosix, Demand3}
use Rattle.model.specs.declared.Record.{Record}
use Rattle.base_fields.specs.Write.{overwritten}
use Rattle.call_answer.specs.Meets.{requested, stored}
use Rattle.call_values.specs.declared.Row.{Row}
use Rattle.call_values.specs.Values.{row_of}
use Rattle.run_script.specs.Script.{Step, is_script, steps_in}
use Rattle.run_calls.specs.declared.RunError.{RunError}
use Rattle.run_calls.specs.declared.RunError.TheVariants.{MalformedTable, MalformedScript, ShortReport}

abbrev pub request_of : Step → Bytes → Request
request_of x work = requested x.call x.limit work

-- the steps as requests: each has the work buffer that the call before it left
abbrev pub requests : Bytes → List Step → Store → Bytes → List Request
requests listing [] s work = []
requests listing (x ∷ xs) s work =
    let q = request_of x work in let o = outcome listing q s in q ∷ requests listing xs o.store o.work

-- what a call answered, and the charge after it
pub record Told : Type 0 where
  pub reply : Reply
  pub charge : ℕ

-- the store and the work buffer that a list of steps leaves, and what each of its calls answered
pub record RunLeft : Type 0 where
  pub store : Store
  pub work : Bytes
  pub told : List Told

abbrev pub left_after : Bytes → List Step → Store → Bytes → RunLeft
left_after listing [] s work = record { store = s; work = work; told = [] }
left_after listing (x ∷ xs) s work =
    let o = outcome listing (request_of x work) s in
    let l = left_after listing xs o.store o.work in
    record {
      store = l.store;
      work = l.work;
      told = record { reply = o.reply; charge = o.store.rec.charge }
          ∷ l.told;
    }

-- a call's row in the report: number, path, length or value, and the charge, 64 bits each
unfoldable pub row_bytes : Row → ℕ → Bytes
row_bytes r c = bytes 8 r.number ++ (bytes 8 r.path ++ (bytes 8 r.len ++ bytes 8 c))

abbrev pub rows : List Told → Bytes
rows [] = []
rows (x ∷ xs) = row_bytes (row_of x.reply) x.charge ++ rows xs

-- the record after the last call, or why the script is not run
abbrev pub Ran : Type 0
Ran = Result Record RunError

-- an answer, and the table, the work buffer and the report beside it
pub record RunOutcome : Type 0 where
  pub answer : Ran
  pub table : Bytes
  pub work : Bytes
  pub report : Bytes

-- a report has the rows, then the bytes that stood there
abbrev pub done : RunLeft → Bytes → RunOutcome
done l report = record {
  answer = Ok l.store.rec;
  table = l.store.table;
  work = l.work;
  report = rows l.told ++ drop (length (rows l.told)) report;
}

abbrev pub unchanged : Ran → Store → Bytes → Bytes → RunOutcome
unchanged a s work report = record { answer = a; table = s.table; work = work; report = report }

-- running the script on a table with its record: all of it, or nothing changes
abbrev pub ran_on : Bytes → Store → Bytes → Bytes → Bytes → RunOutcome
ran_on listing s work script report =
    cond (is_script script)
    (cond (leb (32 * length (steps_in script)) (length report))
    (done (left_after listing (steps_in script) s work) report)
    (unchanged (Err ShortReport) s work report))
    (unchanged (Err MalformedScript) s work report)

abbrev pub if_opened : Reply → RunOutcome → RunOutcome → RunOutcome
if_opened (accepted v) x y = x
if_opened (refused n w k) x y = y

-- opening a buffer, and running the script on the empty table
abbrev pub ran_new : Bytes → ℕ → Bytes → Bytes → Bytes → Bytes → RunOutcome
ran_new listing E buffer work script report =
    let o = opened E buffer in
    if_opened o.reply (ran_on listing o.store work script report)
    (record { answer = Err MalformedTable; table = buffer; work = work; report = report })

-- what the code answers and leaves is the outcome x
pub record Gives (x : RunOutcome) (r : Ran) (table work report : Bytes) : Type 0 where
  pub answer : r ≡ x.answer
  pub bytes : table ≡ x.table
  pub buffer : work ≡ x.work
  pub told : report ≡ x.report

-- the calls from the state x on meet demand 3 and POSIX, and leave the store s
pub record Holds (listing : Bytes) (x : State) (calls : List Request) (s : Store) : Type 0 where
  pub demand_3 : Demand3 listing x calls
  pub posix : Throughout (DoesAsPosix listing) listing x calls
  pub leaves : (after listing calls x).store ≡ s

-- steps that are made: the table with its record, the work buffer, and their rows, from the report's start on
pub record Finished (x : RunLeft) (report : Bytes) (r : Record) (table' work' report' : Bytes) : Type 0 where
  pub store : stored table' r ≡ x.store
  pub buffer : work' ≡ x.work
  pub rows_in : report' ≡ overwritten report 0 (rows x.told)
