-- What a call leaves, beside the outcome that the definition gives.
use Rattle.std.specs.Prelude.{◌≡◌, ℕ, Ok, Err}
use Rattle.model.specs.Bytes.{Bytes}
use Rattle.model.specs.Checks.{Check, ◌then◌, unless, limited, charged}
use Rattle.model.specs.Calls.{Call}
use Rattle.model.specs.Answer.{told}
use Rattle.model.specs.Outcome.{Store, Request, Outcome, table_after, room}
use Rattle.model.specs.declared.Record.{Record}
use Rattle.model.specs.declared.Answered.{Answered}
use Rattle.table_insert.specs.Insert.{Inserted, refusal_of}

-- a call with its limit and its work buffer; a table with its record
abbrev pub requested : Call → ℕ → Bytes → Request
requested c n w = record { call = c; limit = n; work = w }

abbrev pub stored : Bytes → Record → Store
stored s r = record { table = s; rec = r }

-- 11, then 13
abbrev pub last : Bytes → Request → Store → Check
last listing q s =
    charged (limited s.rec.entry_size q.limit) (table_after listing q s) then unless 13 (room listing q s)

-- answer, record, table and work buffer are those of the outcome o
pub record Meets (o : Outcome) (r : Answered) (table work : Bytes) : Type 0 where
  pub answer : told r.answer ≡ o.reply
  pub rec : r.«record» ≡ o.store.rec
  pub bytes : table ≡ o.store.table
  pub buffer : work ≡ o.work

-- the answer to an insertion: accepted with the value v and the new record, or refused with the old one
abbrev pub answered_of : Inserted → Record → ℕ → Answered
answered_of (Ok r) old v = record { answer = Ok v; «record» = r }
answered_of (Err e) old v = record { answer = Err (refusal_of e); «record» = old }
