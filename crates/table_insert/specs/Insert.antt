-- What inserting answers, and what it leaves.
use Rattle.std.specs.Prelude.{cond, ℕ, leb, Result, Ok, Err}
use Rattle.model.specs.Bytes.{Bytes}
use Rattle.model.specs.Tree.{Table}
use Rattle.model.specs.Table.{capped, record_of}
use Rattle.model.specs.declared.Record.{Record}
use Rattle.model.specs.declared.Refusal.{Refusal}
use Rattle.model.specs.declared.Refusal.TheVariants as refusal
use Rattle.table_insert.specs.declared.InsertError.{InsertError}
use Rattle.table_insert.specs.declared.InsertError.TheVariants.{MemoryUsageLimitExceeded, NoRoom}

abbrev pub Inserted : Type 0
Inserted = Result Record InsertError

-- the refusal that tells the error: 11 or 13
abbrev pub refusal_of : InsertError → Refusal
refusal_of MemoryUsageLimitExceeded = refusal.Limit
refusal_of NoRoom = refusal.NoRoom

-- the record r is to be that of a table in n bytes: "11 …: the charge after the call exceeds the limit; equal passes",
-- the charge as it counts (#107); then 13
abbrev pub judged : Record → ℕ → ℕ → Inserted
judged r limit n =
    cond (leb (capped r.charge) limit) (cond (leb r.used n) (Ok r) (Err NoRoom)) (Err MemoryUsageLimitExceeded)

abbrev pub insertion : ℕ → ℕ → ℕ → Table → Inserted
insertion E limit n t = judged (record_of E t) limit n

-- one of two, by whether it is done
abbrev pub if_done : Inserted → Bytes → Bytes → Bytes
if_done (Ok r) new old = new
if_done (Err e) new old = old
