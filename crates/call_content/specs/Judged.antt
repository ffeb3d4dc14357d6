-- The checks of both calls behind 1 and 2: all that comes before the insertion.
use Rattle.std.specs.Prelude.{ℕ, length}
use Rattle.model.specs.Bytes.{Bytes}
use Rattle.model.specs.Path.{Path}
use Rattle.model.specs.Table.{table_in}
use Rattle.model.specs.Checks.{Check, ◌then◌, form, limited}
use Rattle.model.specs.Content.{appended, append_checks, append_memory, inside_checks}
use Rattle.model.specs.Outcome.{shown_in}
use Rattle.model.specs.declared.Record.{Record}

-- append at p of the data d, b being lent: 4 to 8, 17, and 11 by its own budget
abbrev pub append_behind : Bytes → Bytes → Record → ℕ → Bytes → Bytes → Path → Check
append_behind l s r limit d b p =
    let o = shown_in l s r p in
    append_checks (shown_in l s r) p b
    then append_memory (limited r.entry_size limit) (table_in s r) o (length (appended o d b))

-- and 3 before that; the same for writing the data d inside a file, from the offset o on
abbrev pub append_judged : Bytes → Bytes → Record → ℕ → Bytes → Bytes → Path → Check
append_judged l s r limit d b p = form 0 p then append_behind l s r limit d b p

abbrev pub inside_judged : Bytes → Bytes → Record → ℕ → Bytes → Path → Check
inside_judged l s r o d p = form 0 p then inside_checks (shown_in l s r) p o d
