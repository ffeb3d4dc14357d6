-- `kept_read::record_in` meets its contract: one law for each exit.
use mathlib.Core.Path.{sym, ◌∙◌}
use Rattle.kept_read.proofs.Sums.{too_long, not_whole, no_table, table_is}
use Rattle.kept_read.proofs.record_in.Goals as goal

pub returns-then-entries-gt-MAX_BUFFER : goal.returns-then-entries-gt-MAX_BUFFER
returns-then-entries-gt-MAX_BUFFER c =
    let a = c.args in
    too_long a.entry_size a.entries.now c.if-entries-gt-MAX_BUFFER.true

pub returns-in_err-record : goal.returns-in_err-record
returns-in_err-record c =
    let a = c.args in
    rw c.from_residual.ensures (not_whole a.entry_size a.entries.now (sym c.in_err-record.was ∙ c.sum_entries.ensures))

pub returns-then-check : goal.returns-then-check
returns-then-check c =
    let a = c.args in
    table_is a.entry_size a.entries.now _ (sym c.in_ok-record.was ∙ c.sum_entries.ensures) c.check.ensures
    c.if-check.true

pub returns-else-check : goal.returns-else-check
returns-else-check c =
    let a = c.args in
    no_table a.entry_size a.entries.now _ (sym c.in_ok-record.was ∙ c.sum_entries.ensures) c.check.ensures
    c.if-check.false
