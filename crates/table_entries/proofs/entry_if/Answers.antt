-- `entry_if` meets its contract: the first entry is taken if its key is the key.
use mathlib.Core.Path.{◌∙◌}
use Rattle.table_entries.proofs.Seeks.{entry_here, entry_other}
use Rattle.table_entries.proofs.entry_if.Goals as goal
use Rattle.table_entries.proofs.entry_if.Goals.{else-place-ne0-via-then-place-ne0+else-is_same, else-place-ne0-via-else-place-ne0}

pub returns-then-is_same : goal.returns-then-is_same
returns-then-is_same c =
    let a = c.args in
    let q = c.entry_key in
    let b = c.is_same in
    c.entry_at.ensures
    ∙ entry_here a.table.now a.key.now a.place.left a.place.at c.if-place-ne0.true
    b.result q.result.now q.ensures b.ensures c.if-is_same.true

pub returns-else-place-ne0 : goal.returns-else-place-ne0
returns-else-place-ne0 c =
    let a = c.args in
    elim c.else-place-ne0.branch [
      | else-place-ne0-via-then-place-ne0+else-is_same w ↦ entry_other a.table.now a.key.now a.place.left a.place.at w.if-place-ne0.true
          w.is_same.result w.entry_key.result.now w.entry_key.ensures w.is_same.ensures w.if-is_same.false
      | else-place-ne0-via-else-place-ne0 w ↦ rw w.if-place-ne0.false
    ]
