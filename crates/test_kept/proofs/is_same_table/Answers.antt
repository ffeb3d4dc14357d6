-- `test_kept::is_same_table` meets its contract: std's test of the start is the definition's.
use Rattle.std.proofs.Common.{◌∙◌, length, take}
use Rattle.test_kept.proofs.Filling.{same_bytes}
use Rattle.test_kept.proofs.is_same_table.Goals as goal

pub returns : goal.returns
returns c =
    let a = c.args in
    c.starts_with.ensures.value ∙ same_bytes a.table.now (take (length a.table.now) a.old.now)
