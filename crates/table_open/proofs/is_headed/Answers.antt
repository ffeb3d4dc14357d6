-- `table_open::is_headed` meets its contract: it tests the numbers that stand in the entry.
use Rattle.table_open.proofs.Steps.{by_numbers}
use Rattle.table_open.proofs.is_headed.Goals as goal

pub returns : goal.returns
returns c = by_numbers _ _ _ _ _ _ _ c.le16.ensures.0 c.le32.ensures.0 c.le64.ensures c.le64-2.ensures c.is_ruled.ensures
