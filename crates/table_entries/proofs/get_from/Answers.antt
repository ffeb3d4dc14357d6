-- `get_from` meets its contract: the entry at the key is the first from the key on, or there is none.
use Rattle.table_entries.proofs.Seeks.{found}
use Rattle.table_entries.proofs.get_from.Goals as goal

pub returns : goal.returns
returns c =
    let a = c.args in
    let q = c.seek-found in
    let r = c.entry_if in
    record { result_value = found a.table.now a.key.now a.place.left a.place.at q.result.left q.result.at c.requires q.ensures r.result r.ensures; sought = q.ensures }
