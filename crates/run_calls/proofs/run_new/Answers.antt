-- `run_new` meets its contract. Where it is done, listing and script are bytes, and so demand 3 holds.
use native.Mathlib.Omega.{arith}
use Rattle.base_fields.proofs.Pieces.{bytes_of}
use Rattle.run_calls.proofs.Demands.{now_done}
use Rattle.run_calls.proofs.run_new.Goals as goal

pub returns-in-Ok-clause-holds : goal.returns-in-Ok-clause-holds
returns-in-Ok-clause-holds c =
    let a = c.args in
    let o = c.open-opened in
    let x = c.run in
    now_done a.listing.now a.entry_size a.table.now a.work.now a.script.now a.report.now o.result.answer o.ensures.answer_value _ c.in-Ok.is
    o.result.«record» o.ensures.record_value o.new.buffer o.ensures.buffer_after x.result x.ensures
    (bytes_of a.listing.now (λ i. omega (arith, c.type_inv.listing i)))
    (bytes_of a.script.now (λ i. omega (arith, c.type_inv.script i)))
