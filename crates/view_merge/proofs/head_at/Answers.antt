-- `head_at` meets its contract: of two that go on the one with the smaller path is told.
use Rattle.std.proofs.Common.{rules}
use Rattle.view_merge.specs.Merges.{Next}
use Rattle.view_merge.specs.declared.Head.TheVariants as head
use Rattle.view_merge.proofs.Told.{equal, larger, next_told}
use Rattle.view_merge.proofs.head_at.Goals as goal

pub returns-in-Equal-clause-next : goal.returns-in-Equal-clause-next
returns-in-Equal-clause-next c =
    let a = c.args in
    let u : Next a.own.now a.part.now a.merge head.Both
    = (search rules, search rules, equal _ _ _ _ c.entry_key-key.ensures c.record_path-path.ensures c.in-Equal.ensures) in
    λ h e. next_told a.own.now a.part.now a.merge e u

pub returns-in-Greater-clause-next : goal.returns-in-Greater-clause-next
returns-in-Greater-clause-next c =
    let a = c.args in
    λ h e. next_told a.own.now a.part.now a.merge e
    (search rules, λ b. larger _ _ _ _ c.entry_key-key.ensures c.record_path-path.ensures c.in-Greater.ensures)
