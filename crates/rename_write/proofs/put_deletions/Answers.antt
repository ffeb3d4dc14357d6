-- `put_deletions` meets its contract: the step asks no more of an item than that it has room.
use mathlib.Core.Bool.{true}
use Rattle.std.proofs.Common.{rules}
use Rattle.model.specs.Table.{table_in}
use Rattle.rename_carried.specs.Streams.{carried_below}
use Rattle.rename_write.specs.Stretch.{deletion}
use Rattle.rename_write.proofs.Loops.{all_pass}
use Rattle.rename_write.proofs.put_deletions.Goals as goal

pub put_all-requires-clause-step_puts : goal.put_all-requires-clause-step_puts
put_all-requires-clause-step_puts c =
    let a = c.args in
    let p = c.requires.puttable in (
      deletion,
      λ i. true,
      λ w d h x t. search rules,
      λ w d h x y v e. search rules,
      record { l = p.l; listed = p.listed; all = all_pass (carried_below (table_in a.table.now a.rec) p.l a.source.now) },
      p,
    )

pub returns : goal.returns
returns c = c.put_all.ensures deletion (λ w d h x y v e. search rules)
