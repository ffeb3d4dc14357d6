-- `order_at` meets its contract: it reads the numbers that stand in the step.
use native.Mathlib.Omega.{arith}
use Rattle.run_script.proofs.Steps.{head_least}
use Rattle.run_script.proofs.Heads.{order_is}
use Rattle.run_script.proofs.order_at.Goals as goal

pub bounds-script-at : goal.bounds-script-at
bounds-script-at c = let h = head_least c.args.two in omega arith

pub bounds-script-at-2 : goal.bounds-script-at-2
bounds-script-at-2 c = let h = head_least c.args.two in omega arith

pub le64-mtime-requires : goal.le64-mtime-requires
le64-mtime-requires c = let h = head_least c.args.two in omega arith

pub le64-limit-requires : goal.le64-limit-requires
le64-limit-requires c = let h = head_least c.args.two in omega arith

pub returns : goal.returns
returns c =
    let a = c.args in
    order_is a.two a.script.now a.at c.kind_of.result c.wide-kind.result c.wide-flags.result c.le64-mtime.result
    c.le64-limit.result c.offset_at-offset.result c.kind_of.ensures c.wide-kind.ensures.0 c.wide-flags.ensures.0
    c.le64-mtime.ensures c.le64-limit.ensures c.offset_at-offset.ensures
