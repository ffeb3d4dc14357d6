-- `is_headed` meets its contract: it tests the numbers that stand in the step.
use native.Mathlib.Omega.{arith}
use Rattle.run_script.proofs.Steps.{head_least, by_numbers}
use Rattle.run_script.proofs.is_headed.Goals as goal

pub bounds-script-at : goal.bounds-script-at
bounds-script-at c = let h = head_least c.args.two in omega arith

pub bounds-script-at-2 : goal.bounds-script-at-2
bounds-script-at-2 c = let h = head_least c.args.two in omega arith

pub le32-second-requires : goal.le32-second-requires
le32-second-requires c = let h = head_least c.args.two in omega arith

pub le64-mtime-requires : goal.le64-mtime-requires
le64-mtime-requires c = let h = head_least c.args.two in omega arith

pub returns : goal.returns
returns c =
    let a = c.args in
    let r = c.is_ruled in
    by_numbers a.two a.script.now a.at c.wide-kind.result c.wide-flags.result c.le32-second.result c.le64-mtime.result
    c.offset_at-offset.result c.third_length-third.result r.result c.wide-kind.ensures.0 c.wide-flags.ensures.0
    c.le32-second.ensures.0 c.le64-mtime.ensures c.offset_at-offset.ensures c.third_length-third.ensures.0 r.ensures
