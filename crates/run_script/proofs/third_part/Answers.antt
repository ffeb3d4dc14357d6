-- `third_part` meets its contract: the third part stands between the second and the end.
use Rattle.run_script.proofs.Parts.{third_is}
use Rattle.run_script.proofs.third_part.Goals as goal

pub returns : goal.returns
returns c =
    let e = c.end_of-to in
    let n = c.third_from-from in
    let a = c.args in
    third_is a.two a.script.now a.at n.result e.result n.ensures.value e.ensures
