-- `second_part` meets its contract: the second part stands between the first and the third.
use Rattle.run_script.proofs.Parts.{second_is}
use Rattle.run_script.proofs.second_part.Goals as goal

pub returns : goal.returns
returns c =
    let e = c.third_from-to in
    let n = c.le16 in
    let h = c.step_head in
    let a = c.args in
    second_is a.two a.script.now a.at h.result n.result h.ensures.0 n.ensures.0 e.result e.ensures.value
