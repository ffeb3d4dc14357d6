-- `first_part` meets its contract: the first part stands behind the head.
use Rattle.run_script.proofs.Parts.{first_is}
use Rattle.run_script.proofs.first_part.Goals as goal

pub returns : goal.returns
returns c =
    let n = c.le16 in
    let h = c.step_head in
    let a = c.args in
    first_is a.two a.script.now a.at h.result n.result h.ensures.0 n.ensures.0
