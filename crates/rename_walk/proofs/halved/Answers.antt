-- `halved` meets its contract: the first half stands where the stretch does, and the second where the first ends.
use Rattle.rename_walk.proofs.Stretches.{half}
use Rattle.rename_walk.proofs.halved.Goals as goal

pub returns : goal.returns
returns c =
    let a = c.args in
    half a.records.now a.stretch.left a.stretch.count a.stretch.at c.requires.count_le_left.0 c.requires.count_le_left.1 c.skip-mid.result c.skip-mid.ensures.value c.skip-mid.ensures.standing_2
