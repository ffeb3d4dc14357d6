-- `stretch_below` meets its contract: from the directory with a slash on, the first records are those below it.
use Rattle.rename_walk.proofs.Stretches.{under}
use Rattle.rename_walk.proofs.stretch_below.Goals as goal

pub returns : goal.returns
returns c =
    let a = c.args in
    let f = c.seek_below-first in
    let n = c.count_below-count in
    under a.records.now a.dir.now a.place.left a.place.at f.result.left f.result.at n.result c.requires
    f.ensures.standing f.ensures.at_value n.ensures
