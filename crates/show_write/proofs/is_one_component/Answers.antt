-- `is_one_component` meets its contract: no slash follows exactly if the next one is at the path's end.
use Rattle.show_write.proofs.Parts.{no_slash_lem}
use Rattle.show_write.proofs.is_one_component.Goals as goal

pub returns : goal.returns
returns c =
    let a = c.args in
    let n = c.next_ancestor in
    no_slash_lem a.path.now a.start c.requires n.result n.ensures.value
