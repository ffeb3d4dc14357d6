-- `is_as_listed` meets its contract: the record that is next can be read.
use Rattle.view_marks.proofs.Marked.{node_there}
use Rattle.view_marks.proofs.is_as_listed.Goals as goal

pub node_at-requires : goal.node_at-requires
node_at-requires c =
    let a = c.args in
    node_there a.part.now a.merge.records.left a.merge.records.at c.requires.next.1 c.requires.merging.records
