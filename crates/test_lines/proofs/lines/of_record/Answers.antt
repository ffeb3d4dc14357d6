-- `lines::of_record` is safe: a record that is there can be read.
use Rattle.view_marks.proofs.Marked.{node_there}
use Rattle.test_lines.proofs.lines.of_record.Goals as goal

pub node_at-requires : goal.node_at-requires
node_at-requires g c =
    let a = c.args in
    node_there a.part.now a.records.left a.records.at c.requires.left_nonzero c.requires.standing
