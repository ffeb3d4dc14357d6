-- `put_sized` meets its contract: length and name are written one behind the other.
use Rattle.show_write.proofs.Measures.{sized_put}
use Rattle.show_write.proofs.put_sized.Goals as goal

pub returns : goal.returns
returns c =
    let a = c.args in
    sized_put a.output.now c.put16.new.t c.copy_in.new.t a.name.now a.at c.requires
    c.put16.ensures c.copy_in.ensures
