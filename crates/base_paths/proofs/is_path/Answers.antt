-- `base_paths::is_path` meets its contract.
use borrow.Author.Rules.{rules}
use Rattle.base_paths.proofs.Pass.{judged}
use Rattle.base_paths.proofs.is_path.Goals as goal

pub returns : goal.returns
returns c =
    let l = c.loop-b in
    let s = c.args.s.now in
    let e = c.is_ended in
    judged s l.t l.n l.b-index l.invariant (search rules) e.result (search rules) (search rules) e.ensures
