-- `cover` meets its contract: the answer is by the parent's flag, and is set as the path's own.
use mathlib.Core.Path.{◌∙◌}
use native.Mathlib.Omega.{arith}
use lib.ListN.{length-set}
use Rattle.rename_uncovered.proofs.Covers.{stepped}
use Rattle.rename_uncovered.proofs.cover.Goals as goal

pub returns : goal.returns
returns c =
    let a = c.args in
    let e = c.parent_end-end in
    let h = c.requires.1 in
    let k = c.requires.2 in
    record { flags_len = length-set a.flags.now _ _ ∙ k; value = stepped a.flags.now a.path.now a.from e.result e.ensures (omega arith) a.absent }
