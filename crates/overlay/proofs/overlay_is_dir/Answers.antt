-- `overlay_is_dir` meets its contract: the answer of the query, packed.
use Rattle.model.specs.Calls.{is_dir}
use Rattle.model.specs.Answer.{told_finding}
use Rattle.overlay.proofs.Leaving.{query_fits}
use Rattle.overlay.proofs.overlay_is_dir.Goals as goal

pub pack_finding-requires : goal.pack_finding-requires
pack_finding-requires c =
    let a = c.args in
    let r = c.record_in in
    let u = c.is_dir-finding in
    query_fits is_dir a.listing.now a.path.now a.table.now a.rec.now c.if-rec-ne-NUMBERS.false r.result r.ensures (told_finding u.result) u.ensures
