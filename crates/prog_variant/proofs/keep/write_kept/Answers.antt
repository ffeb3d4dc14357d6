-- `keep::write_kept` is safe: the part that it hands on has the length that the writer answered.
use mathlib.Core.Path.{sym}
use lib.Seq.{length-take-le}
use Rattle.prog_variant.proofs.MadeFile.{made_within}
use Rattle.prog_variant.proofs.keep.write_kept.Goals as goal

pub slice_bounds-write_file-end : goal.slice_bounds-write_file-end
slice_bounds-write_file-end g c =
    let a = c.args in
    let e = c.write.ensures in
    made_within a.listing.now a.table.now a.rec a.output.now _ c.write.result _ e.result_value e.output_after
    c.in-Ok.is

pub slice_bounds-write_file-end-in-Ok : goal.slice_bounds-write_file-end-in-Ok
slice_bounds-write_file-end-in-Ok g c =
    let a = c.args in
    let e = c.write.ensures in
    sym (length-take-le _ _ (made_within a.listing.now a.table.now a.rec a.output.now _ c.write.result _ e.result_value e.output_after c.in-Ok.is))
