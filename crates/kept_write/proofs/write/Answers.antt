-- `write` meets its contract: refused, the output is as it was; accepted, it is the file and zeros behind it.
use mathlib.Core.Path.{sym}
use native.Mathlib.Omega.{arith}
use lib.Seq.{length-take-le}
use Rattle.kept_write.proofs.Verdicts.{not_done, entries_within, file_within, now_written}
use Rattle.kept_write.proofs.write.Goals as goal

pub returns-in_err-len-clause-output_after : goal.returns-in_err-len-clause-output_after
returns-in_err-len-clause-output_after c =
    let j = c.judge in
    let a = c.args in
    not_done a.listing.now a.table.now a.rec a.output.now j.result j.ensures _ c.in_err-len.was

pub slice_bounds-put_file-end : goal.slice_bounds-put_file-end
slice_bounds-put_file-end c =
    let j = c.judge in
    let a = c.args in
    let w = entries_within a.listing.now a.table.now a.rec a.output.now j.result j.ensures _ c.in_ok-len.was in
    sym (length-take-le _ a.table.now (omega (arith, w)))

pub put_file-requires : goal.put_file-requires
put_file-requires c =
    let j = c.judge in
    let a = c.args in
    file_within a.listing.now a.table.now a.rec a.output.now j.result j.ensures _ c.in_ok-len.was

pub returns-clause-output_after : goal.returns-clause-output_after
returns-clause-output_after c =
    let j = c.judge in
    let a = c.args in
    now_written a.listing.now a.table.now a.rec a.output.now j.result j.ensures _ c.in_ok-len.was _ c.put_file.ensures
