-- `kept_read::entries_part` meets its contract: the entries stand behind their length, up to the end.
use native.Mathlib.Omega.{arith}
use borrow.Author.Rules.{rules}
use Rattle.kept_read.proofs.Frames.{framed_is, entries_rest}
use Rattle.kept_read.proofs.entries_part.Goals as goal

pub listing_end-from-requires : goal.listing_end-from-requires
listing_end-from-requires c = (framed_is c.args.file.now c.requires).long

pub slice_bounds-result-count : goal.slice_bounds-result-count
slice_bounds-result-count c = omega (arith, c.listing_end-from.ensures.value, (framed_is c.args.file.now c.requires).inside)

pub slice_bounds-result-start : goal.slice_bounds-result-start
slice_bounds-result-start c =
    let i = (framed_is c.args.file.now c.requires).inside in
    let e = c.listing_end-from.ensures.value in
    search rules

pub returns : goal.returns
returns c = entries_rest c.args.file.now c.listing_end-from.ensures.value
