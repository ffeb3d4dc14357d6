-- `show_admitted` meets its contract: too short, the output is as it was; long enough, it holds the names.
use native.Mathlib.Omega.{arith}
use borrow.Author.Rules.{rules}
use Rattle.model.specs.Listing.{tree_in}
use Rattle.model.specs.Table.{table_in}
use Rattle.model.specs.Plain.{visible_tree}
use Rattle.base_fields.specs.Read.{part}
use Rattle.view_merge.specs.Merges.{ahead}
use Rattle.show_names.specs.Names.{names}
use Rattle.show_dir.proofs.Verdicts.{too_short, long_enough}
use Rattle.show_dir.proofs.show_admitted.Goals as goal

pub measure_names-len-requires : goal.measure_names-len-requires
measure_names-len-requires c = c.span_below-span.ensures.span_of.showing

pub returns-then-output-len : goal.returns-then-output-len
returns-then-output-len c =
    let a = c.args in
    let s = c.span_below-span in
    let n = c.measure_names-len in
    let x = s.result in
    let it = too_short (names a.path.now (ahead a.table.now (part a.listing.now x.from x.to) x.merge))
    (names a.path.now (visible_tree (table_in a.table.now a.rec) (tree_in a.listing.now))) s.ensures.span_of.are a.output.now n.result
    n.ensures.value (search rules) in
    record { result_value = it.0; output_after = it.1 }

pub put_names-requires : goal.put_names-requires
put_names-requires c =
    let s = c.span_below-span in
    let n = c.measure_names-len in
    record { showing = s.ensures.span_of.showing; first_in_bounds = omega (arith, n.ensures.value, c.if-output-len.false) }

pub returns : goal.returns
returns c =
    let a = c.args in
    let s = c.span_below-span in
    let n = c.measure_names-len in
    let x = s.result in
    let it = long_enough (names a.path.now (ahead a.table.now (part a.listing.now x.from x.to) x.merge))
    (names a.path.now (visible_tree (table_in a.table.now a.rec) (tree_in a.listing.now))) s.ensures.span_of.are a.output.now n.result
    n.ensures.value (search rules) _ c.put_names.ensures in
    record { result_value = it.0; output_after = it.1 }
