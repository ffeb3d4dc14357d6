-- `first_len` meets its contract: the table's entry is carried where it has one, and what is listed else.
use mathlib.Core.Path.{ap, ◌∙◌}
use lib.ListN.{length}
use Rattle.model.specs.Bytes.{Bytes}
use Rattle.model.specs.Map.{lookup}
use Rattle.model.specs.Tree.{Entry}
use Rattle.model.specs.Listing.{tree_in}
use Rattle.model.specs.Table.{body_of, entries_at}
use Rattle.rename_write.proofs.Sequences.{top_listed, top_stored}
use Rattle.rename_settle.proofs.first_len.Goals as goal

pub returns-then-is_absent : goal.returns-then-is_absent
returns-then-is_absent c =
    let a = c.args in
    let f = c.first_entry-first in
    let g = c.get_from-got in
    let z = c.is_absent in
    let n = lookup (tree_in a.listing.now) a.source.now in
    let t = lookup (entries_at a.table.now f.result.left f.result.at) a.source.now in
    c.listed_len.ensures
    ∙ ap (λ (e : Entry). length (body_of e)) (top_listed a.table.now a.rec f.result a.source.now z.result f.ensures.value
    (z.ensures a.table.now t g.ensures.result_value) n c.if-is_absent.true)

pub entry_body-body-requires-clause-left_nonzero :
    goal.entry_body-body-requires-clause-left_nonzero
entry_body-body-requires-clause-left_nonzero c =
    let a = c.args in
    let f = c.first_entry-first in
    let g = c.get_from-got in
    let z = c.is_absent in
    let n = lookup (tree_in a.listing.now) a.source.now in
    let t = lookup (entries_at a.table.now f.result.left f.result.at) a.source.now in
    let y = top_stored a.table.now a.rec f.result a.source.now z.result f.ensures.value
    (z.ensures a.table.now t g.ensures.result_value) n c.if-is_absent.false f.ensures.standing g.result.place.left g.result.place.at
    g.ensures.sought in
    y.0

pub returns : goal.returns
returns c =
    let a = c.args in
    let f = c.first_entry-first in
    let g = c.get_from-got in
    let z = c.is_absent in
    let n = lookup (tree_in a.listing.now) a.source.now in
    let t = lookup (entries_at a.table.now f.result.left f.result.at) a.source.now in
    let y = top_stored a.table.now a.rec f.result a.source.now z.result f.ensures.value
    (z.ensures a.table.now t g.ensures.result_value) n c.if-is_absent.false f.ensures.standing g.result.place.left g.result.place.at
    g.ensures.sought in
    ap (λ (b : Bytes). length b) c.entry_body-body.ensures ∙ ap (λ (e : Entry). length (body_of e)) y.1
