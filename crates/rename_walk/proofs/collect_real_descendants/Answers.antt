-- `collect_real_descendants` meets its contract: 32 levels are as deep as any listing goes.
use mathlib.Core.Path.{refl}
use mathlib.Core.Option.{some}
use Rattle.model.specs.Table.{entries_at}
use Rattle.listing_records.specs.Place.{tree_at}
use Rattle.std.proofs.lemmas.Result.{err_from_is_err_and}
use Rattle.rename_walk.specs.Walked.{walk_of}
use Rattle.rename_walk.proofs.Enters.{entered_ended}
use Rattle.rename_walk.proofs.Visitings.{err_ended}
use Rattle.rename_walk.proofs.Descents.{from_source}
use Rattle.rename_walk.proofs.collect_real_descendants.Goals as goal

pub visit_children-requires : goal.visit_children-requires
visit_children-requires c =
    let u = c.stretch_below-own.ensures in
    record { standing = u.stand; count_le_left = u.few; standing_2 = c.first_entry-entries.ensures.standing }

pub enter_stretch-requires : goal.enter_stretch-requires
enter_stretch-requires c =
    let u = c.stretch_below-own.ensures in
    record { standing = u.stand; count_le_left = u.few; standing_2 = c.first_entry-entries.ensures.standing }

pub returns : goal.returns
returns c =
    let a = c.args in
    let f = c.first_record-first in
    let e = c.first_entry-entries in
    let o = c.stretch_below-own in
    let r = c.enter_stretch in
    from_source a.listing.now a.table.now a.source.now a.rec a.budget.available c.requires.listing_value f.result f.ensures.value e.result e.ensures.value
    o.result.left o.result.at o.result.count o.ensures _ _ (walk_of r.result) refl c.in_ok-on.ensures r.ensures

pub returns-in_err-on : goal.returns-in_err-on
returns-in_err-on c =
    let a = c.args in
    let f = c.first_record-first in
    let e = c.first_entry-entries in
    let o = c.stretch_below-own in
    let z = err_from_is_err_and c.from_residual.result c.from_residual.ensures.1 in
    rw (z.1, z.2)
    (from_source a.listing.now a.table.now a.source.now a.rec a.budget.available c.requires.listing_value f.result f.ensures.value e.result e.ensures.value
    o.result.left o.result.at o.result.count o.ensures _ _ _ refl c.in_err-on.ensures
    (entered_ended (some a.budget.available) 31 (entries_at a.table.now e.result.left e.result.at)
    (tree_at a.listing.now o.result.left o.result.at) a.source.now (tree_at a.listing.now o.result.count o.result.at) _ (err_ended _)))
