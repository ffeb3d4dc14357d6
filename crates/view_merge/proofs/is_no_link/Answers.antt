-- `is_no_link` meets its contract: the kind decides, as in the definition.
use mathlib.Core.Path.{refl}
use native.Mathlib.Omega.{arith}
use Rattle.listing_records.proofs.Places.{stands}
use Rattle.view_merge.proofs.Told.{no_link}
use Rattle.view_merge.proofs.is_no_link.Goals as goal

pub overflow_add-kind : goal.overflow_add-kind
overflow_add-kind c =
    let a = c.args in
    let h = (stands a.part.now a.records.left a.records.at c.requires.left_nonzero c.requires.standing).head in
    let s = c.requires.standing.small in
    omega arith

pub bounds-part-records : goal.bounds-part-records
bounds-part-records c =
    let a = c.args in
    let h = (stands a.part.now a.records.left a.records.at c.requires.left_nonzero c.requires.standing).head in
    omega arith

pub returns : goal.returns
returns c =
    let a = c.args in
    no_link a.part.now a.records.at _ refl
