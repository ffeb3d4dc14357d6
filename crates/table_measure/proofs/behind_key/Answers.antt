-- `behind_key` meets its contract: the pass goes on behind an entry that has the key, and stays where none has.
use mathlib.Core.Path.{ap, ◌∙◌}
use Rattle.model.specs.Table.{entries_at}
use Rattle.table_entries.specs.declared.Place.{Place}
use Rattle.table_entries.specs.Place.{end_of}
use Rattle.table_entries.proofs.Entries.{same_end}
use Rattle.table_measure.proofs.Steps.{some_left, gone_on}
use Rattle.table_measure.proofs.behind_key.Goals as goal

pub next_entry-requires : goal.next_entry-requires
next_entry-requires c =
    let a = c.args in
    let b = c.has_key in
    record { standing = c.requires; left_nonzero = some_left a.table.now a.key.now a.place.left a.place.at b.result b.ensures c.if-has_key.true }

pub returns-then-has_key : goal.returns-then-has_key
returns-then-has_key c =
    let a = c.args in
    let b = c.has_key in
    let n = c.next_entry in
    let h = some_left a.table.now a.key.now a.place.left a.place.at b.result b.ensures c.if-has_key.true in
    record {
      standing = n.ensures.standing_2;
      at_value = ap (λ (p : Place). entries_at a.table.now p.left p.at) n.ensures.value
          ∙ gone_on a.table.now a.key.now a.place.left a.place.at b.result b.ensures c.if-has_key.true;
      at_value_2 = ap (λ (p : Place). end_of a.table.now p.left p.at) n.ensures.value
          ∙ same_end a.table.now a.place.left a.place.at h c.requires;
    }
