-- `first` meets its contract: all entries of the one part, and all uncovered records of the other, are to come.
use mathlib.Core.Path.{refl}
use native.Mathlib.Omega.{arith}
use Rattle.model.specs.Table.{table_in}
use Rattle.rename_carried.proofs.Steps.{first_under, first_entries, first_carried}
use Rattle.rename_carried.proofs.first.Goals as goal

pub first_uncovered-listed-requires : goal.first_uncovered-listed-requires
first_uncovered-listed-requires c =
    let p = c.requires in
    record { flags_len = p.flags_len; part_below = p.part_below; rec_value = p.rec_value }

pub returns : goal.returns
returns c =
    let a = c.args in
    let p = c.requires in
    let e = p.count_value in
    let f = c.first_uncovered-listed in
    let g = f.ensures in
    let d = g.left_le_count in
    let t = table_in a.table.now a.rec in
    record {
      result_bound = omega arith;
      streaming = record { entries = p.standing; listed = g.ready_at; under = first_under a.own.now a.part.now t a.source.now a.count e };
      carrying = record { listed = g.ahead_at; entries = first_entries a.own.now a.part.now t a.source.now a.count e };
      result_value = first_carried a.own.now a.part.now t a.source.now a.count e a.records
          (record { entries = record { at = 0; left = a.count }; listed = f.result }) refl g.at_value;
    }
