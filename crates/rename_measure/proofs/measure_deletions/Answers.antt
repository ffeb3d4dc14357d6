-- `measure_deletions` meets its contract: each turn of the loop measures one deletion more.
use native.Mathlib.Omega.{arith}
use Rattle.std.proofs.lemmas.Option.{MatchOption-at_some}
use Rattle.rename_carried.proofs.Items.{at_end}
use Rattle.table_insert.proofs.Inserts.{counts_first}
use Rattle.rename_measure.proofs.Streamed.{key_short}
use Rattle.rename_measure.proofs.Deleting.{deleting_begun, deleting_counts, deleting_over, deleting_on}
use Rattle.rename_measure.proofs.measure_deletions.Goals as goal

pub projected-top-requires : goal.projected-top-requires
projected-top-requires c =
    let a = c.args in
    let f = c.first_entry-begin in
    record { counts = counts_first a.table.now a.rec f.result c.requires.rec_value f.ensures.value; key_len_bound = (c.requires.source_nonzero.1, omega arith) }

pub loop-head-init : goal.loop-head-init
loop-head-init c =
    let a = c.args in
    let f = c.first-stream in
    let g = c.first_entry-begin in
    let p = c.projected-top in
    deleting_begun a.own.now a.part.now a.table.now a.source.now a.rec a.count a.records f.result f.new.flags
    c.requires.rec_value c.requires.source_nonzero f.ensures.streaming f.ensures.result_bound f.ensures.carrying
    g.result p.result.place p.result.rec g.ensures.value p.ensures

pub projected-next-requires : goal.projected-next-requires
projected-next-requires c =
    let a = c.args in
    let l = c.loop-head in
    let f = c.first-stream in
    record {
      counts = deleting_counts a.own.now a.part.now a.table.now a.source.now a.rec a.count a.records f.result l.flags
          l.place l.after l.stream l.invariant c.requires.rec_value c.requires.standing c.requires.part_below;
      key_len_bound = (
        key_short a.own.now a.part.now a.table.now a.source.now l.flags l.stream l.invariant.streaming c.in-Some.head
            (MatchOption-at_some _ _ c.in-Some.head c.in-Some.is c.head_at.ensures.next) _ c.item_key-key.ensures,
        omega arith,
      );
    }

pub loop-head-preserved : goal.loop-head-preserved
loop-head-preserved c =
    let a = c.args in
    let v = c.advance-stream in
    let p = c.projected-next in
    let k = c.item_key-key in
    let l = c.loop-head in
    let f = c.first-stream in
    deleting_on a.own.now a.part.now a.table.now a.source.now a.rec a.count a.records f.result l.flags
    l.place l.after l.stream l.invariant c.in-Some.head (MatchOption-at_some _ _ c.in-Some.head c.in-Some.is c.head_at.ensures.next) _ k.ensures p.result.place p.result.rec p.ensures
    v.new.flags v.result v.ensures.streaming_2 v.ensures.result_bound v.ensures.carrying

pub returns : goal.returns
returns c =
    let a = c.args in
    let l = c.loop-head in
    let f = c.first-stream in
    let n = deleting_counts a.own.now a.part.now a.table.now a.source.now a.rec a.count a.records f.result l.flags
    l.place l.after l.stream l.invariant c.requires.rec_value c.requires.standing c.requires.part_below in
    record {
      value = λ t u g.
          deleting_over a.own.now a.part.now a.table.now a.source.now a.rec a.count a.records f.result l.flags
          l.place l.after l.stream l.invariant (at_end a.own.now a.part.now l.stream c.head_at.result c.in_default.not-Some c.head_at.ensures.next) _ (f.ensures.result_value t u g);
      small = (n.used_small, n.count_small, n.charge_small);
    }
