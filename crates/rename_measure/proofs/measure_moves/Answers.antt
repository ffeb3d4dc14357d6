-- `measure_moves` meets its contract: each turn of the loop counts one moved entry more.
use Rattle.std.proofs.lemmas.Option.{MatchOption-at_some}
use Rattle.rename_carried.proofs.Items.{at_end}
use Rattle.rename_measure.proofs.Putting.{size_small, some_entry, as_long}
use Rattle.rename_measure.proofs.Streamed.{item_short, item_longer}
use Rattle.rename_measure.proofs.Moving.{moving_begun, moving_counts, moving_extra, moving_over, moving_on}
use Rattle.rename_measure.proofs.measure_moves.Goals as goal

pub loop-head-init : goal.loop-head-init
loop-head-init c =
    let a = c.args in
    let f = c.first-stream in
    let t = c.first_move-tally in
    let p = c.requires.destination_nonzero in
    λ v l.
    moving_begun a.own.now a.part.now a.table.now a.source.now a.destination.now v a.rec a.count a.records
    f.result f.new.flags
    c.requires.rec_value (p.0, p.1) f.ensures.streaming f.ensures.result_bound f.ensures.carrying a.first_len p.2 l t.result t.ensures.measured
    t.ensures.extra_value

pub head_at-requires : goal.head_at-requires
head_at-requires c =
    let n = c.args.first_len in
    let w = (c.loop-head.invariant (some_entry n) (as_long n)).streaming in
    record { standing = w.entries; standing_2 = w.listed.stand }

pub with_move-tally-requires : goal.with_move-tally-requires
with_move-tally-requires c =
    let a = c.args in
    let n = a.first_len in
    let v = some_entry n in
    let l = c.loop-head in
    let f = c.first-stream in
    let m = l.invariant v (as_long n) in
    let w = m.streaming in
    let s = item_short a.own.now a.part.now a.table.now a.source.now l.flags l.stream w c.in-Some.head (MatchOption-at_some _ _ c.in-Some.head c.in-Some.is c.head_at.ensures.next) in
    let o = item_longer a.own.now a.part.now a.table.now a.source.now l.flags l.stream w c.in-Some.head (MatchOption-at_some _ _ c.in-Some.head c.in-Some.is c.head_at.ensures.next) in
    record {
      counts = moving_counts a.own.now a.part.now a.table.now a.source.now a.destination.now v a.rec a.count a.records
          f.result l.flags l.tally l.stream m c.requires.rec_value c.requires.standing c.requires.part_below;
      extra_bound = (
        moving_extra a.own.now a.part.now a.table.now a.source.now a.destination.now v a.rec a.count a.records
            f.result l.flags l.tally l.stream m c.requires.standing c.requires.part_below,
        c.requires.destination_nonzero.1,
      );
      standing = w.entries;
      standing_2 = w.listed.stand;
      next = MatchOption-at_some _ _ c.in-Some.head c.in-Some.is c.head_at.ensures.next;
      source_in_bounds = (o, s.0, s.1);
    }

pub advance-stream-requires : goal.advance-stream-requires
advance-stream-requires c =
    let n = c.args.first_len in
    let w = (c.loop-head.invariant (some_entry n) (as_long n)).streaming in
    record { streaming = w; next = MatchOption-at_some _ _ c.in-Some.head c.in-Some.is c.head_at.ensures.next }

pub loop-head-preserved : goal.loop-head-preserved
loop-head-preserved c =
    let a = c.args in
    let y = c.advance-stream in
    let t = c.with_move-tally in
    let l = c.loop-head in
    let f = c.first-stream in
    λ v n.
    moving_on a.own.now a.part.now a.table.now a.source.now a.destination.now v a.rec a.count a.records f.result
    l.flags l.tally l.stream (l.invariant v n) c.in-Some.head (MatchOption-at_some _ _ c.in-Some.head c.in-Some.is c.head_at.ensures.next) t.result t.ensures
    y.new.flags y.result y.ensures.streaming_2 y.ensures.result_bound y.ensures.carrying c.requires.destination_nonzero.1 (size_small a.table.now a.rec
    c.requires.rec_value)

pub returns : goal.returns
returns c =
    let a = c.args in
    let l = c.loop-head in
    let f = c.first-stream in
    let v0 = some_entry a.first_len in
    let m = l.invariant v0 (as_long a.first_len) in
    let k = moving_counts a.own.now a.part.now a.table.now a.source.now a.destination.now v0 a.rec a.count a.records
    f.result l.flags l.tally l.stream m
    c.requires.rec_value c.requires.standing c.requires.part_below in
    let x = moving_extra a.own.now a.part.now a.table.now a.source.now a.destination.now v0 a.rec a.count a.records
    f.result l.flags l.tally l.stream m
    c.requires.standing c.requires.part_below in
    record {
      moved = λ t v u g n.
          moving_over a.own.now a.part.now a.table.now a.source.now a.destination.now v a.rec a.count a.records
          f.result l.flags l.tally l.stream (l.invariant v n) (at_end a.own.now a.part.now l.stream c.head_at.result c.in_default.not-Some c.head_at.ensures.next)
          _ (f.ensures.result_value t u g);
      small = ((k.used_small, k.count_small, k.charge_small), x);
    }
