-- `put_all` meets its contract: each turn of the loop puts one entry, which the step makes of the item that is next.
use Rattle.model.specs.Table.{table_in}
use Rattle.rename_carried.proofs.Items.{at_end}
use Rattle.rename_write.proofs.Loops.{on, over, room_at_first, good_at_first}
use Rattle.rename_write.proofs.put_all.Goals as goal

pub advance-after-requires-clause-streaming : goal.advance-after-requires-clause-streaming
advance-after-requires-clause-streaming g c =
    let q = c.requires.step_puts in
    (c.loop-head.invariant q.0 q.3).streaming

pub step-next-requires : goal.step-next-requires
step-next-requires g c =
    let f = c.first-stream in
    let l = c.loop-head in
    let v = c.advance-after in
    let q = c.requires.step_puts in
    let i = l.invariant q.0 q.3 in
    let all = q.4 in
    q.2 _ _ _ _ (record {
      entries = i.streaming.entries;
      listed = i.streaming.listed.stand;
      next = c.in-Some.ensures.next;
      passes = good_at_first q.0 _ _ _ _ _ _ _ _ _ _ _ _ i v.new.flags v.result c.in-Some.head v.ensures.carrying
          _ _ _ f.ensures.carrying f.ensures.result_value q.1 all.l all.listed all.all;
      room = room_at_first q.0 _ _ _ _ _ _ _ _ _ _ _ _ i v.new.flags v.result c.in-Some.head v.ensures.carrying
          _ _ _ f.ensures.carrying f.ensures.result_value q.5;
    })

pub loop-head-preserved : goal.loop-head-preserved
loop-head-preserved g c k puts =
    let l = c.loop-head in
    let v = c.advance-after in
    let p = c.step-next in
    on k _ _ _ _ _ _ _ _ _ _ _ _ (l.invariant k puts) v.new.flags v.result c.in-Some.head v.ensures.carrying
    _ _ v.ensures.streaming_2 (puts _ _ _ _ _ _ p.ensures)

pub returns : goal.returns
returns g c k puts =
    let f = c.first-stream in
    let l = c.loop-head in
    over k _ _ _ _ _ _ _ _ _ _ _ _ (l.invariant k puts) (table_in c.args.table.now c.args.rec) c.args.records
    (at_end _ _ l.stream c.head_at.result c.in_default.not-Some c.head_at.ensures.next) _ f.ensures.carrying f.ensures.result_value
