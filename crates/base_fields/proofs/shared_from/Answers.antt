-- `base_fields::shared_from` meets its contract: where one has ended, no more is in common.
use Rattle.std.proofs.Common.{rules, arith, length, drop}
use Rattle.std.proofs.lemmas.List.{length-drop}
use Rattle.std.proofs.lemmas.Slice.{between_to_end}
use Rattle.std.proofs.lemmas.Slice.Zip.{zip_end}
use Rattle.base_fields.proofs.Common.{one_over}
use Rattle.base_fields.proofs.shared_from.Goals as goal

pub returns-clause-value : goal.returns-clause-value
returns-clause-value c =
    let a = c.args.a.now in
    let b = c.args.b.now in
    let from = c.args.from in
    let l = c.loop-x in
    let of_a = between_to_end a from (length a) (omega arith) in
    let of_b = between_to_end b from (length b) (omega arith) in
    let n = zip_end (drop from a) (drop from b) l.yielded _ _ c.next.new.self _ (search (rules, of_a)) (search (rules, of_b)) l.yielded_by c.in-None.is c.next.ensures.steps in
    let da = length-drop from a in
    let db = length-drop from b in
    omega (arith, one_over a b l.n (omega arith))
