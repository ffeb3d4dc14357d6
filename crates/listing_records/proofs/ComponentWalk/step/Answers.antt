-- `ComponentWalk::step` meets its contract: the search from the last step's place finds the prefix, and the walk stays good for longer ones.
use mathlib.Core.Path.{ap}
use mathlib.Core.Bool.{not}
use Prim.Native.Nat.{◌+◌}
use native.Mathlib.Omega.{arith}
use borrow.Author.Rules.{rules}
use Rattle.model.proofs.Orders.{bot}
use Rattle.listing_records.proofs.Places.{seek_stands}
use Rattle.listing_records.proofs.Steps.{walks_on, exhausted_kind, step_kind_lem, step_walks}
use Rattle.listing_records.proofs.ComponentWalk.step.Goals as goal

pub returns-then-self-clause-target_value : goal.returns-then-self-clause-target_value
returns-then-self-clause-target_value c =
    let a = c.args in
    exhausted_kind a.listing.now a.path.now a.self a.end c.requires.walks (search rules) (search rules) c.if-self.true

pub returns-then-self-clause-walks_2 : goal.returns-then-self-clause-walks_2
returns-then-self-clause-walks_2 c =
    let a = c.args in
    walks_on a.listing.now a.path.now a.self a.end (a.end + 1) (omega arith) c.requires.walks

pub found_at-found-requires : goal.found_at-found-requires
found_at-found-requires c =
    let a = c.args in
    seek_stands a.listing.now _ a.self.left a.self.at c.requires.walks.stand c.seek-place.result c.seek-place.ensures

pub returns : goal.returns
returns c =
    let a = c.args in
    let v = c.requires.walks in
    let q = c.seek-place in
    let d = c.found_at-found in
    let t = c.classify_target-target in
    let b = c.is_dir-on in
    let k = step_kind_lem a.listing.now a.path.now a.self a.end v (search rules) (search rules) c.requires.listing_value c.requires.path_value
    q.result q.ensures d.result t.result d.ensures t.ensures in
    record {
      target_value = k;
      exhausted_value = ap not b.ensures;
      walk_value = λ z. absurd (bot (cc c.if-self.false));
      walks_2 = step_walks a.listing.now a.path.now a.self a.end v (search rules) (search rules) c.requires.listing_value c.requires.path_value
          q.result q.ensures t.result b.result b.ensures k;
    }
