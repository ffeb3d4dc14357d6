-- `to_create` meets its contract: with the flag by the missing ancestors and the path, without it by the parents' check and the path alone.
use mathlib.Core.Path.{refl}
use native.Mathlib.Omega.{arith}
use lib.ListN.{length}
use Rattle.call_mkdir.proofs.Made.{made_dirs, made_one, one_climbs}
use Rattle.call_mkdir.proofs.to_create.Goals as goal

pub returns-then-parents-clause-makes : goal.returns-then-parents-clause-makes
returns-then-parents-clause-makes c =
    let a = c.args in
    let x = c.overlay_dirs_to_create in
    made_dirs a.listing.now a.table.now a.rec a.path.now c.requires.given.table_is x.result x.ensures.dirs_value x.ensures.count_bound

pub returns-clause-count_bound : goal.returns-clause-count_bound
returns-clause-count_bound c =
    let a = c.args in
    (omega arith, one_climbs (length a.path.now) _ refl c.requires.path_value.1)

pub returns-clause-makes : goal.returns-clause-makes
returns-clause-makes c =
    let a = c.args in
    let p = a.path.now in
    λ n. record {
      count = omega arith;
      climb = one_climbs (length p) _ refl c.requires.path_value.1;
      table = made_one a.listing.now a.table.now a.rec p _ refl c.in_ok-ensure_parent_exists.ensures n;
    }
