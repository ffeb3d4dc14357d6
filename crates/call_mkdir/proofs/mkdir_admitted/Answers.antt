-- `mkdir_admitted` meets its contract: refused by its checks, accepted where the directory is there, or as the insertion of its directories answers.
use Rattle.std.proofs.Common.{ap, Ok}
use Rattle.base_paths.specs.Dirs.{ends_of, prefixes}
use Rattle.call_mkdir.proofs.Outcomes.{step_refused, step_there, step_made}
use Rattle.call_mkdir.proofs.mkdir_admitted.Goals as goal

pub returns-in-Err : goal.returns-in-Err
returns-in-Err c =
    let a = c.args in
    step_refused a.listing.now a.table.now a.rec a.work.now a.path.now a.parents a.exist_ok a.mtime a.limit c.requires.given c.requires.table_in_bounds
    _ c.in-Err.ensures.checks_value _ c.refused.ensures

pub returns-in-Ok-None : goal.returns-in-Ok-None
returns-in-Ok-None c =
    let a = c.args in
    let j = c.in-Ok-None in
    step_there a.listing.now a.table.now a.rec a.work.now a.path.now a.parents a.exist_ok a.mtime a.limit c.requires.given c.requires.table_in_bounds
    _ j.field-0-is j.ensures.checks_value (j.ensures.there (ap Ok j.field-0-is)) c.zero_from.new.t c.zero_from.ensures

pub insert_all-inserted-requires-clause-path_value : goal.insert_all-inserted-requires-clause-path_value
insert_all-inserted-requires-clause-path_value c = let j = c.in-Ok-Some in (j.ensures.makes j.dirs (ap Ok j.field-0-is)).0

pub insert_all-inserted-requires-clause-count_bound : goal.insert_all-inserted-requires-clause-count_bound
insert_all-inserted-requires-clause-count_bound c =
    let j = c.in-Ok-Some in
    let k = (j.ensures.makes j.dirs (ap Ok j.field-0-is)).1 in
    (k.count, k.climb, c.requires.table_in_bounds)

pub returns-in-Ok-Some : goal.returns-in-Ok-Some
returns-in-Ok-Some c =
    let a = c.args in
    let j = c.in-Ok-Some in
    let x = c.insert_all-inserted in
    step_made a.listing.now a.table.now a.rec a.work.now a.path.now a.parents a.exist_ok a.mtime a.limit c.requires.given c.requires.table_in_bounds
    _ j.dirs j.field-0-is j.ensures.checks_value (prefixes a.path.now (ends_of j.dirs)) ((j.ensures.makes j.dirs (ap Ok j.field-0-is)).1.table a.mtime) x.result x.ensures.value x.new.table
    x.new.work x.ensures.table_after x.ensures.work_after _ c.answered.ensures
