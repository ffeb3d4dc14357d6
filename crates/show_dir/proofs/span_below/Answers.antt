-- `span_below` meets its contract: below the root all is read, below another directory a part of the table and of the listing.
use borrow.Author.Rules.{rules}
use Rattle.show_dir.proofs.Below.{root_span, part_span}
use Rattle.show_dir.proofs.span_below.Goals as goal

pub returns-then-dir-eq0 : goal.returns-then-dir-eq0
returns-then-dir-eq0 c =
    let a = c.args in
    let e = c.first_entry-entries in
    let k = c.first_record-records in
    record {
      from_le_to = search rules;
      span_of = root_span a.listing.now a.table.now a.rec c.requires e.result k.result e.ensures.value k.ensures.value e.ensures.standing k.ensures.standing
          a.dir.now (search rules);
    }

pub returns : goal.returns
returns c =
    let a = c.args in
    let o = c.below-own in
    let l = c.below-listed in
    record {
      from_le_to = (l.ensures.start, l.ensures.end);
      span_of = part_span a.listing.now a.table.now a.rec c.requires o.result.from o.result.to o.result.count l.result.from l.result.to
          l.result.count a.dir.now (search rules) o.ensures l.ensures;
    }
