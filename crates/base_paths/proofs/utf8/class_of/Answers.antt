-- `base_paths::utf8::class_of` meets its contract: by comparison below the table, from there on by its rule.
use borrow.Author.Rules.{rules}
use Rattle.base_paths.proofs.Classes.{ascii_row, low_row, table_row, row_below}
use Rattle.base_paths.proofs.utf8.class_of.Goals as goal

pub returns-then-b-lt128 : goal.returns-then-b-lt128
returns-then-b-lt128 c = record { value = ascii_row c.args.b c.if-b-lt128.true; upper_bound = search rules }

pub returns-then-b-lt192 : goal.returns-then-b-lt192
returns-then-b-lt192 c = record { value = low_row c.args.b c.if-b-lt128.false c.if-b-lt192.true; upper_bound = search rules }

pub returns : goal.returns
returns c =
    let b = c.args.b in
    let e = table_row b c.if-b-lt192.false (search rules) in
    record { value = rw c.from.ensures e; upper_bound = row_below b _ (rw c.from.ensures e) }
