-- `kept_read::is_framed` meets its contract: one law for each exit.
use borrow.Author.Rules.{rules}
use Rattle.kept_read.proofs.Frames.{no_length, listing_cut, by_end}
use Rattle.kept_read.proofs.is_framed.Goals as goal

pub returns-then-file-lt-LISTING : goal.returns-then-file-lt-LISTING
returns-then-file-lt-LISTING c = no_length c.args.file.now (search rules)

pub returns-then-file-from : goal.returns-then-file-from
returns-then-file-from c = listing_cut c.args.file.now (search rules) c.listing_end-end.ensures.value c.if-file-from.true

pub returns : goal.returns
returns c =
    by_end c.args.file.now (search rules) c.listing_end-end.ensures.value (search rules)
    c.le32.ensures.0
