-- `kept_read::listing_part` meets its contract: one law for each exit.
use borrow.Author.Rules.{rules}
use Rattle.kept_read.proofs.Frames.{no_listing, listing_rest, listing_up_to}
use Rattle.kept_read.proofs.listing_part.Goals as goal

pub returns-then-file-lt-LISTING : goal.returns-then-file-lt-LISTING
returns-then-file-lt-LISTING c = no_listing c.args.file.now (search rules)

pub returns-then-file-to : goal.returns-then-file-to
returns-then-file-to c = listing_rest c.args.file.now c.listing_end-to.ensures.value (search rules)

pub returns : goal.returns
returns c = listing_up_to c.args.file.now c.listing_end-to.ensures.value
