-- `next_record` meets its contract: the record's path is as long as its first two bytes say.
use Rattle.listing_records.proofs.Places.{stands}
use Rattle.listing_records.proofs.next_record.Goals as goal

pub returns-clause-standing_2 : goal.returns-clause-standing_2
returns-clause-standing_2 c =
    let place = c.args.place in
    rw c.le16.ensures.0 (stands c.args.listing.now place.left place.at c.requires.left_nonzero c.requires.standing).more
