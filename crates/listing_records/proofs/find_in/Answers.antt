-- `find_in` meets its contract: the search from the first record on finds what the tree has.
use Rattle.listing_records.proofs.Places.{standing_all, seek_stands, found_all}
use Rattle.listing_records.proofs.find_in.Goals as goal

pub found_at-requires : goal.found_at-requires
found_at-requires c =
    let s = c.args.listing.now in
    let all = standing_all s c.args.count c.requires.0 c.requires.1 in
    seek_stands s c.args.path.now c.args.count 9 all c.seek-place.result c.seek-place.ensures

pub returns : goal.returns
returns c =
    let q = c.seek-place in
    found_all c.args.listing.now c.args.path.now c.args.count q.result c.requires.0 c.requires.1 q.ensures c.found_at.result
    c.found_at.ensures
