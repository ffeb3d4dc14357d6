-- The lengths that a kept file names, without what stands in its parts.
use Rattle.std.specs.Prelude.{Bool, ◌&&◌, ℕ, ◌+◌, leb, eqb, length}
use Rattle.model.specs.Bytes.{Bytes, number_at}
use Rattle.kept_file.specs.Kept.{start_of_listing, listing_length}

-- where the length of the entries stands
abbrev pub listing_end : Bytes → ℕ
listing_end s = start_of_listing s + listing_length s

-- the two lengths stand in s, and the parts that they measure end where s does
abbrev pub framed : Bytes → Bool
framed s =
    leb (start_of_listing s) (length s)
    && (leb (listing_end s + 4) (length s) && eqb (listing_end s + 4 + number_at s (listing_end s) 4) (length s))
