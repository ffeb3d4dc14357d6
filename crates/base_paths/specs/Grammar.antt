-- UTF-8 as the productions of RFC 3629, section 4, have it: "UTF8-octets = *( UTF8-char )", and a UTF8-char is the
-- bytes of one row.
use Rattle.std.specs.Prelude.{◌≡◌, Bool, true, false, ◌&&◌, List, [], ◌∷◌, ◌++◌}
use Rattle.model.specs.Bytes.{Bytes}
use Rattle.model.specs.Utf8.{Range, within, Row, rows}

-- the bytes lie in the ranges, one in each
abbrev pub in_ranges : List Range → Bytes → Bool
in_ranges [] [] = true
in_ranges [] (b ∷ s) = false
in_ranges (r ∷ rs) [] = false
in_ranges (r ∷ rs) (b ∷ s) = within r b && in_ranges rs s

pub data Among (r : Row) : List Row → Type 0 where
  here : {rs : List Row} → Among r (r ∷ rs)
  there : {q : Row} {rs : List Row} → Among r rs → Among r (q ∷ rs)

pub data Octets : Bytes → Type 0 where
  none : Octets []
  char : (r : Row) (c s : Bytes) → Among r rows → in_ranges (r.first ∷ r.after) c ≡ true → Octets s → Octets (c ++ s)
