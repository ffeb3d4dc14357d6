-- The class of a byte: the number of the row of RFC 3629's grammar that begins with it.
use Rattle.std.specs.Prelude.{cond, List, [], ◌∷◌, ℕ, zero, suc}
use Rattle.model.specs.Utf8.{Range, within, Row, nowhere}

-- the place of the first row that begins with b; where none does, how many rows there are
abbrev pub row_in : List Row → ℕ → ℕ
row_in [] b = 0
row_in (r ∷ rs) b = let n = row_in rs b in cond (within r.first b) 0 (suc n)

-- the ranges of the bytes that follow the first, by the row's place; where no row stands, no byte can follow
abbrev pub after_row : List Row → ℕ → List Range
after_row [] k = nowhere ∷ []
after_row (r ∷ rs) zero = r.after
after_row (r ∷ rs) (suc k) = after_row rs k
