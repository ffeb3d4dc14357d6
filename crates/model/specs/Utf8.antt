-- UTF-8 as the grammar in section 4 of RFC 3629 has it: each row the ranges of the bytes of one kind of character.
use Rattle.std.specs.Prelude.{Bool, true, false, cond, ◌&&◌, List, [], ◌∷◌, ℕ, leb}
use Rattle.model.specs.Bytes.{Bytes}

pub record Range : Type 0 where
  pub low : ℕ
  pub high : ℕ

infix 70 ◌to◌
abbrev pub ◌to◌ : ℕ → ℕ → Range
◌to◌ a b = record { low = a; high = b }

abbrev pub within : Range → ℕ → Bool
within r b = leb r.low b && leb b r.high

-- UTF8-tail
abbrev pub tail : Range
tail = 0x80 to 0xBF

-- a row: the range of a character's first byte, and those of the bytes after it
pub record Row : Type 0 where
  pub first : Range
  pub after : List Range

-- UTF8-1, UTF8-2, the four rows of UTF8-3, the three of UTF8-4
abbrev pub rows : List Row
rows =
    record { first = 0x00 to 0x7F; after = [] }
    ∷ record { first = 0xC2 to 0xDF; after = tail ∷ [] }
    ∷ record { first = 0xE0 to 0xE0; after = 0xA0 to 0xBF ∷ tail ∷ [] }
    ∷ record { first = 0xE1 to 0xEC; after = tail ∷ tail ∷ [] }
    ∷ record { first = 0xED to 0xED; after = 0x80 to 0x9F ∷ tail ∷ [] }
    ∷ record { first = 0xEE to 0xEF; after = tail ∷ tail ∷ [] }
    ∷ record { first = 0xF0 to 0xF0; after = 0x90 to 0xBF ∷ tail ∷ tail ∷ [] }
    ∷ record { first = 0xF1 to 0xF3; after = tail ∷ tail ∷ tail ∷ [] }
    ∷ record { first = 0xF4 to 0xF4; after = 0x80 to 0x8F ∷ tail ∷ tail ∷ [] }
    ∷ []

-- no byte lies in it
abbrev pub nowhere : Range
nowhere = 1 to 0

-- the ranges of the bytes that follow b where a character begins with it, by its row; where no row begins with b, no
-- byte can follow
abbrev pub after_in : List Row → ℕ → List Range
after_in [] b = nowhere ∷ []
after_in (r ∷ rs) b = cond (within r.first b) r.after (after_in rs b)

-- the bytes lie in the ranges, one in each, and from there on they are characters
abbrev pub characters : List Range → Bytes → Bool
characters [] [] = true
characters (r ∷ rs) [] = false
characters [] (b ∷ s) = characters (after_in rows b) s
characters (r ∷ rs) (b ∷ s) = within r b && characters rs s

abbrev pub utf8 : Bytes → Bool
utf8 s = characters [] s
