-- Where the rows of the plain tree stand, and what is read of one.
use Rattle.std.specs.Prelude.{Bool, cond, List, [], ℕ, ◌+◌, ◌*◌, ltb, leb, eqb, length, get_or, take, drop}

-- what is not in the tree has no row, and the rows' end stands for it
abbrev pub row_at : ℕ → ℕ
row_at i = cond (ltb i 40) (32 * i) 1280

-- an own file is 4, and a file, 2, to whoever asks what is there
abbrev pub shown_kind : ℕ → ℕ
shown_kind b = cond (eqb b 4) 2 b

abbrev pub kind_in : List ℕ → ℕ → ℕ
kind_in s i = cond (eqb i 0) 1 (shown_kind (get_or s (row_at i) 0))

abbrev pub own_in : List ℕ → ℕ → Bool
own_in s i = eqb (get_or s (row_at i) 0) 4

-- a count above 30 is none
abbrev pub count_of : ℕ → ℕ
count_of n = cond (leb n 30) n 0

abbrev pub count_in : List ℕ → ℕ → ℕ
count_in s i = count_of (get_or s (row_at i + 1) 0)

-- rows that end too early hold nothing
abbrev pub content_from : List ℕ → ℕ → ℕ → List ℕ
content_from s from n = cond (leb (from + n) (length s)) (take n (drop from s)) []

abbrev pub content_in : List ℕ → ℕ → List ℕ
content_in s i = content_from s (row_at i + 2) (count_in s i)

abbrev pub lent_in : List ℕ → ℕ → List ℕ
lent_in s i = cond (own_in s i) [] (content_in s i)
