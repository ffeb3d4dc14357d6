-- #103, adding to a file and writing inside it: the content that each gives the file, and their checks, 11 by
-- `append_bytes`' own budget among them. A file is an own one if it has a content; nothing here asks for its entry.
use Rattle.std.specs.Prelude.{Bool, true, false, cond, ◌||◌, [], ◌∷◌, ◌++◌, ℕ, ◌+◌, leb, ltb, eqb, length, take, drop}
use Rattle.std.proofs.Math.Option.{Option, none, some}
use Rattle.model.specs.Bytes.{Bytes}
use Rattle.model.specs.Path.{Path}
use Rattle.model.specs.Tree.{held, listed, Node, dir, file, link, Table, View}
use Rattle.model.specs.Table.{padded, charge}
use Rattle.model.specs.Checks.{Check, pass, refuse, ◌then◌, unless, write_checks, Memory, limited, unlimited}

-- "own files", "a file with a content"
abbrev pub is_own : Option Node → Bool
is_own none = false
is_own (some (dir m)) = false
is_own (some (file m z (held c))) = true
is_own (some (file m z (listed q))) = false
is_own (some link) = false

-- the bytes that a file holds, where b are those that the caller lends of a listed one
abbrev pub content_of : Option Node → Bytes → Bytes
content_of none b = []
content_of (some (dir m)) b = []
content_of (some (file m z (held c))) b = c
content_of (some (file m z (listed q))) b = b
content_of (some link) b = []

-- how many bytes are to be lent: "the recorded size (0 where no listed file's bytes are needed)"
abbrev pub needed : Option Node → ℕ
needed none = 0
needed (some (dir m)) = 0
needed (some (file m z (held c))) = 0
needed (some (file m z (listed q))) = z
needed (some link) = 0

-- append: the data d behind what the file holds
abbrev pub appended : Option Node → Bytes → Bytes → Bytes
appended o d b = content_of o b ++ d

-- "Lent bytes whose count isn't the recorded size … are 17"
abbrev pub append_checks : View → Path → Bytes → Check
append_checks f p b = write_checks f p then unless 17 (eqb (length b) (needed (f p)))

-- "The memory checks are those two functions' own": unless the file is an own one, `append_bytes` has its whole new
-- content, of n bytes, beside the charge as it is
abbrev pub append_memory : Memory → Table → Option Node → ℕ → Check
append_memory (limited E limit) t o n = unless 11 (is_own o || leb (charge E t + n) limit)
append_memory unlimited t o n = pass

-- "in own files only; another path is 5", the root too
abbrev pub own_at : View → Path → Bool
own_at f [] = false
own_at f (c ∷ p) = is_own (f (c ∷ p))

-- "an offset whose sum with the data length passes 2^64 − 1 is 18 after 5 and before 11"
abbrev pub inside_checks : View → Path → ℕ → Bytes → Check
inside_checks f p o d = cond (own_at f p) pass (refuse 5 0 (length p))
    then unless 18 (ltb (o + length d) 0x1_0000_0000_0000_0000)

-- the content c with the data d at the offset o: what stands before the offset, "A gap before the offset fills with
-- zeros", the data, and what stands behind it
abbrev pub spliced : ℕ → Bytes → Bytes → Bytes
spliced o d c = take o (padded o c) ++ (d ++ drop (o + length d) c)
