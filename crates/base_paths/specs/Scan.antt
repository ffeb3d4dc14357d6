-- What the states of the one pass stand for: what the bytes still to come must be.
use Rattle.std.specs.Prelude.{Bool, true, cond, not, ◌&&◌, List, [], ◌∷◌, ℕ, zero, suc, ◌+◌, leb, ltb, eqb, replicate}
use Rattle.model.specs.Bytes.{Bytes}
use Rattle.model.specs.Utf8.{Range, ◌to◌, tail}
use Rattle.model.specs.Path.{allowed}
use Rattle.base_paths.specs.declared.utf8.Tail.{Tail}
use Rattle.base_paths.specs.declared.names.Names.{Names}

-- n bytes, the first in the range r, the others in UTF8-tail
abbrev pub ranges : ℕ → Range → List Range
ranges zero r = []
ranges (suc n) r = r ∷ replicate n tail

abbrev pub pending : Tail → List Range
pending t = ranges t.need (t.low to t.high)

-- a component of n bytes is 1 to 255 bytes, and not one or two dots; d: it has dots only
abbrev pub sized_name : ℕ → Bool → Bool
sized_name n d = leb 1 n && leb n 255 && not (d && leb n 2)

abbrev pub ended : Names → Bool
ended n = n.ok && sized_name n.len n.dots

-- the bytes to come complete the components of a path, after k components and n bytes of the next
abbrev pub scan : ℕ → Bool → ℕ → Bytes → Bool
scan n d k [] = sized_name n d && ltb k 32
scan n d k (b ∷ s) =
    cond (eqb b 47)
    (sized_name n d && scan 0 true (k + 1) s)
    (allowed b && scan (n + 1) (d && eqb b 46) k s)

abbrev pub completes : Names → Bytes → Bool
completes n s = n.ok && scan n.len n.dots n.before s
