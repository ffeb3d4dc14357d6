-- Document 01, "Paths and the published tree": which bytes are a path; ancestors, children, and what lies below a path.
use Rattle.std.specs.Prelude.{Bool, true, false, cond, not, ◌&&◌, ◌||◌, List, [], ◌∷◌, map, ℕ, leb, eqb, length}
use Rattle.std.proofs.Math.Option.{Option, none, some}
use Rattle.model.specs.Bytes.{Bytes, every, same}
use Rattle.model.specs.Utf8.{utf8}

abbrev pub Path : Type 0
Path = Bytes

-- "without byte 0, backslash or colon"
abbrev pub allowed : ℕ → Bool
allowed b = not (eqb b 0) && not (eqb b 92) && not (eqb b 58)

-- "A component is 1 to 255 bytes, not `.` or `..`"
abbrev pub component : Bytes → Bool
component c =
    leb 1 (length c)
    && leb (length c) 255
    && not (same c (46 ∷ []))
    && not (same c (46 ∷ 46 ∷ []))
    && every allowed c

-- "components joined by single `/`": what the slashes part
abbrev pub on_first : ℕ → List Bytes → List Bytes
on_first b [] = []
on_first b (c ∷ cs) = (b ∷ c) ∷ cs

abbrev pub components : Path → List Bytes
components [] = [] ∷ []
components (b ∷ s) = let cs = components s in cond (eqb b 47) ([] ∷ cs) (on_first b cs)

-- "at most 512 bytes and 32 components"
abbrev pub short : Path → Bool
short p = leb (length p) 512 && leb (length (components p)) 32

abbrev pub is_root : Path → Bool
is_root [] = true
is_root (b ∷ s) = false

-- "A path is empty (the root) or components joined by single `/`. … A path is UTF-8 by RFC 3629."
abbrev pub is_path : Path → Bool
is_path p = short p && utf8 p && (is_root p || every component (components p))

-- the proper ancestors of a path but the root, from the top: what stands before each slash
abbrev pub ancestors : Path → List Path
ancestors [] = []
ancestors (b ∷ s) = let r = map (λ (q : Path). b ∷ q) (ancestors s) in cond (eqb b 47) ([] ∷ r) r

-- "below means from `a/` up to, not including, `a0`": k is p, a slash, and whatever follows. No path in form is so
-- below the root.
abbrev pub below : Path → Path → Bool
below [] [] = false
below [] (c ∷ k) = eqb c 47
below (a ∷ p) [] = false
below (a ∷ p) (c ∷ k) = eqb a c && below p k

-- k is a child of p: p, a slash, and one component
abbrev pub slashless : Path → Bool
slashless k = every (λ c. not (eqb c 47)) k

abbrev pub child : Path → Path → Bool
child [] [] = false
child [] (c ∷ k) = eqb c 47 && slashless k
child (a ∷ p) [] = false
child (a ∷ p) (c ∷ k) = eqb a c && child p k

-- k is p or lies below it; what then follows p in k
abbrev pub ends_here : Path → Bool
ends_here [] = true
ends_here (c ∷ k) = eqb c 47

abbrev pub rest : Path → Path → Option Path
rest [] k = cond (ends_here k) (some k) none
rest (a ∷ p) [] = none
rest (a ∷ p) (c ∷ k) = let r = rest p k in cond (eqb a c) r none
