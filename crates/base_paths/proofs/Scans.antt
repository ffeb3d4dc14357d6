-- Laws of `scan`, what the bytes to come must be after a state of `Names`: from the start it says what the definition says of the
-- components of a path.
use mathlib.Core.Path.{◌≡◌, refl, sym, ap, ◌∙◌}
use mathlib.Core.Bool.{Bool, true, false, not, ◌&&◌, and-true, and-false, and_assoc, and_comm}
use mathlib.Core.List.{List, [], ◌∷◌}
use Prim.Native.Nat.{ℕ, suc, ◌+◌}
use native.Mathlib.Omega.{arith}
use native.Mathlib.Nat.{zero-add}
use lib.Dec.{leb, ltb, eqb}
use lib.ListN.{length}
use borrow.Author.Tests.{lt-leb}
use Rattle.model.specs.Bytes.{Bytes, every, same}
use Rattle.model.specs.Path.{Path, allowed, component, components}
use Rattle.model.proofs.Orders.{yea, nay, test, same_cons}
use Rattle.base_paths.specs.Scan.{sized_name, scan}

abbrev dots : Bytes → Bool
dots c = every (λ b. eqb b 46) c

-- n bytes that are allowed, dots only if d says so, and then c, are a component
abbrev begun : ℕ → Bool → Bytes → Bool
begun n d c = sized_name (n + length c) (d && dots c) && every allowed c

longer : (a d e : Bool) {s t l : Bool} → s ≡ false → t ≡ false → l ≡ false → (a && not s && not t && e) ≡ (a && not (d && l) && e)
longer a d e p q r = simp (p, q, r, and-true, and-false)

-- a component, by its length and by whether it is dots only
by_size : (c : Bytes) → component c ≡ (sized_name (length c) (dots c) && every allowed c)
by_size [] = refl
by_size (x ∷ []) =
    let e = same_cons x 46 [] [] in
    let f = same_cons x 46 [] (46 ∷ []) in
    elim (test (eqb x 46)) [ yea w ↦ cc | nay w ↦ cc ]
by_size (x ∷ y ∷ []) =
    let e = same_cons x 46 (y ∷ []) [] in
    let f = same_cons x 46 (y ∷ []) (46 ∷ []) in
    let g = same_cons y 46 [] [] in
    elim (test (eqb x 46)) [ yea w ↦ elim (test (eqb y 46)) [ yea v ↦ cc | nay v ↦ cc ] | nay w ↦ cc ]
by_size (x ∷ y ∷ z ∷ c) =
    let n : ℕ = length (x ∷ y ∷ z ∷ c) in
    let e : same (x ∷ y ∷ z ∷ c) (46 ∷ []) ≡ false = same_cons x 46 (y ∷ z ∷ c) [] ∙ and-false (eqb x 46) in
    let f : same (y ∷ z ∷ c) (46 ∷ []) ≡ false = same_cons y 46 (z ∷ c) [] ∙ and-false (eqb y 46) in
    let g : same (x ∷ y ∷ z ∷ c) (46 ∷ 46 ∷ []) ≡ false =
    same_cons x 46 (y ∷ z ∷ c) (46 ∷ []) ∙ ap (λ (t : Bool). eqb x 46 && t) f ∙ and-false (eqb x 46) in
    longer (leb 1 n && leb n 255) (dots (x ∷ y ∷ z ∷ c)) (every allowed (x ∷ y ∷ z ∷ c)) e g (lt-leb n 2 (omega arith))

-- what the definition says of the components c ∷ cs after k others, where n bytes of c were read before
abbrev held : ℕ → Bool → ℕ → List Bytes → Bool
held n d k [] = false
held n d k (c ∷ cs) = leb (k + length (c ∷ cs)) 32 && (begun n d c && every component cs)

-- no byte was read
fresh : (c : Bytes) → begun 0 true c ≡ component c
fresh c = ap (λ (m : ℕ). sized_name m (dots c) && every allowed c) (zero-add (length c)) ∙ sym (by_size c)

-- no byte follows
over : (n : ℕ) (d : Bool) → begun n d [] ≡ sized_name n d
over n d = let f : n + 0 ≡ n = omega arith in simp (f, and-true)

held_end : (n : ℕ) (d : Bool) (k : ℕ) → scan n d k [] ≡ held n d k ([] ∷ [])
held_end n d k =
    let e : k + 1 ≡ suc k = omega arith in
    rw (over n d, and-true, e) (and_comm (sized_name n d) (ltb k 32))

swap : (a b c : Bool) → (a && (b && c)) ≡ (b && (a && c))
swap true b c = refl
swap false b c = sym (and-false b)

module _ (n : ℕ) (d : Bool) (k : ℕ) (c : Bytes) (cs : List Bytes) where
  held_slash : (sized_name n d && held 0 true (k + 1) (c ∷ cs)) ≡ held n d k ([] ∷ c ∷ cs)
  held_slash =
      let e : k + 1 + length (c ∷ cs) ≡ k + length ([] ∷ c ∷ cs) = omega arith in
      rw (over n d, fresh c, e) (swap (sized_name n d) (leb (k + length ([] ∷ c ∷ cs)) 32) (component c && every component cs))

  more : (b : ℕ) → begun n d (b ∷ c) ≡ (allowed b && begun (n + 1) (d && eqb b 46) c)
  more b =
      let e : n + 1 + length c ≡ n + length (b ∷ c) = omega arith in
      rw (e, and_assoc d (eqb b 46) (dots c)) (swap (sized_name (n + length (b ∷ c)) (d && dots (b ∷ c))) (allowed b) (every allowed c))

  held_byte : (b : ℕ) → (allowed b && held (n + 1) (d && eqb b 46) k (c ∷ cs)) ≡ held n d k ((b ∷ c) ∷ cs)
  held_byte b =
      let l : Bool = leb (k + length (c ∷ cs)) 32 in
      let g : Bool = begun (n + 1) (d && eqb b 46) c in
      rw (more b, and_assoc (allowed b) g (every component cs)) (swap (allowed b) l (g && every component cs))

-- there is always a first component
data Parts (p : Path) : Type 0 where
  parts : (c : Bytes) (cs : List Bytes) → components p ≡ c ∷ cs → Parts p

parts_of : (p : Path) → Parts p
parts_of [] = parts [] [] refl
parts_of (b ∷ p) =
    elim (parts_of p) [ parts c cs e ↦ elim (test (eqb b 47)) [ yea w ↦ parts [] (components p) (cc) | nay w ↦ parts (b ∷ c) cs (cc) ] ]

scanned : (s : Bytes) (n : ℕ) (d : Bool) (k : ℕ) → scan n d k s ≡ held n d k (components s)
scanned [] n d k = held_end n d k
scanned (b ∷ s) n d k =
    let slash = scanned s 0 true (k + 1) in
    let byte = scanned s (n + 1) (d && eqb b 46) k in
    elim (parts_of s) [
      | parts c cs e ↦ elim (test (eqb b 47)) [
        | yea w ↦ rw (w, slash, e) (held_slash n d k c cs)
        | nay w ↦ rw (w, byte, e) (held_byte n d k c cs b)
      ]
    ]

-- the pass from the start says what the definition says
pub whole : (p : Path) → scan 0 true 0 p ≡ (leb (length (components p)) 32 && every component (components p))
whole p = elim (parts_of p) [ parts c cs e ↦ scanned p 0 true 0 ∙ rw (e, fresh c, zero-add) ]
