-- The prefixes of a path by where they end: where the ends climb, the prefixes ascend, and none is empty.
use mathlib.Core.Path.{◌≡◌, refl, sym}
use mathlib.Core.List.{List, [], ◌∷◌}
use mathlib.Core.Bool.{true, ◌&&◌}
use Prim.Native.Nat.{ℕ, zero, suc, ◌+◌, ◌<◌, ◌≤◌}
use native.Mathlib.Omega.{arith}
use native.Mathlib.Numerals.{add-one}
use lib.Dec.{leb, ltb}
use lib.ListN.{length, get_or, take, drop}
use lib.Seq.{drop-cons, length-take-le}
use borrow.Author.Tests.{leb-true, ltb-true}
use Rattle.model.specs.Path.{Path}
use Rattle.model.specs.Map.{ascends, each}
use Rattle.model.proofs.Orders.{and_true, fronts_ascend}
use Rattle.base_fields.proofs.Common.{Lt_before}
use Rattle.base_paths.specs.Dirs.{climbs, prefixes}

pub climb_ascends : {A : Type 0} (v : A) (p : Path) (a : ℕ) (es : List ℕ) → climbs a (length p) es ≡ true → ascends (take a p) (each v (prefixes p es)) ≡ true
climb_ascends v p a [] h = refl
climb_ascends v p a (e ∷ es) h =
    let x = and_true (ltb a e) (leb e (length p) && climbs e (length p) es) h in
    let y = and_true (leb e (length p)) (climbs e (length p) es) x.1 in
    let b = Lt_before (take a p) (take e p) (fronts_ascend p a e (ltb-true a e x.0) (leb-true e (length p) y.0)) in
    rw b (climb_ascends v p e es y.1)

climb_end : (a n : ℕ) (es : List ℕ) (i : ℕ) → climbs a n es ≡ true → i < length es → get_or es i 0 ≤ n
climb_end a n [] i h g = absurd (omega arith)
climb_end a n (e ∷ es) zero h g =
    let x = and_true (ltb a e) (leb e n && climbs e n es) h in
    leb-true e n (and_true (leb e n) (climbs e n es) x.1).0
climb_end a n (e ∷ es) (suc i) h g =
    let x = and_true (ltb a e) (leb e n && climbs e n es) h in
    climb_end e n es i (and_true (leb e n) (climbs e n es) x.1).1 (omega arith)

-- the end number i, at which a key is cut
pub ends_on : (es : List ℕ) (i : ℕ) → i < length es → drop i es ≡ get_or es i 0 ∷ drop (i + 1) es
ends_on es i h = rw (add-one i) (drop-cons es i 0 h)

pub key_length : (p : Path) (es : List ℕ) (i : ℕ) → climbs 0 (length p) es ≡ true → i < length es → get_or es i 0 ≡ length (take (get_or es i 0) p)
key_length p es i h g = sym (length-take-le (get_or es i 0) p (climb_end 0 (length p) es i h g))
