-- Two writes from the buffer's start on, one behind the other: what stands there afterwards.
use mathlib.Core.Path.{◌≡◌, ap, ◌∙◌}
use mathlib.Core.List.{◌++◌}
use Prim.Native.Nat.{ℕ, ◌+◌, ◌-◌, ◌≤◌}
use native.Mathlib.Omega.{arith}
use lib.ListN.{length, take, drop, length-append, length-drop}
use lib.Seq.{take_all}
use Rattle.model.specs.Bytes.{Bytes}
use Rattle.base_fields.specs.Write.{overwritten}
use Rattle.base_fields.proofs.Writes.{length_overwritten, overwritten_twice, take_overwritten}

module _ (t a b u : Bytes) (h : length a + length b ≤ length t) (e : u ≡ overwritten t 0 a) where
  pub room : length a + length b ≤ length u
  room = let l : length u ≡ length t = ap length e ∙ length_overwritten t 0 a (omega arith) in omega arith

  module _ (v : Bytes) (f : v ≡ overwritten u (length a) b) where
    both : v ≡ overwritten t 0 (a ++ b)
    both =
        let z : length a ≡ 0 + length a = omega arith in
        f
        ∙ ap (λ (x : Bytes). overwritten x (length a) b) e
        ∙ ap (λ (k : ℕ). overwritten (overwritten t 0 a) k b) z
        ∙ overwritten_twice t 0 a (omega arith) b

    pub size : length v ≡ length t
    size = let l = length-append a b in ap length both ∙ length_overwritten t 0 (a ++ b) (omega arith)

    pub front : take (length a + length b) v ≡ a ++ b
    front =
        let l = length-append a b in
        let z : length a + length b ≡ 0 + length (a ++ b) = omega arith in
        ap (λ (k : ℕ). take k v) z
        ∙ ap (take (0 + length (a ++ b))) both
        ∙ take_overwritten t 0 (a ++ b) (omega arith)

-- the tail that is lent is all that stands behind the first `from` bytes
module _ (d p : Bytes) (from : ℕ) where
  abbrev tail : Bytes
  tail = take (length p - from) (drop from p)

  all : tail ≡ drop from p
  all = let l = length-drop from p in take_all (length p - from) (drop from p) (omega arith)

  length_tail : length tail ≡ length p - from
  length_tail = ap length all ∙ length-drop from p

  pub moved_length : length d + length tail ≡ length d + (length p - from)
  moved_length = ap (λ (k : ℕ). length d + k) length_tail

  pub moved_room : length d + (length p - from) ≤ 512 → length d + length tail ≤ 512
  moved_room h = let l = moved_length in omega arith

  pub moved_front : (v : Bytes) → take (length d + length tail) v ≡ d ++ tail → take (length d + length tail) v ≡ d ++ drop from p
  moved_front v f = f ∙ ap (λ (x : Bytes). d ++ x) all
