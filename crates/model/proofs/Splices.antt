-- #103, writing inside, byte by byte: how long the new content is, that the data stand at the offset, and that every other
-- byte is as it was, or 0 where there was none. And that writing at the content's end is appending.
use mathlib.Core.Path.{◌≡◌, refl, ap, ap₂, sym, ◌∙◌}
use mathlib.Core.List.{[], ◌∷◌, ◌++◌, append-nil}
use Prim.Native.Nat.{ℕ, zero, suc, ◌+◌, ◌-◌, ◌<◌, ◌≤◌}
use native.Mathlib.Omega.{arith}
use lib.ListN.{length, take, drop, replicate, get_or, length-append, length-drop, length-replicate, drop_of_length-le, get_or-append}
use lib.Seq.{take-append_seam, length-take-le, get_or-append-add, get_or-take, get_or-drop}
use Rattle.model.specs.Bytes.{Bytes}
use Rattle.model.specs.Table.{padded}
use Rattle.model.specs.Content.{spliced}

padded_length : (o : ℕ) (c : Bytes) → length (padded o c) ≡ length c + (o - length c)
padded_length o c = length-append c (replicate (o - length c) 0) ∙ ap (λ (n : ℕ). length c + n) (length-replicate {A = ℕ} (o - length c) 0)

-- what stands before the offset is as long as it says
pub front_length : (o : ℕ) (c : Bytes) → length (take o (padded o c)) ≡ o
front_length o c = let l = padded_length o c in length-take-le o (padded o c) (omega arith)

-- the larger of the content's length and of where the data end
pub spliced_length : (o : ℕ) (d c : Bytes) → length (spliced o d c) ≡ o + length d + (length c - (o + length d))
spliced_length o d c =
    let f = front_length o c in
    let a = length-append (take o (padded o c)) (d ++ drop (o + length d) c) in
    let b = length-append d (drop (o + length d) c) in
    let e = length-drop (o + length d) c in
    omega arith

-- "append" is writing at the content's end
pub spliced_end : (d c : Bytes) → spliced (length c) d c ≡ c ++ d
spliced_end d c =
    let over : length c ≤ length c + length d = omega arith in
    ap₂ (λ (x y : Bytes). x ++ (d ++ y)) (take-append_seam c (replicate (length c - length c) 0)) (drop_of_length-le c over)
    ∙ ap (λ (x : Bytes). c ++ x) (append-nil d)

-- a byte before the offset is as it was, or 0 where there was none
zeros_behind : (c : Bytes) (n i : ℕ) → get_or (c ++ replicate n 0) i 0 ≡ get_or c i 0
zeros_behind [] zero i = refl
zeros_behind [] (suc n) zero = refl
zeros_behind [] (suc n) (suc i) = zeros_behind [] n i
zeros_behind (x ∷ c) n zero = refl
zeros_behind (x ∷ c) n (suc i) = zeros_behind c n i

pub spliced_before : (o : ℕ) (d c : Bytes) (i : ℕ) → i < o → get_or (spliced o d c) i 0 ≡ get_or c i 0
spliced_before o d c i h =
    let f = front_length o c in
    get_or-append (take o (padded o c)) (d ++ drop (o + length d) c) 0 i (omega arith)
    ∙ get_or-take o (padded o c) i 0 h
    ∙ zeros_behind c (o - length c) i

-- the data stand at the offset
front_passed : (o : ℕ) (d c : Bytes) (i : ℕ) → get_or (spliced o d c) (o + i) 0 ≡ get_or (d ++ drop (o + length d) c) i 0
front_passed o d c i =
    ap (λ (n : ℕ). get_or (spliced o d c) (n + i) 0) (sym (front_length o c))
    ∙ get_or-append-add (take o (padded o c)) (d ++ drop (o + length d) c) i 0

pub spliced_data : (o : ℕ) (d c : Bytes) (i : ℕ) → i < length d → get_or (spliced o d c) (o + i) 0 ≡ get_or d i 0
spliced_data o d c i h = front_passed o d c i ∙ get_or-append d (drop (o + length d) c) 0 i h

-- a byte behind the data is as it was
pub spliced_behind : (o : ℕ) (d c : Bytes) (i : ℕ) → get_or (spliced o d c) (o + length d + i) 0 ≡ get_or c (o + length d + i) 0
spliced_behind o d c i =
    let e : o + length d + i ≡ o + (length d + i) = omega arith in
    ap (λ (n : ℕ). get_or (spliced o d c) n 0) e
    ∙ front_passed o d c (length d + i)
    ∙ get_or-append-add d (drop (o + length d) c) i 0
    ∙ get_or-drop (o + length d) c i 0
