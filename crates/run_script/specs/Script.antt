-- A script: a list of changing calls, each with its limit, as bytes. Which bytes are one, and the calls that stand in
-- it. A script has one of two marks: TSC1, for document 01's calls, or TSC2, for all; `two` says that it is TSC2.
use Rattle.std.specs.Prelude.{Bool, true, false, cond, ◌&&◌, ◌||◌, List, [], ◌∷◌, ℕ, zero, suc, ◌+◌, ◌/◌, ◌%◌}
use Rattle.std.specs.Prelude.{ltb, leb, eqb, length, take, drop, get_or}
use Rattle.model.specs.Bytes.{Bytes, number_at, same}
use Rattle.model.specs.Calls.{Call}
use Rattle.call_values.specs.declared.Kind.{Kind}
use Rattle.call_values.specs.declared.Kind.TheVariants.{Write, Append, WriteInside, Mkdir, Unlink, Rmdir, Rename}
use Rattle.call_values.specs.declared.Order.{Order}
use Rattle.call_values.specs.Values.{call_of}

-- a call with its limit
pub record Step : Type 0 where
  pub call : Call
  pub limit : ℕ

-- the marks
abbrev pub mark_of : Bool → Bytes
mark_of false = 84 ∷ 83 ∷ 67 ∷ 49 ∷ []
mark_of true = 84 ∷ 83 ∷ 67 ∷ 50 ∷ []

unfoldable pub is_two : Bytes → Bool
is_two s = same (take 4 s) (mark_of true)

-- A step: kind (8 bits), flags (8 bits), length of the first part (16 bits), length of the second part (32 bits), mtime
-- bits (64), limit (64); in TSC2 then the offset (64) and the length of the third part (32); then the parts.
abbrev pub kind_at : Bytes → ℕ → ℕ
kind_at s at = get_or s at 0

abbrev pub flags_at : Bytes → ℕ → ℕ
flags_at s at = get_or s (at + 1) 0

abbrev pub first_length : Bytes → ℕ → ℕ
first_length s at = number_at s (at + 2) 2

abbrev pub second_length : Bytes → ℕ → ℕ
second_length s at = number_at s (at + 4) 4

abbrev pub mtime_at : Bytes → ℕ → ℕ
mtime_at s at = number_at s (at + 8) 8

abbrev pub limit_at : Bytes → ℕ → ℕ
limit_at s at = number_at s (at + 16) 8

abbrev pub offset_at : Bool → Bytes → ℕ → ℕ
offset_at false s at = 0
offset_at true s at = number_at s (at + 24) 8

abbrev pub third_length : Bool → Bytes → ℕ → ℕ
third_length false s at = 0
third_length true s at = number_at s (at + 32) 4

-- the bytes of a step before its parts
abbrev pub step_head : Bool → ℕ
step_head false = 24
step_head true = 36

-- where the second part begins, where the third does, and where the step ends
abbrev pub second_from : Bool → Bytes → ℕ → ℕ
second_from two s at = at + step_head two + first_length s at

abbrev pub third_from : Bool → Bytes → ℕ → ℕ
third_from two s at = second_from two s at + second_length s at

abbrev pub step_end : Bool → Bytes → ℕ → ℕ
step_end two s at = third_from two s at + third_length two s at

-- the path, a rename's source; the data, a rename's destination; what an append is lent
abbrev pub first_part : Bool → Bytes → ℕ → Bytes
first_part two s at = take (first_length s at) (drop (at + step_head two) s)

abbrev pub second_part : Bool → Bytes → ℕ → Bytes
second_part two s at = take (second_length s at) (drop (second_from two s at) s)

abbrev pub third_part : Bool → Bytes → ℕ → Bytes
third_part two s at = take (third_length two s at) (drop (third_from two s at) s)

-- 1 write, 2 mkdir, 3 unlink, 4 rmdir, 5 rename, 6 append, 7 writing inside
abbrev pub step_kind : ℕ → Kind
step_kind k =
    cond (eqb k 1) Write (cond (eqb k 2) Mkdir (cond (eqb k 3) Unlink (cond (eqb k 4) Rmdir
    (cond (eqb k 5) Rename (cond (eqb k 6) Append WriteInside)))))

-- bit 0 of the flags is parents, bit 1 exist_ok
abbrev pub order_at : Bool → Bytes → ℕ → Order
order_at two s at = record {
  kind = step_kind (kind_at s at);
  parents = eqb (flags_at s at % 2) 1;
  exist_ok = eqb (flags_at s at / 2) 1;
  mtime = mtime_at s at;
  limit = limit_at s at;
  offset = offset_at two s at;
}

abbrev pub step_at : Bool → Bytes → ℕ → Step
step_at two s at = record {
  call = call_of (order_at two s at) (first_part two s at) (second_part two s at) (third_part two s at);
  limit = limit_at s at;
}

-- the n steps from `at` on
abbrev pub steps_from : Bool → Bytes → ℕ → ℕ → List Step
steps_from two s zero at = []
steps_from two s (suc n) at = step_at two s at ∷ steps_from two s n (step_end two s at)

-- the mark, a 32-bit count, then the steps
abbrev pub step_count : Bytes → ℕ
step_count s = number_at s 4 4

abbrev pub steps_in : Bytes → List Step
steps_in s = steps_from (is_two s) s (step_count s) 8

-- write, append and writing inside: they have data
abbrev pub has_data : ℕ → Bool
has_data k = eqb k 1 || (eqb k 6 || eqb k 7)

-- a kind k from 1 to 5, in TSC2 to 7; flags f only in mkdir; a second part, of m bytes, only where there is data, and
-- in rename; mtime bits t only where there is data, and in mkdir; an offset o only in writing inside; a third part, of
-- n bytes, only in append
unfoldable pub ruled : Bool → ℕ → ℕ → ℕ → ℕ → ℕ → ℕ → Bool
ruled two k f m t o n =
    (ltb 0 k && (ltb k 6 || (two && ltb k 8)))
    && ((eqb f 0 || (eqb k 2 && ltb f 4))
    && ((eqb m 0 || (has_data k || eqb k 5))
    && ((eqb t 0 || (has_data k || eqb k 2))
    && ((eqb o 0 || eqb k 7)
    && (eqb n 0 || eqb k 6)))))

-- the step that starts at `at` ends within s
unfoldable pub fits : Bool → Bytes → ℕ → Bool
fits two s at = leb (at + step_head two) (length s) && leb (step_end two s at) (length s)

-- its numbers go together
unfoldable pub headed : Bool → Bytes → ℕ → Bool
headed two s at =
    ruled two (kind_at s at) (flags_at s at) (second_length s at) (mtime_at s at) (offset_at two s at)
    (third_length two s at)

-- n steps from `at` on, up to the end
abbrev pub filled : Bool → Bytes → ℕ → ℕ → Bool
filled two s zero at = eqb at (length s)
filled two s (suc n) at = (fits two s at && headed two s at) && filled two s n (step_end two s at)

-- the mark is TSC1 or TSC2
unfoldable pub marked : Bytes → Bool
marked s = leb 8 (length s) && (same (take 4 s) (mark_of false) || is_two s)

abbrev pub is_script : Bytes → Bool
is_script s = marked s && filled (is_two s) s (step_count s) 8
