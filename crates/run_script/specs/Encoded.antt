-- The script that a list of calls, each with its limit, is written as; `steps_in` of Script.antt reads the list again.
-- And which steps can be written: those whose numbers fit their fields.
use Rattle.std.specs.Prelude.{Bool, true, false, cond, ◌&&◌, ◌||◌, List, [], ◌∷◌, ◌++◌, ℕ, ◌+◌, ltb, length}
use Rattle.model.specs.Bytes.{Bytes, bytes}
use Rattle.model.specs.Calls.{Call, write, append, write_inside, mkdir, unlink, rmdir, rename}
use Rattle.run_script.specs.Script.{Step, mark_of}

-- what a call puts into its step; the limit stands beside it
pub record StepFields : Type 0 where
  pub kind : ℕ
  pub flags : ℕ
  pub mtime : ℕ
  pub offset : ℕ
  pub first : Bytes
  pub second : Bytes
  pub third : Bytes

-- 0, or empty, where the call has none
abbrev pub fields_of : Call → StepFields
fields_of (write p m d) = record { kind = 1; flags = 0; mtime = m; offset = 0; first = p; second = d; third = [] }
fields_of (append p m d b) = record { kind = 6; flags = 0; mtime = m; offset = 0; first = p; second = d; third = b }
fields_of (write_inside p m o d) =
    record { kind = 7; flags = 0; mtime = m; offset = o; first = p; second = d; third = [] }
fields_of (mkdir p up ok m) =
    record { kind = 2; flags = cond up 1 0 + cond ok 2 0; mtime = m; offset = 0; first = p; second = []; third = [] }
fields_of (unlink p) = record { kind = 3; flags = 0; mtime = 0; offset = 0; first = p; second = []; third = [] }
fields_of (rmdir p) = record { kind = 4; flags = 0; mtime = 0; offset = 0; first = p; second = []; third = [] }
fields_of (rename a b) = record { kind = 5; flags = 0; mtime = 0; offset = 0; first = a; second = b; third = [] }

-- what the head of a step has only in TSC2: the offset o, and the length n of the third part
abbrev pub laid_more : Bool → ℕ → ℕ → Bytes
laid_more false o n = []
laid_more true o n = bytes 8 o ++ bytes 4 n

-- kind, flags, length of the first part, length of the second part, mtime bits, limit, what only TSC2 has, then the
-- parts
unfoldable pub laid : Bool → StepFields → ℕ → Bytes
laid two f limit =
    f.kind
    ∷ f.flags
    ∷ (bytes 2 (length f.first)
    ++ (bytes 4 (length f.second)
    ++ (bytes 8 f.mtime
    ++ (bytes 8 limit
    ++ (laid_more two f.offset (length f.third)
    ++ (f.first ++ (f.second ++ f.third)))))))

-- a step's bytes
abbrev pub step_bytes : Bool → Step → Bytes
step_bytes two x = laid two (fields_of x.call) x.limit

-- steps, one after another
abbrev pub steps_bytes : Bool → List Step → Bytes
steps_bytes two [] = []
steps_bytes two (x ∷ xs) = step_bytes two x ++ steps_bytes two xs

-- the mark, a 32-bit count, then the steps
abbrev pub script_of : Bool → List Step → Bytes
script_of two xs = mark_of two ++ (bytes 4 (length xs) ++ steps_bytes two xs)

-- the first part's length fits 16 bits, those of the others 32; mtime bits, offset and limit 64
unfoldable pub fitting_in : StepFields → ℕ → Bool
fitting_in f limit =
    (ltb (length f.first) 0x1_0000
    && (ltb (length f.second) 0x1_0000_0000 && ltb (length f.third) 0x1_0000_0000))
    && (ltb f.mtime 0x1_0000_0000_0000_0000
    && (ltb f.offset 0x1_0000_0000_0000_0000 && ltb limit 0x1_0000_0000_0000_0000))

-- a step's numbers fit their fields, and in TSC1 its call is one of document 01's: their kinds are 1 to 5
abbrev pub fitting : Bool → Step → Bool
fitting two x = (two || ltb (fields_of x.call).kind 6) && fitting_in (fields_of x.call) x.limit
