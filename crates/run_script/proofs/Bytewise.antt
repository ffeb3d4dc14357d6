-- A script is made of bytes where the paths and the data of its calls are: so it can be lent.
use mathlib.Core.Bool.{Bool, true, false}
use mathlib.Core.List.{List, [], ◌∷◌, ◌++◌}
use Prim.Native.Nat.{ℕ, zero, suc, ◌/◌, ◌<◌}
use native.Mathlib.Omega.{arith}
use lib.ListN.{length}
use Rattle.model.specs.Bytes.{Bytes, bytes}
use Rattle.model.specs.Calls.{Call, write, append, write_inside, mkdir, unlink, rmdir, rename}
use Rattle.model.proofs.Words.{IsBytes}
use Rattle.run_script.specs.Script.{Step, mark_of}
use Rattle.run_script.specs.Encoded.{StepFields, fields_of, laid_more, laid, step_bytes, steps_bytes, script_of}

bytes_append : (s t : Bytes) → IsBytes s → IsBytes t → IsBytes (s ++ t)
bytes_append [] t a b = b
bytes_append (x ∷ s) t a b = (a.0, bytes_append s t a.1 b)

-- a number, and bytes behind it
numbered : (n v : ℕ) (t : Bytes) → IsBytes t → IsBytes (bytes n v ++ t)
numbered zero v t h = h
numbered (suc n) v t h = (omega arith, numbered n (v / 256) t h)

small : (c : Call) → ((fields_of c).kind < 256) × ((fields_of c).flags < 256)
small (write p m d) = (omega arith, omega arith)
small (append p m d b) = (omega arith, omega arith)
small (write_inside p m o d) = (omega arith, omega arith)
small (mkdir p true true m) = (omega arith, omega arith)
small (mkdir p true false m) = (omega arith, omega arith)
small (mkdir p false true m) = (omega arith, omega arith)
small (mkdir p false false m) = (omega arith, omega arith)
small (unlink p) = (omega arith, omega arith)
small (rmdir p) = (omega arith, omega arith)
small (rename a b) = (omega arith, omega arith)

more_bytes : (two : Bool) (o n : ℕ) → IsBytes (laid_more two o n)
more_bytes false o n = tt
more_bytes true o n = numbered 8 o (bytes 4 n) (numbered 4 n [] tt)

laid_bytes : (two : Bool) (f : StepFields) (limit : ℕ) → f.kind < 256 → f.flags < 256
    → IsBytes f.first → IsBytes f.second → IsBytes f.third → IsBytes (laid two f limit)
unfolding laid
laid_bytes two f limit k g a b c =
    let parts : Bytes = f.first ++ (f.second ++ f.third) in
    let more : Bytes = laid_more two f.offset (length f.third) in
    let from_limit : Bytes = bytes 8 limit ++ (more ++ parts) in
    let from_mtime : Bytes = bytes 8 f.mtime ++ from_limit in
    let from_second : Bytes = bytes 4 (length f.second) ++ from_mtime in
    let p = bytes_append f.first (f.second ++ f.third) a (bytes_append f.second f.third b c) in
    let e = bytes_append more parts (more_bytes two f.offset (length f.third)) p in
    let m = numbered 8 f.mtime from_limit (numbered 8 limit (more ++ parts) e) in
    (k, (g, numbered 2 (length f.first) from_second (numbered 4 (length f.second) from_mtime m)))

-- the parts of each step are bytes
abbrev pub InBytes : List Step → Type 0
InBytes [] = Unit {0}
InBytes (x ∷ xs) =
    IsBytes (fields_of x.call).first × IsBytes (fields_of x.call).second × IsBytes (fields_of x.call).third × InBytes xs

steps_bytes_lem : (two : Bool) (xs : List Step) → InBytes xs → IsBytes (steps_bytes two xs)
steps_bytes_lem two [] h = tt
steps_bytes_lem two (x ∷ xs) h =
    let k = small x.call in
    let l = laid_bytes two (fields_of x.call) x.limit k.0 k.1 h.0 h.1 h.2 in
    bytes_append (step_bytes two x) (steps_bytes two xs) l (steps_bytes_lem two xs h.3)

mark_bytes : (two : Bool) → IsBytes (mark_of two)
mark_bytes false = (omega arith, (omega arith, (omega arith, (omega arith, tt))))
mark_bytes true = (omega arith, (omega arith, (omega arith, (omega arith, tt))))

pub script_bytes : (two : Bool) (xs : List Step) → InBytes xs → IsBytes (script_of two xs)
script_bytes two xs h =
    let s = numbered 4 (length xs) (steps_bytes two xs) (steps_bytes_lem two xs h) in
    bytes_append (mark_of two) (bytes 4 (length xs) ++ steps_bytes two xs) (mark_bytes two) s
