-- A table that is to be written anew with one entry in it: what is judged.
use Rattle.std.specs.Prelude.{Bool, true, false, Result, Ok, Err}
use Rattle.std.proofs.Math.Option.{Option, none, some}
use Rattle.model.specs.Tree.{Entry, own, reference, directory, deleted}
use Rattle.table_insert.specs.Insert.{Inserted}
use Rattle.table_insert.specs.declared.InsertError.{InsertError}
use Rattle.table_splice.specs.declared.Begun.{Begun}

-- an own file's entry
abbrev pub is_own_file : Option Entry → Bool
is_own_file none = false
is_own_file (some (own m c)) = true
is_own_file (some (reference m z p)) = false
is_own_file (some (directory m)) = false
is_own_file (some deleted) = false

-- what inserting will answer, by what was begun
abbrev pub answer_of : Result Begun InsertError → Inserted
answer_of (Ok x) = Ok x.after
answer_of (Err e) = Err e
