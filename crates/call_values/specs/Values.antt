-- The call that an order and its three byte strings are, and the row of document 01's table that an answer is.
use Rattle.std.specs.Prelude.{◌≡◌, ◌<◌, ◌⊎◌, ℕ, Result, MatchResult}
use Rattle.model.specs.Bytes.{Bytes}
use Rattle.model.specs.Path.{Path}
use Rattle.model.specs.Calls as calls
use Rattle.model.specs.Answer.{Reply, accepted, refused}
use Rattle.call_values.specs.declared.Kind.{Kind}
use Rattle.call_values.specs.declared.Kind.TheVariants.{Write, Append, WriteInside, Mkdir, Unlink, Rmdir, Rename}
use Rattle.call_values.specs.declared.UnknownKind.{UnknownKind}
use Rattle.call_values.specs.declared.Order.{Order}
use Rattle.call_values.specs.declared.Row.{Row}

-- the number of a kind
abbrev pub number_of : Kind → ℕ
number_of Write = 1
number_of Mkdir = 2
number_of Unlink = 3
number_of Rmdir = 4
number_of Rename = 5
number_of Append = 6
number_of WriteInside = 7

-- r is the kind with the number n; or there is none, and n is not from 1 to 7
abbrev pub OfNumber : ℕ → Result Kind UnknownKind → Type 0
OfNumber n r = MatchResult r (λ kind. number_of kind ≡ n) (λ e. (e.0 ≡ n) × ((n ≡ 0) ⊎ (7 < n)))

-- p is the path, a rename's source; d is the data of a write, an append and a writing inside, and a rename's
-- destination; b is what an append is lent
abbrev pub call_by : Kind → Order → Path → Bytes → Bytes → calls.Call
call_by Write o p d b = calls.write p o.mtime d
call_by Append o p d b = calls.append p o.mtime d b
call_by WriteInside o p d b = calls.write_inside p o.mtime o.offset d
call_by Mkdir o p d b = calls.mkdir p o.parents o.exist_ok o.mtime
call_by Unlink o p d b = calls.unlink p
call_by Rmdir o p d b = calls.rmdir p
call_by Rename o p d b = calls.rename p d

abbrev pub call_of : Order → Path → Bytes → Bytes → calls.Call
call_of o p d b = call_by o.kind o p d b

-- accepted: 0, 0 and the value; refused: number, path and length
abbrev pub row_of : Reply → Row
row_of (accepted v) = record { number = 0; path = 0; len = v }
row_of (refused n w k) = record { number = n; path = w; len = k }
