-- A table written anew into a work buffer, in one pass over the old one.
use Rattle.std.specs.Prelude.{◌≡◌, ◌++◌, ℕ, ◌+◌, length, take}
use Rattle.model.specs.Bytes.{Bytes, bytes}
use Rattle.model.specs.Path.{Path}
use Rattle.model.specs.Tree.{Table}
use Rattle.model.specs.Table.{type_of, mtime_of, size_of, body_of, encode, entry_of, entries_at}
use Rattle.base_fields.specs.Write.{overwritten}
use Rattle.table_entries.specs.Place.{Standing, end_of}
use Rattle.table_entries.specs.Cut.{up_to, behind}
use Rattle.table_measure.specs.Measure.{Passed}

-- what stands before the body of n bytes
abbrev pub head_bytes : Path → ℕ → ℕ → ℕ → ℕ → Bytes
head_bytes k kind m z n = bytes 2 (length k) ++ (bytes 2 kind ++ (bytes 4 n ++ (bytes 8 m ++ (bytes 8 z ++ k))))

-- these are the fields and the body of an entry
pub record Written (kind mtime size : ℕ) (body : Bytes) : Type 0 where
  pub type : type_of (entry_of kind mtime size body) ≡ kind
  pub time : mtime_of (entry_of kind mtime size body) ≡ mtime
  pub long : size_of (entry_of kind mtime size body) ≡ size
  pub content : body_of (entry_of kind mtime size body) ≡ body

-- of the table t, what is passed stands in the first `out` bytes of the work buffer w, and what is ahead in the old
-- table's bytes s from `at` on
pub record Merged (s w : Bytes) (t : Table) (k : Path) (left at out : ℕ) : Type 0 where
  pub passed : Passed s t k left at
  pub front : take out w ≡ encode passed.done
  pub size : out ≡ length (encode passed.done)

-- what stands from `at` on up to the key k is copied to w from `out` on, which gives w'; the old table goes on behind
-- k
pub record Copied (s w w' : Bytes) (k : Path) (left at out left' at' out' : ℕ) : Type 0 where
  pub stand : Standing s left' at'
  pub are : entries_at s left' at' ≡ behind k (entries_at s left at)
  pub copied : w' ≡ overwritten w out (encode (up_to k (entries_at s left at)))
  pub size : out' ≡ out + length (encode (up_to k (entries_at s left at)))
  pub end : end_of s left' at' ≡ end_of s left at
