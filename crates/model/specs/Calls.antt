-- The calls of document 01 and #103 on a table and a tree: the checks in their order from 3 to 12, 17 and 18, the table
-- after an accepted call, and the queries.
use Rattle.std.specs.Prelude.{Bool, true, false, cond, [], ℕ, length}
use Rattle.model.specs.Bytes.{Bytes}
use Rattle.model.specs.Path.{Path}
use Rattle.model.specs.Map.{put, puts, each}
use Rattle.model.specs.Tree.{own, directory, deleted, Table, Tree, shown, Kind, nothing, a_directory, a_file, a_link}
use Rattle.model.specs.Tree.{kind}
use Rattle.model.specs.Checks.{Check, ◌then◌, form, write_checks, mkdir_at, mkdir_parents, makes, unlink_checks}
use Rattle.model.specs.Checks.{rmdir_checks, Memory, charged}
use Rattle.model.specs.Rename.{moved, onto_itself, rename_checks}
use Rattle.model.specs.Content.{content_of, appended, spliced, append_checks, append_memory, inside_checks}

pub data Call : Type 0 where
  write : (p : Path) (mtime : ℕ) (content : Bytes) → Call
  append : (p : Path) (mtime : ℕ) (added lent : Bytes) → Call
  write_inside : (p : Path) (mtime offset : ℕ) (added : Bytes) → Call
  mkdir : (p : Path) (parents existOk : Bool) (mtime : ℕ) → Call
  unlink : (p : Path) → Call
  rmdir : (p : Path) → Call
  rename : (source destination : Path) → Call

-- the table after the call, if it is accepted. #104: onto itself, "leave table and record as they are"
abbrev pub changed : Table → Tree → Call → Table
changed t l (write p m c) = put p (own m c) t
changed t l (append p m d b) = put p (own m (appended (shown t l p) d b)) t
changed t l (write_inside p m o d) = put p (own m (spliced o d (content_of (shown t l p) []))) t
changed t l (mkdir p up ok m) = puts (each (directory m) (makes (shown t l) p)) t
changed t l (unlink p) = put p deleted t
changed t l (rmdir p) = put p deleted t
changed t l (rename a b) = cond (onto_itself (shown t l) a b) t (moved t l a b)

-- 3: "source before destination"
abbrev pub forms : Call → Check
forms (write p m c) = form 0 p
forms (append p m d b) = form 0 p
forms (write_inside p m o d) = form 0 p
forms (mkdir p up ok m) = form 0 p
forms (unlink p) = form 0 p
forms (rmdir p) = form 0 p
forms (rename a b) = form 0 a then form 1 b

-- 4 to 12, 17 and 18
abbrev pub rules : Memory → Table → Tree → Call → Check
rules memory t l (write p m c) = write_checks (shown t l) p then charged memory (changed t l (write p m c))
rules memory t l (append p m d b) =
    append_checks (shown t l) p b
    then append_memory memory t (shown t l p) (length (appended (shown t l p) d b))
    then charged memory (changed t l (append p m d b))
rules memory t l (write_inside p m o d) =
    inside_checks (shown t l) p o d then charged memory (changed t l (write_inside p m o d))
rules memory t l (mkdir p up ok m) =
    mkdir_at (length p) ok (kind (shown t l) p)
    (mkdir_parents (shown t l) p up then charged memory (changed t l (mkdir p up ok m)))
rules memory t l (unlink p) = unlink_checks t l p then charged memory (changed t l (unlink p))
rules memory t l (rmdir p) = rmdir_checks t l p then charged memory (changed t l (rmdir p))
rules memory t l (rename a b) = rename_checks memory t l a b

-- "An accepted write answers the data's length, the other changing calls nothing."; #103: "both answer the data's
-- length"
abbrev pub value_of : Call → ℕ
value_of (write p m c) = length c
value_of (append p m d b) = length d
value_of (write_inside p m o d) = length d
value_of (mkdir p up ok m) = 0
value_of (unlink p) = 0
value_of (rmdir p) = 0
value_of (rename a b) = 0

pub data Query : Type 0 where
  exists is_file is_dir : Query

-- "exists, is_file and is_dir say no to [a link]"
abbrev pub says : Query → Kind → Bool
says exists nothing = false
says exists a_directory = true
says exists a_file = true
says exists a_link = false
says is_file nothing = false
says is_file a_directory = false
says is_file a_file = true
says is_file a_link = false
says is_dir nothing = false
says is_dir a_directory = true
says is_dir a_file = false
says is_dir a_link = false
