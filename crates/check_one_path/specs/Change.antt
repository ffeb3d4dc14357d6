-- The calls that change one entry, by what their checks ask of a path.
use Rattle.std.proofs.Math.Option.{Option, none, some}
use Rattle.std.specs.Prelude.{ℕ, length}
use Rattle.model.specs.Path.{Path}
use Rattle.model.specs.Map.{lookup}
use Rattle.model.specs.Tree.{Entry, view, Table, Tree, View, shown, Kind, kind_of, kind}
use Rattle.model.specs.Checks.{Check, ◌then◌, parent_checks, write_at, write_checks, unlink_at, unlink_checks}
use Rattle.model.specs.Checks.{directory_at}
use Rattle.model.specs.Checks.{rmdir_checks}
use Rattle.check_one_path.specs.declared.Change.{Change}
use Rattle.check_one_path.specs.declared.Change.TheVariants.{Write, Unlink, Rmdir}

-- by the kind that the path of n bytes shows
abbrev pub target_at : Change → ℕ → Kind → Check
target_at Write n k = write_at n k
target_at Unlink n k = unlink_at n k
target_at Rmdir n k = directory_at n k

-- the parents, then what is visible at the path
abbrev pub visible_checks : Change → View → Path → Check
visible_checks x f p = parent_checks 0 f p then target_at x (length p) (kind f p)

-- an entry is asked for the kind that it shows, and without one `otherwise` decides
abbrev pub entry_or : Change → ℕ → Option Entry → Check → Check
entry_or x n none otherwise = otherwise
entry_or x n (some e) otherwise = target_at x n (kind_of (view e))

abbrev pub entry_checks : Change → Table → Tree → Path → Check
entry_checks x t l p = entry_or x (length p) (lookup t p) (visible_checks x (shown t l) p)

-- 4 to 10
abbrev pub change_checks : Change → Table → Tree → Path → Check
change_checks Write t l p = write_checks (shown t l) p
change_checks Unlink t l p = unlink_checks t l p
change_checks Rmdir t l p = rmdir_checks t l p
