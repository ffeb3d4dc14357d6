-- What a call needs of the limit: 11 is given exactly where the limit is below it (proofs/Needs.antt, `need_least`).
-- It is 0 where no limit is asked for: at a call that is refused before, and at one that changes nothing.
use Rattle.std.specs.Prelude.{cond, ℕ, ◌+◌, ◌*◌, max, ltb, length}
use Rattle.std.proofs.Math.Option.{Option, none}
use Rattle.model.specs.Path.{Path}
use Rattle.model.specs.Map.{lookup, rekey}
use Rattle.model.specs.Tree.{Node, Table, Tree, shown, kind, is_nothing, is_directory}
use Rattle.model.specs.Table.{charge}
use Rattle.model.specs.Checks.{Check, pass, refuse, ◌then◌, write_checks, mkdir_parents, unlink_checks, rmdir_checks}
use Rattle.model.specs.Checks.{limited, unlimited}
use Rattle.model.specs.Rename.{Walk, sum, over_budget, stopped, walk_from, planned, moved, carried, keys_fit}
use Rattle.model.specs.Rename.{directory_memory, rename_paths, rename_types, onto_itself}
use Rattle.model.specs.Content.{is_own, appended, append_checks, inside_checks}
use Rattle.model.specs.Calls.{Call, write, append, write_inside, mkdir, unlink, rmdir, rename, changed, rules}

-- nothing is needed behind a check that refuses
abbrev pub behind : Check → ℕ → ℕ
behind pass n = n
behind (refuse k w j) n = 0

-- "the charge after the call exceeds the limit"
abbrev pub charge_after : ℕ → Table → Tree → Call → ℕ
charge_after E t l c = charge E (changed t l c)

-- #103, append: unless the file is an own one, its whole new content of n bytes beside the charge as it is
abbrev pub content_need : ℕ → Table → Option Node → ℕ → ℕ
content_need E t o n = cond (is_own o) 0 (charge E t + n)

-- "above the budget after an addition is 11": of a walk from `start` on the start alone is never compared
abbrev pub walk_need : ℕ → Walk → ℕ
walk_need start (sum n) = cond (ltb start n) n 0
walk_need start over_budget = 0
walk_need start (stopped x n) = cond (ltb start n) n 0

-- the walk is through the listing, so where the source is a directory there
abbrev pub listed_need : Table → Tree → Path → ℕ
listed_need t l a = cond (is_directory (kind (lookup l) a)) (walk_need (2 * length a + 1) (walk_from t l none a)) 0

-- "for a directory the plan and the walk": both beside the charge as it is
abbrev pub directory_need : ℕ → Table → Tree → Path → Path → ℕ
directory_need E t l a b =
    cond (is_directory (kind (shown t l) a)) (charge E t + planned a b t + listed_need t l a) 0

-- "for a directory the plan and the walk; 11": a walk that stops refuses before 11
abbrev pub move_need : ℕ → Table → Tree → Path → Path → ℕ
move_need E t l a b =
    max (directory_need E t l a b) (behind (directory_memory unlimited t l a b) (charge E (moved t l a b)))

-- what each call needs
abbrev pub need : ℕ → Table → Tree → Call → ℕ
need E t l (write p m c) = behind (write_checks (shown t l) p) (charge_after E t l (write p m c))
need E t l (append p m d b) =
    behind (append_checks (shown t l) p b)
    (max (content_need E t (shown t l p) (length (appended (shown t l p) d b))) (charge_after E t l (append p m d b)))
need E t l (write_inside p m o d) =
    behind (inside_checks (shown t l) p o d) (charge_after E t l (write_inside p m o d))
need E t l (mkdir p up ok m) =
    cond (is_nothing (kind (shown t l) p))
    (behind (mkdir_parents (shown t l) p up) (charge_after E t l (mkdir p up ok m))) 0
need E t l (unlink p) = behind (unlink_checks t l p) (charge_after E t l (unlink p))
need E t l (rmdir p) = behind (rmdir_checks t l p) (charge_after E t l (rmdir p))
need E t l (rename a b) =
    behind (rename_paths t l a b)
    (cond (onto_itself (shown t l) a b) 0 (behind (rename_types t l a b) (move_need E t l a b)))

-- 12, which the plain tree's rules leave out: "a moved key above 512 bytes or 32 components"
abbrev pub key_checks : Table → Tree → Call → Check
key_checks t l (write p m c) = pass
key_checks t l (append p m d b) = pass
key_checks t l (write_inside p m o d) = pass
key_checks t l (mkdir p up ok m) = pass
key_checks t l (unlink p) = pass
key_checks t l (rmdir p) = pass
key_checks t l (rename a b) =
    cond (onto_itself (shown t l) a b) pass (keys_fit (limited 0 0) (rekey a b (carried t l a)))

-- 4 to 10, 12, 17 and 18: what the rules give where the limit does not matter
abbrev pub other_rules : Table → Tree → Call → Check
other_rules t l c = rules unlimited t l c then key_checks t l c
