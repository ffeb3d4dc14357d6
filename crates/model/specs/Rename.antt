-- Document 01, "Order of checks": rename, with its plan and its walk, and the table that it leaves.
use Rattle.std.specs.Prelude.{Bool, true, false, cond, not, ◌&&◌, ◌||◌, List, [], ◌∷◌, ◌++◌, ℕ, zero, suc, ◌+◌}
use Rattle.std.specs.Prelude.{◌*◌, ◌-◌, max, leb, length, drop}
use Rattle.std.proofs.Math.Option.{Option, none, some}
use Rattle.model.specs.Bytes.{every, same, cons_if}
use Rattle.model.specs.Path.{Path, components, short, ancestors, below, child}
use Rattle.model.specs.Map.{is_none, lookup, puts, only, each, keys, rekey, mapped}
use Rattle.model.specs.Tree.{held, listed, Node, dir, file, link, Entry, own, reference, directory, deleted}
use Rattle.model.specs.Tree.{Table, Tree, View, shown, Kind, nothing, a_directory, a_file, a_link, kind_of, kind}
use Rattle.model.specs.Tree.{is_nothing, is_directory}
use Rattle.model.specs.Table.{charge}
use Rattle.model.specs.Checks.{Check, pass, refuse, ◌then◌, unless, parent_checks, not_root, no_visible_child, Memory}
use Rattle.model.specs.Checks.{limited, unlimited, charged}

-- "a link at the destination without an entry, 4"; "source … link 4"
abbrev pub not_link : ℕ → ℕ → Kind → Check
not_link w n nothing = pass
not_link w n a_directory = pass
not_link w n a_file = pass
not_link w n a_link = refuse 4 w n

-- "source deleted 5"
abbrev pub not_deleted : ℕ → Option Entry → Check
not_deleted n none = pass
not_deleted n (some (own m c)) = pass
not_deleted n (some (reference m z p)) = pass
not_deleted n (some (directory m)) = pass
not_deleted n (some deleted) = refuse 5 0 n

-- "type clash 8 or 7": the destination is a directory and the source is none, or the source is a directory and the
-- destination is a file
abbrev pub no_clash : ℕ → Kind → Kind → Check
no_clash n source nothing = pass
no_clash n source a_directory = cond (is_directory source) pass (refuse 8 1 n)
no_clash n source a_file = cond (is_directory source) (refuse 7 1 n) pass
no_clash n source a_link = pass

-- "source absent 5"
abbrev pub present : ℕ → Kind → Check
present n nothing = refuse 5 0 n
present n a_directory = pass
present n a_file = pass
present n a_link = pass

-- a check that is made of directories alone
abbrev pub if_directory : Kind → Check → Check
if_directory k c = cond (is_directory k) c pass

-- the key k, at or below a, with b standing where a stood
abbrev pub new_key : Path → Path → Path → Path
new_key a b k = b ++ drop (length a) k

-- "the sum over keys below the source of 2 × key length + new key length + 256"
abbrev pub planned : Path → Path → Table → ℕ
planned a b [] = 0
planned a b (x ∷ xs) = cond (below a x.0) (2 * length x.0 + length (new_key a b x.0) + 256) 0 + planned a b xs

-- "Plan: 11 if the charge exceeds the limit, or if the sum … exceeds limit minus charge; the rest is the walk's
-- budget."
abbrev pub plan : Memory → Table → Path → Path → Check
plan (limited E limit) t a b = unless 11 (leb (charge E t) limit)
    then unless 11 (leb (planned a b t) (limit - charge E t))
plan unlimited t a b = pass

abbrev pub budget : Memory → Table → Path → Path → Option ℕ
budget (limited E limit) t a b = some (limit - charge E t - planned a b t)
budget unlimited t a b = none

-- "gives 4 at a link": what the walk stops at
pub data Stop : Type 0 where
  at_link : Stop

-- the walk has come to a sum, or has ended above its budget, or at a node that stops it, with the sum so far
pub data Walk : Type 0 where
  sum : ℕ → Walk
  over_budget : Walk
  stopped : Stop → (sum : ℕ) → Walk

-- "above the budget after an addition is 11"
abbrev pub in_budget : Option ℕ → ℕ → Walk
in_budget none s = sum s
in_budget (some b) s = cond (leb s b) (sum s) over_budget

-- "gives 4 at a link": the nodes at which the walk stops
abbrev pub stops : Node → Bool
stops (dir m) = false
stops (file m z c) = false
stops link = true

-- "gives 4 at a link, and adds 2 × path length + 512 for a file, 3 × path length + 512 for a directory"
abbrev pub visit : Option ℕ → Walk → Path → Node → Walk
visit b (sum s) p (dir m) = in_budget b (s + 3 * length p + 512)
visit b (sum s) p (file m z c) = in_budget b (s + 2 * length p + 512)
visit b (sum s) p link = stopped at_link s
visit b over_budget p n = over_budget
visit b (stopped x s) p n = stopped x s

abbrev pub visits : Option ℕ → Walk → Tree → Walk
visits b w [] = w
visits b w (x ∷ xs) = visits b (visit b w x.0 x.1) xs

-- "takes a directory's entries in ascending order, skips any path with an entry and all below it"
abbrev pub children : Table → Tree → Path → Tree
children t l d = only (λ q. child d q && is_none (lookup t q)) l

-- "Directories found wait, and the last found is entered first."
abbrev pub last_first : Tree → List Path → List Path
last_first [] found = found
last_first (x ∷ xs) found = last_first xs (cons_if (is_directory (kind_of (some x.1))) x.0 found)

abbrev pub enter : (Path → Walk → Walk) → List Path → Walk → Walk
enter g [] w = w
enter g (d ∷ ds) w = enter g ds (g d w)

-- the directory d and what is below it, n levels deep
abbrev pub walk : ℕ → Table → Tree → Option ℕ → Path → Walk → Walk
walk zero t l b d w = w
walk (suc n) t l b d w = enter (walk n t l b) (last_first (children t l d) []) (visits b w (children t l d))

-- as deep as any path of the tree
abbrev pub depth : Tree → ℕ
depth [] = 0
depth (x ∷ xs) = max (length (components x.0)) (depth xs)

-- "It starts at 2 × source length + 1"
abbrev pub walk_from : Table → Tree → Option ℕ → Path → Walk
walk_from t l b a = walk (depth l) t l b a (sum (2 * length a + 1))

abbrev pub walked : ℕ → Walk → Check
walked n (sum s) = pass
walked n over_budget = refuse 11 0 0
walked n (stopped at_link s) = refuse 4 0 n

-- what a listed node is as an entry; a link, at which the walk has ended, is none
abbrev pub as_entry : Node → Entry
as_entry (dir m) = directory m
as_entry (file m z (held c)) = own m c
as_entry (file m z (listed p)) = reference m z p
as_entry link = deleted

-- neither q nor a path between a and q has an entry: the walk comes to q
abbrev pub uncovered : Table → Path → Path → Bool
uncovered t a q = is_none (lookup t q) && every (λ p. not (below a p) || is_none (lookup t p)) (ancestors q)

-- a directory moves with all that is below it, a file alone
abbrev pub along : Kind → Path → Path → Bool
along k a q = same a q || (is_directory k && below a q)

-- what moves, as entries: the table's, deleted ones among them, and what the walk comes to in the listing
abbrev pub carried : Table → Tree → Path → Table
carried t l a = only (along (kind (shown t l) a) a) (puts t (mapped as_entry (only (uncovered t a) l)))

-- the table after it: each entry carried stands at its new key, and a deleted one at its old key
abbrev pub moved : Table → Tree → Path → Path → Table
moved t l a b = let c = carried t l a in puts (rekey a b c) (puts (each deleted (keys c)) t)

-- "a moved key above 512 bytes or 32 components | 12"
abbrev pub keys_fit : Memory → Table → Check
keys_fit (limited E limit) c = unless 12 (every short (keys c))
keys_fit unlimited c = pass

-- "rename: roots; destination's parents; a link at the destination without an entry, 4; source's parents; source
-- deleted 5, link 4; …"
abbrev pub rename_paths : Table → Tree → Path → Path → Check
rename_paths t l a b =
    let f = shown t l in
    not_root 0 a
    then not_root 1 b
    then parent_checks 1 f b
    then not_link 1 (length b) (kind f b)
    then parent_checks 0 f a
    then not_deleted (length a) (lookup t a)
    then not_link 0 (length a) (kind f a)

-- "… type clash 8 or 7; 9 for a directory source; 10; source absent 5; …"
abbrev pub rename_types : Table → Tree → Path → Path → Check
rename_types t l a b =
    let f = shown t l in
    no_clash (length b) (kind f a) (kind f b)
    then if_directory (kind f a) (if_directory (kind f b) (no_visible_child 1 t l b))
    then cond (below a b) (refuse 10 0 (length a)) pass
    then present (length a) (kind f a)

-- "the plan and the walk": the walk is through the listing, so where the source is a directory there
abbrev pub plan_and_walk : Memory → Table → Tree → Path → Path → Check
plan_and_walk memory t l a b =
    plan memory t a b
    then if_directory (kind (lookup l) a) (walked (length a) (walk_from t l (budget memory t a b) a))

-- "… for a directory the plan and the walk; …"
abbrev pub directory_memory : Memory → Table → Tree → Path → Path → Check
directory_memory memory t l a b = if_directory (kind (shown t l) a) (plan_and_walk memory t l a b)

-- "… for a directory the plan and the walk; 11; 12"
abbrev pub rename_memory : Memory → Table → Tree → Path → Path → Check
rename_memory memory t l a b =
    directory_memory memory t l a b
    then charged memory (moved t l a b)
    then keys_fit memory (rekey a b (carried t l a))

-- #104: "both paths are equal and the source is visible"
abbrev pub onto_itself : View → Path → Path → Bool
onto_itself f a b = same a b && not (is_nothing (kind f a))

-- the three parts, in this order: each path by itself, both together, what moving takes of the memory. #104: onto
-- itself, "accept … whatever the limit. This comes before the type clash check; parents, links and deleted sources
-- refuse as before."
abbrev pub rename_checks : Memory → Table → Tree → Path → Path → Check
rename_checks memory t l a b =
    rename_paths t l a b
    then cond (onto_itself (shown t l) a b) pass (rename_types t l a b then rename_memory memory t l a b)
