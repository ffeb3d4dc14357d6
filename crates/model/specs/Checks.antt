-- Document 01, "Order of checks": parents, write, mkdir, unlink and rmdir, up to 10; then 11, which stands in every
-- order. On tables that no call built, and on trees that no listing gives, the checks are read to the letter.
use Rattle.std.specs.Prelude.{Bool, true, false, cond, not, ◌&&◌, ◌||◌, List, [], ◌∷◌, ℕ, leb, length}
use Rattle.std.proofs.Math.Option.{Option, none, some}
use Rattle.model.specs.Bytes.{some?, cons_if}
use Rattle.model.specs.Path.{Path, is_path, ancestors, child}
use Rattle.model.specs.Map.{lookup, keys}
use Rattle.model.specs.Tree.{Entry, own, reference, directory, deleted, Table, Tree, View, shown, Kind, nothing}
use Rattle.model.specs.Tree.{a_directory, a_file, a_link, kind, is_nothing}
use Rattle.model.specs.Table.{charge}

-- a check passes, or refuses with a number, a path (0: only or source, 1: destination) and a length
pub data Check : Type 0 where
  pass : Check
  refuse : (number path len : ℕ) → Check

-- the first refusal counts
infixr 30 ◌then◌
abbrev pub ◌then◌ : Check → Check → Check
pass then c = c
refuse n w k then c = refuse n w k

-- refused with n and 0, 0 unless a test passes
abbrev pub unless : ℕ → Bool → Check
unless n true = pass
unless n false = refuse n 0 0

-- "path malformed | 3 | path, 0"
abbrev pub form : ℕ → Path → Check
form w p = cond (is_path p) pass (refuse 3 w 0)

-- "Parents of p, from the top: a directory entry passes, another entry gives 5; without an entry a directory passes, a
-- link gives 4, else 5."
abbrev pub parent_at : ℕ → ℕ → Kind → Check
parent_at w n nothing = refuse 5 w n
parent_at w n a_directory = pass
parent_at w n a_file = refuse 5 w n
parent_at w n a_link = refuse 4 w n

abbrev pub parents_in : ℕ → ℕ → (Path → Kind) → List Path → Check
parents_in w n g [] = pass
parents_in w n g (q ∷ qs) = parent_at w n (g q) then parents_in w n g qs

abbrev pub parent_checks : ℕ → View → Path → Check
parent_checks w f p = parents_in w (length p) (kind f) (ancestors p)

-- "write: parents; 8 on a directory; 4 on a link"
abbrev pub write_at : ℕ → Kind → Check
write_at n nothing = pass
write_at n a_directory = refuse 8 0 n
write_at n a_file = pass
write_at n a_link = refuse 4 0 n

abbrev pub write_checks : View → Path → Check
write_checks f p = parent_checks 0 f p then write_at (length p) (kind f p)

-- "with the parents flag, at the first ancestor that is a file 7, or a link 4 with the whole path's length, missing
-- ones being made"
abbrev pub ancestor_at : ℕ → ℕ → Kind → Check
ancestor_at k n nothing = pass
ancestor_at k n a_directory = pass
ancestor_at k n a_file = refuse 7 0 k
ancestor_at k n a_link = refuse 4 0 n

abbrev pub ancestors_in : ℕ → (Path → Kind) → List Path → Check
ancestors_in n g [] = pass
ancestors_in n g (q ∷ qs) = ancestor_at (length q) n (g q) then ancestors_in n g qs

abbrev pub mkdir_parents : View → Path → Bool → Check
mkdir_parents f p true = ancestors_in (length p) (kind f) (ancestors p)
mkdir_parents f p false = parent_checks 0 f p

-- "mkdir: own entry (a deleted one passes) or, without an entry, listed kind (6, also for a file with exist_ok; link 4;
-- a directory with exist_ok is accepted here)": what follows, `later`, is asked only where nothing is shown
abbrev pub mkdir_at : ℕ → Bool → Kind → Check → Check
mkdir_at n existOk nothing later = later
mkdir_at n existOk a_directory later = cond existOk pass (refuse 6 0 n)
mkdir_at n existOk a_file later = refuse 6 0 n
mkdir_at n existOk a_link later = refuse 4 0 n

-- the directories that it makes: the path and its missing ancestors, or none where the path is a directory already
abbrev pub missing : (Path → Kind) → List Path → List Path
missing g [] = []
missing g (q ∷ qs) = cons_if (is_nothing (g q)) q (missing g qs)

abbrev pub makes : View → Path → List Path
makes f p = cond (is_nothing (kind f p)) (missing (kind f) (p ∷ ancestors p)) []

-- "unlink: an own file or reference goes straight to 11; a directory entry is 8; deleted is 5; else parents, then 4, 8
-- or 5"
abbrev pub unlink_at : ℕ → Kind → Check
unlink_at n nothing = refuse 5 0 n
unlink_at n a_directory = refuse 8 0 n
unlink_at n a_file = pass
unlink_at n a_link = refuse 4 0 n

abbrev pub unlink_entry : ℕ → Option Entry → Check → Check
unlink_entry n none otherwise = otherwise
unlink_entry n (some (own m c)) otherwise = pass
unlink_entry n (some (reference m z q)) otherwise = pass
unlink_entry n (some (directory m)) otherwise = refuse 8 0 n
unlink_entry n (some deleted) otherwise = refuse 5 0 n

abbrev pub unlink_checks : Table → Tree → Path → Check
unlink_checks t l p = unlink_entry (length p) (lookup t p) (parent_checks 0 (shown t l) p
    then unlink_at (length p) (kind (shown t l) p))

-- "root given | 4 | path, length"
abbrev pub not_root : ℕ → Path → Check
not_root w [] = refuse 4 w 0
not_root w (c ∷ p) = pass

-- "not empty (a link counts as a child) | 9 | path, length": some path of the table or the listing is a child of p at
-- which something is visible
abbrev pub visible_child : View → Path → List Path → Bool
visible_child f p ks = some? (λ k. child p k && not (is_nothing (kind f k))) ks

abbrev pub no_visible_child : ℕ → Table → Tree → Path → Check
no_visible_child w t l p = cond (visible_child (shown t l) p (keys t) || visible_child (shown t l) p (keys l))
    (refuse 9 w (length p)) pass

-- "link 4, 5 or 7": what a path gives of which a directory is asked
abbrev pub directory_at : ℕ → Kind → Check
directory_at n nothing = refuse 5 0 n
directory_at n a_directory = pass
directory_at n a_file = refuse 7 0 n
directory_at n a_link = refuse 4 0 n

-- "rmdir: root 4; own entry (file 7, deleted 5, directory on to 9); else parents, link 4, 5 or 7; 9"
abbrev pub rmdir_entry : ℕ → Option Entry → Check → Check
rmdir_entry n none otherwise = otherwise
rmdir_entry n (some (own m c)) otherwise = refuse 7 0 n
rmdir_entry n (some (reference m z q)) otherwise = refuse 7 0 n
rmdir_entry n (some (directory m)) otherwise = pass
rmdir_entry n (some deleted) otherwise = refuse 5 0 n

abbrev pub rmdir_checks : Table → Tree → Path → Check
rmdir_checks t l p =
    not_root 0 p
    then rmdir_entry (length p) (lookup t p) (parent_checks 0 (shown t l) p
    then directory_at (length p) (kind (shown t l) p))
    then no_visible_child 0 t l p

-- what a call may charge: an entry size and a limit, or no end of it, as in the plain tree's rules ("without 11 to 13")
pub data Memory : Type 0 where
  limited : (E limit : ℕ) → Memory
  unlimited : Memory

-- "11 otherwise: the charge after the call exceeds the limit; equal passes."
abbrev pub charged : Memory → Table → Check
charged (limited E limit) t = unless 11 (leb (charge E t) limit)
charged unlimited t = pass
