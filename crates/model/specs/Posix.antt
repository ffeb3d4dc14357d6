-- IEEE Std 1003.1-2017 (POSIX.1-2017): mkdir(), unlink(), rmdir() and rename(), as what a tree shows at each path after
-- the call, and when the call does not fail. What is quoted is from memory of the standard's text, some of it
-- shortened, and not compared with a copy. Left out: the times of parent directories, and links in a path prefix, which
-- the standard follows and which here are no directories (docs/DIFFERENCES.md).
use Rattle.std.specs.Prelude.{◌≡◌, true, false, cond, List, [], ◌∷◌, ◌++◌, ℕ}
use Rattle.std.proofs.Math.Option.{none, some}
use Rattle.model.specs.Bytes.{same}
use Rattle.model.specs.Path.{Path, ancestors, below, rest}
use Rattle.model.specs.Map.{by_rest}
use Rattle.model.specs.Tree.{dir, View, nothing, a_directory, kind, is_nothing}
use Rattle.model.specs.Calls.{Call, write, append, write_inside, mkdir, unlink, rmdir, rename}

-- path prefix: a component "does not name an existing file [ENOENT]" or "names an existing file that is neither a
-- directory …[ENOTDIR]"
abbrev pub Prefixed : View → Path → Type 0
Prefixed f p = (q : Path) → below q p ≡ true → kind f q ≡ a_directory

-- "an empty directory": nothing is below it
abbrev pub Empty : View → Path → Type 0
Empty f p = (q : Path) → below p q ≡ true → f q ≡ none

-- mkdir(): "shall create a new directory with name path"
abbrev pub make_directory : ℕ → Path → View → View
make_directory m p f q = cond (same p q) (some (dir m)) (f q)

-- fails where "the named file exists [EEXIST]"
pub record MakesDirectory (f : View) (p : Path) : Type 0 where
  pub prefixed : Prefixed f p
  pub absent : kind f p ≡ nothing

-- The mkdir utility's -p: "Create any missing intermediate pathname components", mkdir() for each in turn from the top,
-- then for the path itself; a directory that exists "shall be ignored without error".
abbrev pub make_missing : ℕ → List Path → View → View
make_missing m [] f = f
make_missing m (q ∷ qs) f = make_missing m qs (cond (is_nothing (kind f q)) (make_directory m q f) f)

abbrev pub make_directories : ℕ → Path → View → View
make_directories m p f = make_missing m (ancestors p ++ (p ∷ [])) f

-- fails where a component, or the path, exists and is no directory
pub record MakesDirectories (f : View) (p : Path) : Type 0 where
  pub prefixed : (q : Path) → below q p ≡ true → (kind f q ≡ nothing → ⊥) → kind f q ≡ a_directory
  pub directory : (kind f p ≡ nothing → ⊥) → kind f p ≡ a_directory

-- unlink(): "shall remove a link to a file"; rmdir(): "shall remove a directory"
abbrev pub remove_name : Path → View → View
remove_name p f q = cond (same p q) none (f q)

-- unlink() fails where the path "does not name an existing file [ENOENT]" and where it "is a directory [EPERM]"
pub record Unlinks (f : View) (p : Path) : Type 0 where
  pub prefixed : Prefixed f p
  pub present : kind f p ≡ nothing → ⊥
  pub other : kind f p ≡ a_directory → ⊥

-- rmdir(): "The directory shall be removed only if it is an empty directory"; the root is "in use by the system
-- [EBUSY]"
pub record RemovesDirectory (f : View) (p : Path) : Type 0 where
  pub named : p ≡ [] → ⊥
  pub prefixed : Prefixed f p
  pub directory : kind f p ≡ a_directory
  pub empty : Empty f p

-- rename(): "shall change the name of a file": what is at old or below it is found at new and below it; "if the link
-- named by the new argument exists, it shall be removed and old renamed to new". "If the old argument and the new
-- argument resolve to … the same existing directory entry … rename() shall return successfully and perform no other
-- action."
abbrev pub rename_file : Path → Path → View → View
rename_file old new f q = cond (same old new) (f q) (by_rest (rest new q) (λ r. f (old ++ r))
    (by_rest (rest old q) (λ r. none) (f q)))

-- fails where old "does not name an existing file [ENOENT]"; where new is a directory and old is none [EISDIR]; where
-- old is a directory and new an existing file that is none [ENOTDIR]; where new names "a directory that is not an empty
-- directory [EEXIST] or [ENOTEMPTY]", unless it is old; where "the old pathname names an ancestor directory of the new
-- pathname [EINVAL]"; the root is "in use by the system [EBUSY]"
pub record Renames (f : View) (old new : Path) : Type 0 where
  pub named_old : old ≡ [] → ⊥
  pub named_new : new ≡ [] → ⊥
  pub prefixed_old : Prefixed f old
  pub prefixed_new : Prefixed f new
  pub present : kind f old ≡ nothing → ⊥
  pub onto_directory : kind f new ≡ a_directory → kind f old ≡ a_directory
  pub onto_other : kind f old ≡ a_directory → (kind f new ≡ nothing → ⊥) → kind f new ≡ a_directory
  pub onto_empty : (old ≡ new → ⊥) → kind f new ≡ a_directory → Empty f new
  pub apart : below old new ≡ true → ⊥

-- What the standard says of a call that turns the tree f into the tree g. With the parents flag mkdir is the utility's
-- -p; a directory that is there, which exist_ok asks to accept, stays. The standard's counterparts of write, append and
-- writing inside are not among the four.
abbrev pub Posix : View → View → Call → Type 0
Posix f g (write p m c) = Unit {0}
Posix f g (append p m d b) = Unit {0}
Posix f g (write_inside p m o d) = Unit {0}
Posix f g (mkdir p true ok m) = MakesDirectories f p × (g ≡ make_directories m p f)
Posix f g (mkdir p false ok m) =
    (kind f p ≡ a_directory → (ok ≡ true) × (g ≡ f)) × ((kind f p ≡ a_directory → ⊥) → MakesDirectory f p
    × (g ≡ make_directory m p f))
Posix f g (unlink p) = Unlinks f p × (g ≡ remove_name p f)
Posix f g (rmdir p) = RemovesDirectory f p × (g ≡ remove_name p f)
Posix f g (rename a b) = Renames f a b × (g ≡ rename_file a b f)
