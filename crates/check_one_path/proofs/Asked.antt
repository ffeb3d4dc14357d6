-- What unlink and rmdir give by a path's entry, as the code reads it: all that they ask of an entry is what an OverlayEntry says of it.
use mathlib.Core.Path.{◌≡◌, refl, sym, ap, ◌∙◌}
use mathlib.Core.Option.{Option, none, some}
use Prim.Native.Nat.{ℕ}
use lib.ListN.{length}
use Rattle.model.specs.Bytes.{Bytes}
use Rattle.model.specs.Path.{Path}
use Rattle.model.specs.Map.{lookup}
use Rattle.model.specs.Tree.{Entry, own, reference, directory, deleted, view, Table, Tree, shown, Kind, kind_of}
use Rattle.model.specs.Checks.{Check, unlink_entry, unlink_checks, rmdir_entry}
use Rattle.table_entries.specs.declared.OverlayEntry.{OverlayEntry}
use Rattle.table_entries.specs.declared.OverlayEntry.TheVariants.{File, RealFileRef, Directory, Deleted}
use Rattle.table_entries.specs.Said.{said, said_by, no_entry}
use Rattle.model.proofs.Orders.{bot}
use Rattle.check_one_path.specs.Change.{target_at, visible_checks, entry_or, entry_checks, change_checks}
use Rattle.check_one_path.specs.declared.Change.{Change}
use Rattle.check_one_path.specs.declared.Change.TheVariants.{Unlink, Rmdir}

-- an entry y was read where the table has o, v is the kind that it shows, and z what the code gives for it
pub by_entry : (x : Change) (n : ℕ) (s : Bytes) (o : Option Entry) (y : OverlayEntry) → said_by s y ≡ said o → (v : Kind)
    → ((e : Entry) → said_by s y ≡ said (some e) → v ≡ kind_of (view e)) → (z c : Check) → z ≡ target_at x n v → z ≡ entry_or x n o c
by_entry x n s none (File m a k) h v w z c e = absurd (bot (cc))
by_entry x n s none (RealFileRef m d a k) h v w z c e = absurd (bot (cc))
by_entry x n s none (Directory m) h v w z c e = absurd (bot (cc))
by_entry x n s none Deleted h v w z c e = absurd (bot (cc))
by_entry x n s (some d) y h v w z c e = e ∙ ap (target_at x n) (w d h)

pub by_none : (x : Change) (n : ℕ) (o : Option Entry) → no_entry ≡ said o → (c : Check) → c ≡ entry_or x n o c
by_none x n none h c = refl
by_none x n (some (own m d)) h c = absurd (bot (cc))
by_none x n (some (reference m z d)) h c = absurd (bot (cc))
by_none x n (some (directory m)) h c = absurd (bot (cc))
by_none x n (some deleted) h c = absurd (bot (cc))

-- so the definition has it for each of the two
module _ (t : Table) (l : Tree) (p : Path) (z : Check) where
  pub unlink_entry_lem : z ≡ entry_checks Unlink t l p → z ≡ unlink_checks t l p
  unlink_entry_lem h = h ∙ each (lookup t p) (visible_checks Unlink (shown t l) p)
    where
      each : (e : Option Entry) (c : Check) → entry_or Unlink (length p) e c ≡ unlink_entry (length p) e c
      each none c = refl
      each (some (own m d)) c = refl
      each (some (reference m n d)) c = refl
      each (some (directory m)) c = refl
      each (some deleted) c = refl

  pub rmdir_entry_lem : z ≡ entry_checks Rmdir t l p → z ≡ rmdir_entry (length p) (lookup t p) (visible_checks Rmdir (shown t l) p)
  rmdir_entry_lem h = h ∙ each (lookup t p) (visible_checks Rmdir (shown t l) p)
    where
      each : (e : Option Entry) (c : Check) → entry_or Rmdir (length p) e c ≡ rmdir_entry (length p) e c
      each none c = refl
      each (some (own m d)) c = refl
      each (some (reference m n d)) c = refl
      each (some (directory m)) c = refl
      each (some deleted) c = refl

  -- the call x is y, whose checks the code made
  pub as_change : (x y : Change) → x ≡ y → z ≡ change_checks y t l p → z ≡ change_checks x t l p
  as_change x y e h = h ∙ sym (ap (λ (a : Change). change_checks a t l p) e)
