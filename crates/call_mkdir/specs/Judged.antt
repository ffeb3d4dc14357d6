-- What mkdir does once its checks are made.
use Rattle.std.specs.Prelude.{◌≡◌, Bool, true, ℕ, ◌≤◌, length, Result, Ok, Err, Option, Some, None}
use Rattle.model.specs.Bytes.{Bytes}
use Rattle.model.specs.Path.{Path}
use Rattle.model.specs.Map.{puts, each}
use Rattle.model.specs.Tree.{directory, View, kind}
use Rattle.model.specs.Table.{table_in}
use Rattle.model.specs.Checks.{Check, pass, ◌then◌, mkdir_at, mkdir_parents, makes}
use Rattle.model.specs.Answer.{told_refusal}
use Rattle.model.specs.Outcome.{shown_in}
use Rattle.model.specs.declared.Record.{Record}
use Rattle.base_paths.specs.declared.prefixes.Dirs.{Dirs}
use Rattle.check_judged.specs.Judged.{as_check}
use Rattle.base_paths.specs.Dirs.{ends_of, climbs, prefixes}
use Rattle.model.specs.declared.Refusal.{Refusal}

-- 4 to 8: what the path shows, then its parents; `later` follows where something is to be made
abbrev pub mkdir_checks : View → Path → Bool → Bool → Check → Check
mkdir_checks f p up ok later = mkdir_at (length p) ok (kind f p) (mkdir_parents f p up then later)

-- the check that follows, `later`, is made only where something is to be made
abbrev pub after_judging : {A : Type 0} → Result (Option A) Refusal → Check → Check
after_judging (Ok (Some d)) later = later
after_judging (Ok None) later = pass
after_judging (Err r) later = as_check (told_refusal r)

-- d are the directories that mkdir makes at p: put into the table s, with any mtime, they give what the definition puts
pub record Makes (l s : Bytes) (r : Record) (p : Path) (d : Dirs) : Type 0 where
  pub count : d.count ≤ 32
  pub climb : climbs 0 (length p) (ends_of d) ≡ true
  pub table : (m : ℕ) → puts (each (directory m) (prefixes p (ends_of d))) (table_in s r)
      ≡ puts (each (directory m) (makes (shown_in l s r) p)) (table_in s r)
