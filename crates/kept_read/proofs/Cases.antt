-- Why the record of the heads is checked against the entries: a directory's entry whose head names a body of one byte.
-- Its heads end where the bytes do, but the entry that is read has no body, and neither length nor charge is its own.
use mathlib.Core.Path.{◌≡◌, refl}
use mathlib.Core.Bool.{false}
use mathlib.Core.List.{[], ◌∷◌, ◌++◌}
use lib.ListN.{replicate}
use Rattle.model.specs.Bytes.{Bytes}
use Rattle.model.specs.declared.Record.{Record}
use Rattle.table_open.specs.Pass.{fits}
use Rattle.kept_file.specs.Kept.{summed, is_entries}
use Rattle.std.specs.Prelude.{Some}
use Rattle.kept_read.specs.Heads.{heads}

abbrev entry : Bytes
entry = 0 ∷ 0 ∷ 3 ∷ 0 ∷ 1 ∷ 0 ∷ 0 ∷ 0 ∷ (replicate 16 0 ++ (7 ∷ []))

by_heads : heads 40 entry ≡ Some (record { used = 25; count = 1; charge = 312; entry_size = 40 })
unfolding fits
by_heads = refl

by_entries : ◌≡◌ {A = Record} (summed 40 entry) (record { used = 24; count = 1; charge = 296; entry_size = 40 })
by_entries = refl

no_entries : is_entries 40 entry ≡ false
no_entries = refl
