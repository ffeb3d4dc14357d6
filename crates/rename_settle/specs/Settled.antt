-- 11, 12 and 13 of rename, and what is settled by them.
use Rattle.std.specs.Prelude.{cond, ℕ, leb, length, Result, Ok, Err}
use Rattle.model.specs.Path.{Path}
use Rattle.model.specs.Map.{rekey}
use Rattle.model.specs.Tree.{Table, Tree}
use Rattle.model.specs.Table.{encode}
use Rattle.model.specs.Checks.{Check, ◌then◌, unless, Memory, charged}
use Rattle.model.specs.Rename.{carried, moved, keys_fit}
use Rattle.model.specs.declared.Record.{Record}
use Rattle.model.specs.declared.Refusal.{Refusal}
use Rattle.model.specs.declared.Refusal.TheVariants.{Limit, KeyTooLong, NoRoom}
use Rattle.rename_measure.specs.declared.Projected.{Projected}

-- "11; 12", and 13 for a table of n bytes
abbrev pub last_checks : Memory → ℕ → Table → Tree → Path → Path → Check
last_checks m n t l a b =
    charged m (moved t l a b) then keys_fit m (rekey a b (carried t l a))
    then unless 13 (leb (length (encode (moved t l a b))) n)

-- the same, by what was measured
abbrev pub settled_of : Projected → ℕ → ℕ → Result Record Refusal
settled_of p limit n =
    cond (leb p.charge limit) (cond p.long (Err KeyTooLong)
    (cond (leb p.rec.used n) (Ok p.rec) (Err NoRoom))) (Err Limit)
