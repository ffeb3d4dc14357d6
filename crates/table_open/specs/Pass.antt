-- The rules of a table in one pass: each entry by itself and by the key before it, then the record and the bytes behind
-- the entries.
use Rattle.std.specs.Prelude.{Bool, true, cond, ◌&&◌, ◌||◌, [], ℕ, zero, suc, ◌+◌, leb, ltb, eqb, length, drop}
use Rattle.model.specs.Bytes.{Bytes, number_at, before}
use Rattle.model.specs.Path.{Path, is_path}
use Rattle.model.specs.Table.{key_at, body_at, entry_end, sized}
use Rattle.model.specs.declared.Record.{Record}
use Rattle.base_fields.specs.Read.{zeros}
use Rattle.table_charge.specs.Charge.{charge_by}

-- an entry's type k, body length b, mtime bits m and size z go together
unfoldable pub type_rule : ℕ → ℕ → ℕ → ℕ → Bool
type_rule k b m z =
    (((eqb k 1 && eqb z 0)
    || (eqb k 2 && ltb z 0x8000_0000_0000_0000))
    || (eqb k 3 && (eqb b 0 && eqb z 0)))
    || (eqb k 4 && (eqb b 0 && (eqb z 0 && eqb m 0)))

-- the entry that starts at `at` ends within s
unfoldable pub fits : Bytes → ℕ → Bool
fits s at = leb (at + 24) (length s) && leb (entry_end s at) (length s)

unfoldable pub headed : Bytes → ℕ → Bool
headed s at = type_rule (number_at s (at + 2) 2) (number_at s (at + 4) 4) (number_at s (at + 8) 8)
    (number_at s (at + 16) 8)

-- the body of a reference is a path, and not empty
unfoldable pub referring : Bytes → ℕ → Bool
referring s at = cond (eqb (number_at s (at + 2) 2) 2) (ltb 0 (number_at s (at + 4) 4) && is_path (body_at s at)) true

-- the entry at `at` is in order, behind the key p
unfoldable pub in_order : Bytes → ℕ → Path → Bool
in_order s at p = fits s at && (headed s at && (is_path (key_at s at) && (referring s at && before p (key_at s at))))

-- n entries from `at` on are in order, behind the key p and with the charge c so far, and the record agrees with where
-- they end
abbrev pub run : Bytes → Record → ℕ → ℕ → Path → ℕ → Bool
run s r zero at p c = (eqb at r.used && eqb c r.charge) && zeros (drop at s)
run s r (suc n) at p c =
    in_order s at p && run s r n (entry_end s at) (key_at s at)
    (c + charge_by r.entry_size (number_at s at 2) (number_at s (at + 4) 4))

unfoldable pub passes : Bytes → Record → Bool
passes s r = sized r.entry_size (length s) && run s r r.count 0 [] 0
