-- What a call must have left, as a test over the bytes and the record.
use Rattle.std.specs.Prelude.{Bool, ◌&&◌, eqb, length, take}
use Rattle.model.specs.Bytes.{Bytes, every, same}
use Rattle.model.specs.Table.{same_record, is_table}
use Rattle.model.specs.declared.Record.{Record}
use Rattle.base_fields.specs.Read.{zeros}

-- every byte is the one that the work buffer is filled with
abbrev pub filled : Bytes → Bool
filled w = every (λ b. eqb b 165) w

-- accepted without a change: the table t is the start of its old copy o, the record is the same
abbrev pub unchanged : Bytes → Bytes → Record → Record → Bool
unchanged t o a b = same t (take (length t) o) && same_record a b

-- refused: that, and the work buffer w is full as before
abbrev pub kept : Bytes → Bytes → Bytes → Record → Record → Bool
kept t o w a b = unchanged t o a b && filled w

-- accepted: t with the record r is a table, and the work buffer is all 0
abbrev pub clean : Bytes → Bytes → Record → Bool
clean t w r = is_table t r && zeros w
