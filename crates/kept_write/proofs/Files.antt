-- The bytes of a kept file: its parts written in a row with zeros behind them; and the entries of a table among its bytes.
use mathlib.Core.Path.{◌≡◌, ap, sym, ◌∙◌}
use mathlib.Core.Bool.{true}
use Prim.Native.Nat.{◌-◌, ◌≤◌}
use native.Mathlib.Omega.{arith}
use lib.ListN.{length, take, replicate}
use lib.Seq.{take_at}
use Rattle.model.specs.Bytes.{Bytes, bytes}
use Rattle.model.specs.Table.{encode, table_in, is_table}
use Rattle.model.specs.declared.Record.{Record}
use Rattle.model.proofs.Codec.{decoded}
use Rattle.kept_file.specs.Kept.{kept}

-- a table's entries are its used bytes
module _ (s : Bytes) (r : Record) (h : is_table s r ≡ true) where
  pub used_is : r.used ≡ length (encode (table_in s r))
  used_is = ap (λ (q : Record). q.used) (decoded s r h).rec

  pub used_bytes : take r.used s ≡ encode (table_in s r)
  used_bytes =
      let d = decoded s r h in
      let t : Bytes = encode (table_in s r) in
      ap (take r.used) d.bytes ∙ take_at t (replicate (length s - length t) 0) r.used (sym used_is)

  pub used_within : r.used ≤ length s
  used_within = let u = used_is in let d = (decoded s r h).fits in omega arith
