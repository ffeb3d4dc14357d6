-- The charge by lengths is the definition's charge of every entry of these lengths.
use mathlib.Core.Path.{◌≡◌, refl}
use Prim.Native.Nat.{ℕ}
use lib.ListN.{length}
use Rattle.model.specs.Path.{Path}
use Rattle.model.specs.Tree.{Entry}
use Rattle.model.specs.Table.{body_of, entry_charge}
use Rattle.table_charge.specs.Charge.{charge_by}

pub charge_by_lem : (E : ℕ) (k : Path) (e : Entry) → entry_charge E k e ≡ charge_by E (length k) (length (body_of e))
charge_by_lem E k e = refl
