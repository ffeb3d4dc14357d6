-- What is counted of the moved entries: those whose keys fit 512 bytes are measured in the table, the others only
-- charged.
use Rattle.std.specs.Prelude.{◌≡◌, Bool, true, false, cond, not, ◌||◌, ℕ, ◌+◌, ◌-◌, ◌≤◌, leb, length}
use Rattle.std.proofs.Math.Option.{some}
use Rattle.model.specs.Bytes.{Bytes, every, before}
use Rattle.model.specs.Path.{Path, short}
use Rattle.model.specs.Map.{lookup, put, puts, only, keys, rekey, mapped}
use Rattle.model.specs.Tree.{Entry, Table, Tree, shown, a_directory, a_file, kind}
use Rattle.model.specs.Table.{body_of, charge_sum, charge, record_of}
use Rattle.model.specs.Rename.{as_entry, uncovered, carried, moved}
use Rattle.model.specs.declared.Record.{Record}
use Rattle.table_charge.specs.Charge.{charge_by}
use Rattle.table_measure.specs.Measure.{Measured}
use Rattle.rename_measure.specs.declared.Tally.{Tally}
use Rattle.rename_measure.specs.declared.Moves.{Moves}
use Rattle.rename_measure.specs.declared.Projected.{Projected}

-- a key that can stand in a table, and one that cannot
abbrev pub near : Path → Bool
near q = leb (length q) 512

abbrev pub far : Path → Bool
far q = not (near q)

-- in y one entry more is counted than in x, with the key k and m bytes of body
pub record Counted (s : Bytes) (k : Path) (m : ℕ) (x y : Tally) : Type 0 where
  pub measured : near k ≡ true → (t : Table) (j : Path) (v : Entry)
      → Measured s t j x.place.left x.place.at x.rec.entry_size x.rec → before j k ≡ true
      → length (body_of v) ≡ m
      → Measured s (put k v t) k y.place.left y.place.at x.rec.entry_size y.rec
  pub kept : near k ≡ true → y.extra ≡ x.extra
  pub passed : near k ≡ false → (y.place ≡ x.place) × (y.rec ≡ x.rec)
  pub charged : near k ≡ false → y.extra ≡ x.extra + charge_by x.rec.entry_size (length k) m
  pub long : y.long ≡ (x.long || not (short k))

-- r has all of M counted, over the table t
pub record Moved (E : ℕ) (t M : Table) (r : Moves) : Type 0 where
  pub rec : r.rec ≡ record_of E (puts (only near M) t)
  pub extra : r.extra ≡ charge_sum E (only far M)
  pub long : r.long ≡ not (every short (keys M))

-- numbers that can be added
abbrev pub Small : Record → Type 0
Small r = (r.used ≤ 0x4000_0000_0000_0000) × (r.count ≤ 0x4000_0000_0000_0000) × (r.charge ≤ 0x4000_0000_0000_0000)

-- what stands at a, as an entry: a directory's, which moves with all below it, or a file's
pub record Source (t : Table) (l : Tree) (a : Path) (whole : Bool) : Type 0 where
  pub entry : Entry
  pub top : lookup (puts t (mapped as_entry (only (uncovered t a) l))) a ≡ some entry
  pub is : kind (shown t l) a ≡ cond whole a_directory a_file

-- the record before, with what `deletions` and `moves` each add to it
abbrev pub combined : Record → Record → Moves → Projected
combined r deletions moves = record {
  rec = record {
    used = deletions.used + moves.rec.used - r.used;
    count = deletions.count + moves.rec.count - r.count;
    charge = deletions.charge + moves.rec.charge - r.charge;
    entry_size = r.entry_size;
  };
  charge = deletions.charge + moves.rec.charge - r.charge + moves.extra;
  long = moves.long;
}

-- r tells the charge that rename leaves, whether a moved key is too long, and, if none is, the record
pub record Foretold (E : ℕ) (t : Table) (l : Tree) (a b : Path) (r : Projected) : Type 0 where
  pub charge : r.charge ≡ charge E (moved t l a b)
  pub long : r.long ≡ not (every short (keys (rekey a b (carried t l a))))
  pub rec : r.long ≡ false → r.rec ≡ record_of E (moved t l a b)
