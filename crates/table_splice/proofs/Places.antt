-- The own file whose entry is sought: it stands at the place that is found.
use mathlib.Core.Path.{◌≡◌, ap, sym, ◌∙◌}
use mathlib.Core.Bool.{Bool, true, false, cond}
use mathlib.Core.List.{[]}
use mathlib.Core.Option.{Option, none, some}
use Prim.Native.Nat.{ℕ, zero, suc, ◌<◌}
use native.Mathlib.Omega.{arith}
use Rattle.model.specs.Bytes.{Bytes, same}
use Rattle.model.specs.Path.{Path}
use Rattle.model.specs.Map.{lookup, put}
use Rattle.model.specs.Tree.{Entry, own, Table}
use Rattle.model.specs.Table.{body_of, key_at, entry_at, entries_at, table_in, is_table}
use Rattle.model.specs.Content.{spliced}
use Rattle.model.specs.declared.Record.{Record}
use Rattle.model.proofs.Orders.{bot}
use Rattle.model.proofs.Maps.{ascends_is}
use Rattle.table_entries.specs.Place.{Sought}
use Rattle.table_entries.specs.Cut.{first_if}
use Rattle.table_entries.proofs.Entries.{table_stands, first_entry}
use Rattle.table_entries.proofs.Cuts.{lookup_first}
use Rattle.table_splice.specs.Splice.{is_own_file}

abbrev body_or : Option Entry → Bytes
body_or none = []
body_or (some v) = body_of v

-- the first of some entries, if it has the key
first_body : (b : Bool) (v : Entry) (m : ℕ) (c : Bytes) → cond b (some v) none ≡ some (own m c) → body_of v ≡ c
first_body true v m c h = ap body_or h
first_body false v m c h = absurd (bot (cc))

module _ (s : Bytes) (r : Record) (k : Path) (left at : ℕ) (table : is_table s r ≡ true) (f : Sought s k r.count 0 left at) where
  abbrev t : Table
  t = table_in s r

  first : lookup t k ≡ first_if k (entries_at s left at)
  first = lookup_first k t (ascends_is [] t (table_stands s r table).up).1 ∙ sym (ap (first_if k) f.are)

  module _ (o : is_own_file (lookup t k) ≡ true) where
    pub some_there : 0 < left
    some_there = go left (sym (ap is_own_file first) ∙ o)
      where
        go : (n : ℕ) → is_own_file (first_if k (entries_at s n at)) ≡ true → 0 < n
        go zero h = absurd (bot (cc))
        go (suc n) h = omega arith

    pub body_there : (m : ℕ) (c : Bytes) → lookup t k ≡ some (own m c) → body_of (entry_at s at) ≡ c
    body_there m c l =
        first_body (same (key_at s at) k) (entry_at s at) m c (sym (ap (first_if k) (first_entry s left at some_there)) ∙ sym first ∙ l)

    -- what is put with the content x that is read there is what is put with the file's own
    pub put_there : (x d : Bytes) (mtime o : ℕ) → x ≡ body_of (entry_at s at) → (m : ℕ) (c : Bytes) → lookup t k ≡ some (own m c)
        → put k (own mtime (spliced o d x)) t ≡ put k (own mtime (spliced o d c)) t
    put_there x d mtime o e m c l = ap (λ (b : Bytes). put k (own mtime (spliced o d b)) t) (e ∙ body_there m c l)
