-- One moved entry counted: its key is measured in the table if it fits 512 bytes, else it is only charged.
use mathlib.Core.Path.{◌≡◌, refl, ap, sym, subst, ◌∙◌}
use mathlib.Core.List.{◌++◌}
use mathlib.Core.Bool.{Bool, true, false, not, ◌&&◌, ◌||◌}
use Prim.Native.Nat.{ℕ, ◌+◌, ◌-◌, ◌<◌, ◌≤◌}
use native.Mathlib.Omega.{arith}
use lib.Dec.{leb}
use lib.ListN.{length, drop, length-append, length-drop}
use borrow.Author.Tests.{le-leb, lt-leb}
use Rattle.model.specs.Bytes.{Bytes, before}
use Rattle.model.specs.Path.{Path, components, short}
use Rattle.model.specs.Map.{put}
use Rattle.model.specs.Tree.{Entry, Table}
use Rattle.model.specs.Table.{body_of}
use Rattle.model.specs.declared.Record.{Record}
use Rattle.model.proofs.Orders.{bot}
use Rattle.table_charge.specs.Charge.{charge_by}
use Rattle.table_entries.specs.declared.Place.{Place}
use Rattle.table_measure.specs.Measure.{Measured}
use Rattle.rename_measure.specs.Tallies.{near, Counted}
use Rattle.rename_measure.specs.declared.Tally.{Tally}

-- what `projected` tells of a key and of the length of a body
abbrev pub Projects : Bytes → Path → ℕ → Place → Record → Place → Record → Type 0
Projects s key n q a q' a' =
    (t : Table) (k : Path) (u : Entry)
    → Measured s t k q.left q.at a.entry_size a
    → before k key ≡ true
    → length (body_of u) ≡ n
    → Measured s (put key u t) key q'.left q'.at a.entry_size a'

or_true : (x : Bool) → (x || true) ≡ true
or_true true = refl
or_true false = refl

-- how long a composed key is
pub composed_length : (b key : Path) (from : ℕ) → length (b ++ drop from key) ≡ length b + (length key - from)
composed_length b key from = length-append b (drop from key) ∙ ap (λ (n : ℕ). length b + n) (length-drop from key)

module _ (s : Bytes) (b key : Path) (from m : ℕ) (x : Tally) where
  pub counted_far : (v : ℕ) → v ≡ charge_by x.rec.entry_size (length b + (length key - from)) m → 512 < length b + (length key - from)
      → Counted s (b ++ drop from key) m x (record {
        place = x.place;
        rec = x.rec;
        extra = x.extra + v;
        long = true;
      })
  counted_far v ev h =
      let k : Path = b ++ drop from key in
      let l : length k ≡ length b + (length key - from) = composed_length b key from in
      let f : near k ≡ false = lt-leb (length k) 512 (omega arith) in
      let g : short k ≡ false = ap (λ (y : Bool). y && leb (length (components k)) 32) f in
      record {
        measured = λ e. absurd (bot (cc));
        kept = λ e. absurd (bot (cc));
        passed = λ e. (refl, refl);
        charged = λ e. omega arith;
        long = sym (ap (λ (y : Bool). x.long || not y) g ∙ or_true x.long);
      }

  pub counted_near : length b + (length key - from) ≤ 512 → (new : Path) → new ≡ b ++ drop from key
      → (q : Place) (a : Record) → Projects s new m x.place x.rec q a → (fits : Bool) → fits ≡ short new
      → Counted s (b ++ drop from key) m x (record { place = q; rec = a; extra = x.extra; long = x.long || not fits })
  counted_near h new n q a p fits e =
      let k : Path = b ++ drop from key in
      let l : length k ≡ length b + (length key - from) = composed_length b key from in
      let f : near k ≡ true = le-leb (length k) 512 (omega arith) in
      record {
        measured = λ g. subst (λ (y : Path). Projects s y m x.place x.rec q a) n p;
        kept = λ g. refl;
        passed = λ g. absurd (bot (cc));
        charged = λ g. absurd (bot (cc));
        long = ap (λ (y : Bool). x.long || not y) (e ∙ ap short n);
      }

-- from the first entry on
pub first_counted : (s : Bytes) (b : Path) (m : ℕ) (r : Record) (q : Place) → q ≡ record { at = 0; left = r.count } → (q' : Place) (a : Record)
    → Projects s b m q r q' a → Projects s b m (record { at = 0; left = r.count }) r q' a
first_counted s b m r q e q' a p = subst (λ (z : Place). Projects s b m z r q' a) e p
