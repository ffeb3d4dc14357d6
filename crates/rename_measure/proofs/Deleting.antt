-- The pass that measures deletions: one for each item of the streams, with those to come, is all of them.
use mathlib.Core.Path.{◌≡◌, refl, ap, sym, subst, ◌∙◌}
use mathlib.Core.List.{List, [], ◌∷◌}
use mathlib.Core.Bool.{Bool, true}
use Prim.Native.Nat.{ℕ, ◌+◌, ◌*◌, ◌<◌, ◌≤◌}
use native.Mathlib.Omega.{arith}
use lib.ListN.{length}
use Rattle.model.specs.Bytes.{Bytes}
use Rattle.model.specs.Path.{Path}
use Rattle.model.specs.Map.{puts, each, keys}
use Rattle.model.specs.Tree.{deleted, Table, Tree}
use Rattle.model.specs.Table.{record_of, table_in, is_table}
use Rattle.model.specs.declared.Record.{Record}
use Rattle.listing_records.specs.Place.{tree_at}
use Rattle.table_entries.specs.Place.{Standing}
use Rattle.table_entries.specs.declared.Place.{Place}
use Rattle.table_measure.specs.Measure.{Counts}
use Rattle.rename_uncovered.specs.Ahead.{PartBelow}
use Rattle.rename_uncovered.proofs.Belows.{few_records}
use Rattle.rename_carried.specs.Streams.{ahead, remaining, Streaming, Carrying, Next, item_at}
use Rattle.rename_carried.specs.declared.Stream.{Stream}
use Rattle.rename_carried.specs.declared.Head.{Head}
use Rattle.rename_measure.proofs.Counting.{Projects}
use Rattle.rename_measure.proofs.Putting.{Putting, size_small, putting_begun, putting_counts, putting_over, putting_on}
use Rattle.rename_measure.proofs.Streamed.{few_entries, each_ascends}
use Rattle.rename_measure.proofs.Streamed.{ahead_ascends, item_short, nothing_ahead, first_behind}

-- with the streams at u, whose places were at `from` in the beginning, `after` is the record with all deleted that is passed
pub record Deleting (own part s : Bytes) (a : Path) (r : Record) (count records : ℕ) (from : Stream) (f : List Bool) (q : Place) (after : Record)
    (u : Stream) : Type 0 where
  pub streaming : Streaming own part s a f u
  pub carrying : Carrying own part s a (table_in s r) (tree_at part records 0) f u
  pub most : ℕ
  pub putting : Putting s r.entry_size (puts (each deleted (a ∷ keys (ahead (table_in s r) a own part from))) (table_in s r))
      (each deleted (keys (ahead (table_in s r) a own part u))) q after most
  pub room : most + 1024 * remaining u ≤ 16778240 + 1024 * (count + records)

module _ (own part s : Bytes) (a : Path) (r : Record) (count records : ℕ) (from : Stream) (f : List Bool) where
  abbrev T : Table
  T = table_in s r

  pub deleting_begun : is_table s r ≡ true → (0 < length a) × (length a ≤ 512) → Streaming own part s a f from → remaining from ≤ count + records
      → Carrying own part s a T (tree_at part records 0) f from
      → (q q' : Place) (a' : Record) → q ≡ record { at = 0; left = r.count } → Projects s a 0 q r q' a'
      → Deleting own part s a r count records from f q' a' from
  deleting_begun h l w m c q q' a' e p =
      let l1 = l.1 in
      let ds : Table = each deleted (keys (ahead T a own part from)) in
      let up = first_behind a deleted ds l.0 (each_ascends deleted a (ahead T a own part from) (ahead_ascends own part s a f from w T)) in
      let b = putting_begun s r ((a, deleted) ∷ ds) q h up e in
      record {
        streaming = w;
        carrying = c;
        most = 16778240;
        putting = putting_on s r.entry_size (puts ((a, deleted) ∷ ds) T) q r 16777216 a deleted ds 0 b refl q' a' 16778240 (omega arith) p;
        room = omega arith;
      }

  module _ (q : Place) (after : Record) (u : Stream) (m : Deleting own part s a r count records from f q after u) where
    pub deleting_counts : is_table s r ≡ true → Standing own count 0 → PartBelow part a records → Counts s q.left q.at after
    deleting_counts h x y =
        let n = few_entries own count x in
        let o = few_records part records y.stand in
        let b = m.room in
        putting_counts s r.entry_size (puts (each deleted (a ∷ keys (ahead T a own part from))) T) q after m.most
        (each deleted (keys (ahead T a own part u))) m.putting (size_small s r h) (omega arith)

    pub deleting_over : remaining u ≤ 0 → (c : Table) → ahead T a own part from ≡ c
        → record { used = after.used; count = after.count; charge = after.charge; entry_size = r.entry_size }
        ≡ record_of r.entry_size (puts (each deleted (a ∷ keys c)) T)
    deleting_over z c e =
        let w : Table = puts (each deleted (a ∷ keys (ahead T a own part from))) T in
        let p : Putting s r.entry_size w [] q after m.most =
        subst (λ (x : Table). Putting s r.entry_size w (each deleted (keys x)) q after m.most) (nothing_ahead own part T a u z)
        m.putting in
        putting_over s r.entry_size w q after m.most p ∙ ap (λ (x : Table). record_of r.entry_size
        (puts (each deleted (a ∷ keys x)) T)) e

    pub deleting_on : (h : Head) → Next own part u h → (key : Path) → key ≡ (item_at own part u h).0 → (q' : Place) (a' : Record)
        → Projects s key 0 q after q' a'
        → (g : List Bool) (v : Stream) → Streaming own part s a g v → remaining v < remaining u
        → ((t : Table) (l : Tree) → Carrying own part s a t l f u → Carrying own part s a t l g v × (ahead t a own part u ≡ item_at own part u h
        ∷ ahead t a own part v))
        → Deleting own part s a r count records from g q' a' v
    deleting_on h n key k q' a' p g v w d c =
        let x = c T (tree_at part records 0) m.carrying in
        let sh = (item_short own part s a f u m.streaming h n).0 in
        let kl = ap length k in
        let b = m.room in
        let all : Table = puts (each deleted (a ∷ keys (ahead T a own part from))) T in
        let ds : Table = each deleted (keys (ahead T a own part v)) in
        let e : each deleted (keys (ahead T a own part u)) ≡ (key, deleted) ∷ ds =
        ap (λ (y : Table). each deleted (keys y)) x.1 ∙ ap (λ (y : Path). (y, deleted) ∷ ds) (sym k) in
        let o : Putting s r.entry_size all ((key, deleted) ∷ ds) q after m.most =
        subst (λ (y : Table). Putting s r.entry_size all y q after m.most) e m.putting in
        record {
          streaming = w;
          carrying = x.0;
          most = m.most + 1024;
          putting = putting_on s r.entry_size all q after m.most key deleted ds 0 o refl q' a' (m.most + 1024) (omega arith) p;
          room = omega arith;
        }
