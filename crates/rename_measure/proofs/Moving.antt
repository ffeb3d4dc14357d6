-- The pass that measures moves: one for each item of the streams, with those to come, is all of them.
use mathlib.Core.Path.{◌≡◌, refl, ap, sym, subst, ◌∙◌}
use mathlib.Core.List.{List, [], ◌∷◌, append-nil}
use mathlib.Core.Bool.{Bool, true, false, not, ◌&&◌, ◌||◌, or-false}
use Prim.Native.Nat.{ℕ, ◌+◌, ◌*◌, ◌<◌, ◌≤◌}
use native.Mathlib.Omega.{arith}
use lib.ListN.{length}
use borrow.Author.Tests.{leb-true, le-leb}
use Rattle.model.specs.Bytes.{Bytes, every}
use Rattle.model.specs.Path.{Path, below, short}
use Rattle.model.specs.Map.{Map, puts, only, keys, rekey}
use Rattle.model.specs.Tree.{Entry, Table, Tree}
use Rattle.model.specs.Table.{body_of, charge_sum, table_in, is_table}
use Rattle.model.specs.Rename.{new_key}
use Rattle.model.specs.declared.Record.{Record}
use Rattle.model.proofs.Orders.{Lt, yea, nay, test, below_rest, rest_self}
use Rattle.model.proofs.Maps.{Ascending, ascends_is, is_ascends, ascending_only}
use Rattle.listing_records.specs.Place.{tree_at}
use Rattle.table_entries.specs.Place.{Standing}
use Rattle.table_entries.specs.declared.Place.{Place}
use Rattle.table_measure.specs.Measure.{Counts}
use Rattle.rename_uncovered.specs.Ahead.{PartBelow}
use Rattle.rename_uncovered.proofs.Belows.{few_records}
use Rattle.rename_carried.specs.Streams.{ahead, remaining, Streaming, Carrying, Next, item_at}
use Rattle.rename_carried.specs.declared.Stream.{Stream}
use Rattle.rename_carried.specs.declared.Head.{Head}
use Rattle.rename_laws.proofs.Moves.{new_key_lem, new_length, ascending_rekey}
use Rattle.rename_measure.specs.Tallies.{near, far, Counted, Moved}
use Rattle.rename_measure.specs.declared.Tally.{Tally}
use Rattle.rename_measure.proofs.Counting.{Projects}
use Rattle.rename_measure.proofs.Putting.{Putting, size_small, putting_begun, putting_counts, putting_over, putting_on}
use Rattle.rename_measure.proofs.Streamed.{few_entries, ahead_ascends, item_short, item_below, nothing_ahead}

module _ {A : Type 0} where
  -- what stands at a, and what is below it, with b in the place of a
  pub rekey_top : (a b : Path) (e : A) (c : Map A) → rekey a b ((a, e) ∷ c) ≡ (b, e) ∷ rekey a b c
  rekey_top a b e c = rw (rest_self a) (ap (λ (k : Path). (k, e) ∷ rekey a b c) (append-nil b))

  pub rekey_item : (a b : Path) (x : Path × A) (c : Map A) → below a x.0 ≡ true → rekey a b (x ∷ c) ≡ (new_key a b x.0, x.1) ∷ rekey a b c
  rekey_item a b x c h =
      let r = below_rest a x.0 h in
      rw r.1 (ap (λ (k : Path). (k, x.1) ∷ rekey a b c) (sym (new_key_lem a b x.0 (47 ∷ r.0) r.1)))

  -- the first of a part
  only_yes : (f : Path → Bool) (k : Path) (v : A) (c : Map A) → f k ≡ true → only f ((k, v) ∷ c) ≡ (k, v) ∷ only f c
  only_yes f k v c h = rw h

  only_no : (f : Path → Bool) (k : Path) (v : A) (c : Map A) → f k ≡ false → only f ((k, v) ∷ c) ≡ only f c
  only_no f k v c h = rw h

or-and : (x y z : Bool) → ((x || not y) || not z) ≡ (x || not (y && z))
or-and true y z = refl
or-and false true z = refl
or-and false false z = refl

lt_first : (b : Path) → 0 < length b → Lt [] b
lt_first [] h = absurd (omega arith)
lt_first (x ∷ b) h = tt

-- with the streams at u, whose places were at `from` in the beginning, x has all counted that is passed
pub record Moving (own part s : Bytes) (a b : Path) (e : Entry) (r : Record) (count records : ℕ) (from : Stream) (f : List Bool) (x : Tally)
    (u : Stream) : Type 0 where
  pub streaming : Streaming own part s a f u
  pub carrying : Carrying own part s a (table_in s r) (tree_at part records 0) f u
  pub most : ℕ
  pub putting : Putting s r.entry_size
      (puts (only near (rekey a b ((a, e) ∷ ahead (table_in s r) a own part from))) (table_in s r))
      (only near (rekey a b (ahead (table_in s r) a own part u))) x.place x.rec most
  pub room : most + 16778240 * remaining u ≤ 33555456 + 16778240 * (count + records)
  pub extra : x.extra + charge_sum r.entry_size (only far (rekey a b (ahead (table_in s r) a own part u)))
      ≡ charge_sum r.entry_size (only far (rekey a b ((a, e) ∷ ahead (table_in s r) a own part from)))
  pub extra_room : x.extra + 16783360 * remaining u ≤ 16783360 * (count + records)
  pub long : (x.long || not (every short (keys (rekey a b (ahead (table_in s r) a own part u)))))
      ≡ not (every short (keys (rekey a b ((a, e) ∷ ahead (table_in s r) a own part from))))

module _ (own part s : Bytes) (a b : Path) (e : Entry) (r : Record) (count records : ℕ) (from : Stream) (f : List Bool) where
  abbrev T : Table
  T = table_in s r

  abbrev E : ℕ
  E = r.entry_size

  abbrev moved_ahead : Stream → Table
  moved_ahead u = rekey a b (ahead T a own part u)

  abbrev all : Table
  all = rekey a b ((a, e) ∷ ahead T a own part from)

  pub moving_begun : is_table s r ≡ true → (0 < length b) × (length b ≤ 512) → Streaming own part s a f from → remaining from ≤ count + records
      → Carrying own part s a T (tree_at part records 0) f from
      → (n : ℕ) → n ≤ 16777216 → length (body_of e) ≡ n → (x : Tally) → Projects s b n (record { at = 0; left = r.count }) r x.place x.rec
      → (x.extra ≡ 0) × (x.long ≡ not (short b))
      → Moving own part s a b e r count records from f x from
  moving_begun h l w m c n nl bl x p z =
      let l1 = l.1 in
      let top : all ≡ (b, e) ∷ moved_ahead from = rekey_top a b e (ahead T a own part from) in
      let q : Place = record { at = 0; left = r.count } in
      let fits : near b ≡ true = le-leb (length b) 512 l1 in
      let first : only near all ≡ (b, e) ∷ only near (moved_ahead from) = ap (only near) top ∙ only_yes near b e (moved_ahead from) fits in
      let up = ascends_is a (ahead T a own part from) (ahead_ascends own part s a f from w T) in
      let asc : Ascending ((b, e) ∷ only near (moved_ahead from)) =
      subst (λ (y : Table). Ascending y) first (ascending_only near all (ascending_rekey a b ((a, e) ∷ ahead T a own part from) (up.0, up.1))) in
      let asc' = is_ascends [] ((b, e) ∷ only near (moved_ahead from)) (lt_first b l.0) asc in
      let begun : Putting s E (puts (only near all) T) ((b, e) ∷ only near (moved_ahead from)) q r 16777216 =
      subst (λ (y : Table). Putting s E (puts y T) ((b, e) ∷ only near (moved_ahead from)) q r 16777216) (sym first)
      (putting_begun s r ((b, e) ∷ only near (moved_ahead from)) q h asc' refl) in
      let ex : x.extra ≡ 0 = z.0 in
      let no : far b ≡ false = ap not fits in
      let ch = ap (charge_sum E) (ap (only far) top ∙ only_no far b e (moved_ahead from) no) in
      record {
        streaming = w;
        carrying = c;
        most = 33555456;
        putting = putting_on s E (puts (only near all) T) q r 16777216 b e (only near (moved_ahead from)) n begun bl x.place x.rec 33555456
            (omega arith) p;
        room = omega arith;
        extra = omega arith;
        extra_room = omega arith;
        long =
            ap (λ (y : Bool). y || not (every short (keys (moved_ahead from)))) z.1
            ∙ or-and false (short b) (every short (keys (moved_ahead from)))
            ∙ ap (λ (y : Table). not (every short (keys y))) (sym top);
      }

  module _ (x : Tally) (u : Stream) (m : Moving own part s a b e r count records from f x u) where
    pub moving_counts : is_table s r ≡ true → Standing own count 0 → PartBelow part a records → Counts s x.place.left x.place.at x.rec
    moving_counts h y z =
        let n = few_entries own count y in
        let o = few_records part records z.stand in
        let w = m.room in
        putting_counts s E (puts (only near all) T) x.place x.rec m.most (only near (moved_ahead u)) m.putting (size_small s r h)
        (omega arith)

    pub moving_extra : Standing own count 0 → PartBelow part a records → x.extra ≤ 0x4000_0000_0000_0000
    moving_extra y z =
        let n = few_entries own count y in
        let o = few_records part records z.stand in
        let w = m.extra_room in
        omega arith

    pub moving_over : remaining u ≤ 0 → (c : Table) → ahead T a own part from ≡ c
        → Moved E T (rekey a b ((a, e) ∷ c)) (record {
          rec = record { used = x.rec.used; count = x.rec.count; charge = x.rec.charge; entry_size = E };
          extra = x.extra;
          long = x.long;
        })
    moving_over z c g =
        let none : moved_ahead u ≡ [] = ap (rekey a b) (nothing_ahead own part T a u z) in
        let p : Putting s E (puts (only near all) T) [] x.place x.rec m.most =
        subst (λ (y : Table). Putting s E (puts (only near all) T) (only near y) x.place x.rec m.most) none m.putting in
        let ch = ap (λ (y : Table). charge_sum E (only far y)) none in
        let ex = m.extra in
        subst (λ (y : Table). Moved E T (rekey a b ((a, e) ∷ y)) (record {
          rec = record { used = x.rec.used; count = x.rec.count; charge = x.rec.charge; entry_size = E };
          extra = x.extra;
          long = x.long;
        })) g (record {
          rec = putting_over s E (puts (only near all) T) x.place x.rec m.most p;
          extra = omega arith;
          long = sym (or-false x.long) ∙ ap (λ (y : Table). x.long || not (every short (keys y))) (sym none) ∙ m.long;
        })

    module _ (h : Head) (n : Next own part u h) (y : Tally)
        (d : Counted s (new_key a b (item_at own part u h).0) (length (body_of (item_at own part u h).1)) x y)
        (g : List Bool) (v : Stream) (w : Streaming own part s a g v) (less : remaining v < remaining u)
        (c : (t : Table) (l : Tree) → Carrying own part s a t l f u
        → Carrying own part s a t l g v × (ahead t a own part u ≡ item_at own part u h ∷ ahead t a own part v))
        (lb : length b ≤ 512) (small : E ≤ 4096) where
      abbrev item : Path × Entry
      item = item_at own part u h

      abbrev key : Path
      key = new_key a b item.0

      next_moved : moved_ahead u ≡ (key, item.1) ∷ moved_ahead v
      next_moved =
          ap (rekey a b) (c T (tree_at part records 0) m.carrying).1
          ∙ rekey_item a b item (ahead T a own part v) (item_below own part s a f u m.streaming h n)

      key_long : length key ≤ 1024
      key_long =
          let r = below_rest a item.0 (item_below own part s a f u m.streaming h n) in
          let l = new_length a b item.0 (47 ∷ r.0) r.1 in
          let i = (item_short own part s a f u m.streaming h n).0 in
          omega arith

      still_long : (y.long || not (every short (keys (moved_ahead v)))) ≡ not (every short (keys all))
      still_long =
          ap (λ (z : Bool). z || not (every short (keys (moved_ahead v)))) d.long
          ∙ or-and x.long (short key) (every short (keys (moved_ahead v)))
          ∙ ap (λ (z : Table). x.long || not (every short (keys z))) (sym next_moved)
          ∙ m.long

      moving_near : near key ≡ true → Moving own part s a b e r count records from g y v
      moving_near t =
          let o : Putting s E (puts (only near all) T) ((key, item.1) ∷ only near (moved_ahead v)) x.place x.rec m.most =
          subst (λ (z : Table). Putting s E (puts (only near all) T) z x.place x.rec m.most)
          (ap (only near) next_moved ∙ only_yes near key item.1 (moved_ahead v) t) m.putting in
          let kl = leb-true (length key) 512 t in
          let bl = (item_short own part s a f u m.streaming h n).1 in
          let rm = m.room in
          let xr = m.extra_room in
          let k = d.kept t in
          let ex = m.extra in
          let ch = ap (charge_sum E) (ap (only far) next_moved ∙ only_no far key item.1 (moved_ahead v) (ap not t)) in
          record {
            streaming = w;
            carrying = (c T (tree_at part records 0) m.carrying).0;
            most = m.most + 16778240;
            putting =
                putting_on s E (puts (only near all) T) x.place x.rec m.most key item.1 (only near (moved_ahead v))
                (length (body_of item.1)) o refl
                y.place y.rec (m.most + 16778240) (omega arith) (d.measured t);
            room = omega arith;
            extra = omega arith;
            extra_room = omega arith;
            long = still_long;
          }

      moving_far : near key ≡ false → Moving own part s a b e r count records from g y v
      moving_far t =
          let o : Putting s E (puts (only near all) T) (only near (moved_ahead v)) x.place x.rec m.most =
          subst (λ (z : Table). Putting s E (puts (only near all) T) z x.place x.rec m.most)
          (ap (only near) next_moved ∙ only_no near key item.1 (moved_ahead v) t) m.putting in
          let ps = d.passed t in
          let o' : Putting s E (puts (only near all) T) (only near (moved_ahead v)) y.place x.rec m.most =
          subst (λ (z : Place). Putting s E (puts (only near all) T) (only near (moved_ahead v)) z x.rec m.most) (sym ps.0) o in
          let o'' : Putting s E (puts (only near all) T) (only near (moved_ahead v)) y.place y.rec m.most =
          subst (λ (z : Record). Putting s E (puts (only near all) T) (only near (moved_ahead v)) y.place z m.most) (sym ps.1) o' in
          let bl = (item_short own part s a f u m.streaming h n).1 in
          let kl = key_long in
          let rm = m.room in
          let xr = m.extra_room in
          let es : x.rec.entry_size ≡ E = m.putting.size in
          let sm = m.putting.size in
          let k = d.charged t in
          let ex = m.extra in
          let ch = ap (charge_sum E) (ap (only far) next_moved ∙ only_yes far key item.1 (moved_ahead v) (ap not t)) in
          record {
            streaming = w;
            carrying = (c T (tree_at part records 0) m.carrying).0;
            most = m.most;
            putting = o'';
            room = omega arith;
            extra = omega arith;
            extra_room = omega arith;
            long = still_long;
          }

      pub moving_on : Moving own part s a b e r count records from g y v
      moving_on = elim (test (near key)) [ yea t ↦ moving_near t | nay t ↦ moving_far t ]
