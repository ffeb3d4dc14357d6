-- What rename leaves, by the record after its deletions alone and the one after its moves alone.
-- Assumes a checked table and a checked listing, and paths of which none is at or below both, or one path for both.
use mathlib.Core.Path.{◌≡◌, refl, ap, sym, subst, ◌∙◌}
use mathlib.Core.List.{List, [], ◌∷◌}
use mathlib.Core.Bool.{Bool, true, false, cond, not, ◌&&◌}
use mathlib.Core.Option.{none, some}
use Prim.Native.Nat.{ℕ, ◌+◌, ◌-◌, ◌<◌, ◌≤◌}
use native.Mathlib.Omega.{arith}
use lib.Dec.{leb}
use lib.ListN.{length}
use borrow.Author.Tests.{le-leb}
use Rattle.model.specs.Bytes.{Bytes, every, before}
use Rattle.model.specs.Path.{Path, is_path, components, short}
use Rattle.model.specs.Map.{lookup, put, puts, only, each, keys, rekey, mapped}
use Rattle.model.specs.Tree.{Entry, deleted, Table, Tree, shown, a_directory, a_file, kind}
use Rattle.model.specs.Listing.{ListingRecord, records, ruled, placed, formed_record, tree_from, tree_in, is_listing}
use Rattle.model.specs.Table.{body_of, encode, entry_charge, charge_sum, formed_body, formed_entry, record_of, table_in, is_table}
use Rattle.model.specs.Rename.{as_entry, uncovered, along, carried, moved}
use Rattle.model.specs.declared.Record.{Record}
use Rattle.model.proofs.Orders.{bot, and_true, yea, nay, test, Split, split}
use Rattle.model.proofs.Maps.{Ascending, ascends_is}
use Rattle.model.proofs.Maps.{lookup_puts, lookup_only, lookup_mapped, lookup_keys, lookup_low, ascending_puts}
use Rattle.model.proofs.Codec.{decoded, bounds, path_short}
use Rattle.model.proofs.Listings.{checked}
use Rattle.rename_carried.specs.Streams.{carried_below}
use Rattle.rename_laws.proofs.Records.{Apart, weight, total_put, apart_used, apart_count, apart_charge, charge_total}
use Rattle.rename_laws.proofs.Moves.{inside_carried, ascending_carried, ascending_rekey, carried_directory}
use Rattle.rename_laws.proofs.Moves.{carried_file, loose_top, apart_moved, Parted}
use Rattle.rename_measure.specs.Tallies.{near, far, Moved, Small, Source, combined, Foretold}
use Rattle.rename_measure.specs.declared.Moves.{Moves}
use Rattle.rename_measure.specs.declared.Projected.{Projected}
use Rattle.table_measure.proofs.Passes.{put_bytes}
use Rattle.rename_measure.proofs.Putting.{size_small, some_entry, as_long}
use Rattle.rename_measure.proofs.Moving.{rekey_top}

-- no key of a table, and no listed path, is far
far_entry : (t : Table) (k : Path) → every formed_entry t ≡ true → near k ≡ false → lookup t k ≡ none
far_entry [] k h f = refl
far_entry (x ∷ xs) k h f =
    let e = and_true (formed_entry x) (every formed_entry xs) h in
    let p = path_short x.0 (and_true (is_path x.0) (formed_body x.1) e.0).0 in
    let n : near x.0 ≡ true = le-leb (length x.0) 512 p in
    let i = far_entry xs k e.1 f in
    elim (split x.0 k) [ Split.eq d w ↦ absurd (bot (cc)) | Split.ne d w ↦ cc ]

far_record : (l : Tree) (rs : List ListingRecord) (k : Path) → every (formed_record l) rs ≡ true → near k ≡ false → lookup (tree_from rs) k ≡ none
far_record l [] k h f = refl
far_record l (r ∷ rs) k h f =
    let e = and_true (formed_record l r) (every (formed_record l) rs) h in
    let y = and_true (is_path r.path && ruled r) (placed l r) e.0 in
    let p = path_short r.path (and_true (is_path r.path) (ruled r) y.0).0 in
    let n : near r.path ≡ true = le-leb (length r.path) 512 p in
    let i = far_record l rs k e.1 f in
    elim (split r.path k) [ Split.eq d w ↦ absurd (bot (cc)) | Split.ne d w ↦ cc ]

-- so nothing far is carried
far_carried : (t : Table) (l : Tree) (a k : Path) → lookup t k ≡ none → lookup l k ≡ none → lookup (carried t l a) k ≡ none
far_carried t l a k h g =
    let c = lookup_only (along (kind (shown t l) a) a) (puts t (mapped as_entry (only (uncovered t a) l))) k in
    let p = lookup_puts t (mapped as_entry (only (uncovered t a) l)) k in
    let m = lookup_mapped as_entry (only (uncovered t a) l) k in
    let o = lookup_only (uncovered t a) l k in
    elim (test (uncovered t a k)) [
      | yea u ↦ elim (test (along (kind (shown t l) a) a k)) [ yea v ↦ cc | nay v ↦ cc ]
      | nay u ↦ elim (test (along (kind (shown t l) a) a k)) [ yea v ↦ cc | nay v ↦ cc ]
    ]

far_deleted : (t c : Table) (k : Path) → lookup t k ≡ none → lookup c k ≡ none → lookup (puts (each deleted (keys c)) t) k ≡ none
far_deleted t c k h g = let p = lookup_puts (each deleted (keys c)) t k in let e = lookup_keys deleted c k in cc

-- an entry put adds its charge, and takes that of what stood there
charge_put : (E : ℕ) (k : Path) (v : Entry) (t : Table) → Ascending t
    → charge_sum E (put k v t) + weight (entry_charge E) k (lookup t k) ≡ charge_sum E t + entry_charge E k v
charge_put E k v t h =
    let p = total_put (entry_charge E) k v t h in
    let a = charge_total E (put k v t) in
    let b = charge_total E t in
    omega arith

-- far keys are in no table: they add their charge alone
pub charge_far : (E : ℕ) (m t : Table) → Ascending m → Ascending t → ((k : Path) → near k ≡ false → lookup t k ≡ none)
    → charge_sum E (puts m t) ≡ charge_sum E (puts (only near m) t) + charge_sum E (only far m)
charge_far E [] t h g f = omega arith
charge_far E (x ∷ xs) t h g f =
    let k = x.0 in
    let v = x.1 in
    let i = charge_far E xs t h.1 g f in
    let u = charge_put E k v (puts xs t) (ascending_puts xs t g) in
    let w = charge_put E k v (puts (only near xs) t) (ascending_puts (only near xs) t g) in
    let a = lookup_puts xs t k in
    let b = lookup_puts (only near xs) t k in
    let o = lookup_only near xs k in
    elim (test (near k)) [
      | yea n ↦
          let same_there : lookup (puts (only near xs) t) k ≡ lookup (puts xs t) k = cc in
          let ww = ap (weight (entry_charge E) k) same_there in
          let c1 : only near (x ∷ xs) ≡ x ∷ only near xs = rw n in
          let c2 : only far (x ∷ xs) ≡ only far xs = rw n in
          let d1 = ap (λ (y : Table). charge_sum E (puts y t)) c1 in
          let d2 = ap (charge_sum E) c2 in
          omega arith
      | nay n ↦
          let l = lookup_low k xs h.0 h.1 in
          let fk = f k n in
          let gone : lookup (puts xs t) k ≡ none = cc in
          let ww = ap (weight (entry_charge E) k) gone in
          let c1 : only near (x ∷ xs) ≡ only near xs = rw n in
          let c2 : only far (x ∷ xs) ≡ x ∷ only far xs = rw n in
          let d1 = ap (λ (y : Table). charge_sum E (puts y t)) c1 in
          let d2 = ap (charge_sum E) c2 in
          omega arith
    ]

-- short keys are near
pub all_near : (m : Table) → every short (keys m) ≡ true → only near m ≡ m
all_near [] h = refl
all_near (x ∷ xs) h =
    let e = and_true (short x.0) (every short (keys xs)) h in
    let n = (and_true (leb (length x.0) 512) (leb (length (components x.0)) 32) e.0).0 in
    rw n (ap (λ (y : Table). x ∷ y) (all_near xs e.1))

apart_near : (d m : Table) → Apart d m → Apart d (only near m)
apart_near d m h q e f =
    let o = lookup_only near m q in
    let g = h q e f in
    elim (test (near q)) [ yea n ↦ cc | nay n ↦ cc ]

not_is : (x : Bool) → false ≡ not x → x ≡ true
not_is true h = refl
not_is false h = absurd (bot (cc))

-- the entries x moved into a table, after which it is `moved`
module _ (E : ℕ) (t : Table) (l : Tree) (a b : Path) (x : Table) (w : moved t l a b ≡ puts (rekey a b (carried t l a)) x)
    (up : Ascending x) (lu : Ascending l) (f : (k : Path) → near k ≡ false → lookup x k ≡ none) where
  abbrev M : Table
  M = rekey a b (carried t l a)

  pub foretold : (r : Projected) (extra : ℕ) → r.rec ≡ record_of E (puts (only near M) x) → extra ≡ charge_sum E (only far M)
      → r.charge ≡ r.rec.charge + extra → r.charge ≤ 0xFFFF_FFFF_FFFF_FFFF → r.long ≡ not (every short (keys M)) → Foretold E t l a b r
  foretold r extra e x' c n o =
      let cf = charge_far E M x (ascending_rekey a b (carried t l a) (ascending_carried t l a lu)) up f in
      let rc : r.rec.charge ≡ charge_sum E (puts (only near M) x) = ap (λ (y : Record). y.charge) e in
      let mc = ap (charge_sum E) w in
      record {
        charge = omega arith;
        long = o;
        rec = λ n. e ∙ ap (λ (y : Table). record_of E (puts y x)) (all_near M (not_is (every short (keys M)) (sym n ∙ o))) ∙ ap (record_of E) (sym w);
      }

-- what is carried, by what stands at a
module _ (t : Table) (l : Tree) (a : Path) (up : Ascending l) where
  pub whole_carried : (w : Bool) (x : Source t l a w) → w ≡ true → carried t l a ≡ (a, x.entry) ∷ carried_below t l a
  whole_carried w x e =
      carried_directory t l a x.entry (x.is ∙ ap (λ (y : Bool). cond y a_directory a_file) e) up (sym (loose_top t l a) ∙ x.top)

  pub alone_carried : (w : Bool) (x : Source t l a w) → w ≡ false → carried t l a ≡ (a, x.entry) ∷ []
  alone_carried w x e =
      carried_file t l a x.entry (x.is ∙ ap (λ (y : Bool). cond y a_directory a_file) e) up (sym (loose_top t l a) ∙ x.top)

-- a path that is not empty
pub not_first : (a : Path) → 0 < length a → before [] a ≡ true
not_first [] h = absurd (omega arith)
not_first (x ∷ a) h = refl

-- one entry put leaves numbers that can be added
pub small_put : (s : Bytes) (r : Record) → is_table s r ≡ true → (k : Path) (v : Entry) → length k ≤ 512 → length (body_of v) ≤ 16777216
    → (o : Record) → o ≡ record_of r.entry_size (put k v (table_in s r)) → Small o
small_put s r h k v kl vl o e =
    let d = decoded s r h in
    let E : ℕ = r.entry_size in
    let z = d.length_most in
    let f = d.fits in
    let p = put_bytes k v (table_in s r) in
    let b = bounds E (put k v (table_in s r)) (size_small s r h) in
    let b0 = b.0 in
    let b1 = b.1 in
    let u : o.used ≡ length (encode (put k v (table_in s r))) = ap (λ (y : Record). y.used) e in
    let n : o.count ≡ length (put k v (table_in s r)) = ap (λ (y : Record). y.count) e in
    let c : o.charge ≡ charge_sum E (put k v (table_in s r)) = ap (λ (y : Record). y.charge) e in
    (omega arith, omega arith, omega arith)

pub small_body : (s : Bytes) (r : Record) → is_table s r ≡ true → (k : Path) (n : ℕ) → length k ≤ 512 → n ≤ 16777216 → (o : Record)
    → ((v : Entry) → length (body_of v) ≡ n → o ≡ record_of r.entry_size (put k v (table_in s r))) → Small o
small_body s r h k n kl nl o f =
    let l = as_long n in
    small_put s r h k (some_entry n) kl (omega arith) o (f (some_entry n) l)

-- one entry moved
pub one_moved : (E : ℕ) (t : Table) (a b : Path) (e : Entry) → length b ≤ 512 → (o : Record) → o ≡ record_of E (put b e t) → (x : Bool) → x ≡ short b
    → Moved E t (rekey a b ((a, e) ∷ [])) (record { rec = o; extra = 0; long = not x })
one_moved E t a b e l o h x y =
    let top : rekey a b ((a, e) ∷ []) ≡ (b, e) ∷ [] = rekey_top a b e [] in
    let n : near b ≡ true = le-leb (length b) 512 l in
    let c1 : only near ((b, e) ∷ []) ≡ (b, e) ∷ [] = rw n in
    let c2 : only far ((b, e) ∷ []) ≡ [] = rw n in
    subst (λ (z : Table). Moved E t z (record { rec = o; extra = 0; long = not x })) (sym top) (record {
      rec = h ∙ ap (λ (z : Table). record_of E (puts z t)) (sym c1);
      extra = ap (charge_sum E) (sym c2);
      long = ap not (y ∙ and_one (short b));
    })
  where
    and_one : (z : Bool) → z ≡ (z && true)
    and_one true = refl
    and_one false = refl

module _ (s g : Bytes) (r : Record) (h : is_table s r ≡ true) (i : is_listing g ≡ true) (a b : Path) where
  abbrev T : Table
  T = table_in s r

  abbrev L : Tree
  L = tree_in g

  abbrev C : Table
  C = carried T L a

  abbrev D : Table
  D = each deleted (keys C)

  table_up : Ascending T
  table_up = (ascends_is [] T (decoded s r h).ascending).1

  pub tree_up : Ascending L
  tree_up = (ascends_is [] L (checked g i).up).1

  far_table : (k : Path) → near k ≡ false → lookup T k ≡ none
  far_table k f = far_entry T k (decoded s r h).formed f

  far_gone : (k : Path) → near k ≡ false → lookup (puts D T) k ≡ none
  far_gone k f =
      let t = far_table k f in
      far_deleted T C k t (far_carried T L a k t (far_record L (records g) k (checked g i).formed f))

  -- deletions and moves have no key in common
  module _ (p : Parted a b) (d : Record) (m : Moves) (de : d ≡ record_of r.entry_size (puts D T))
      (w : Moved r.entry_size T (rekey a b C) m) where
    abbrev E : ℕ
    E = r.entry_size

    abbrev N : Table
    N = only near (rekey a b C)

    apart : Apart D N
    apart = apart_near D (rekey a b C) (apart_moved a b C p (inside_carried T L a))

    -- what is there before is at most both
    used_is : length (encode (puts N (puts D T))) + r.used ≡ d.used + m.rec.used
    used_is =
        let x = apart_used N D T table_up apart in
        let y : r.used ≡ length (encode T) = ap (λ (o : Record). o.used) (decoded s r h).rec in
        let z : d.used ≡ length (encode (puts D T)) = ap (λ (o : Record). o.used) de in
        let v : m.rec.used ≡ length (encode (puts N T)) = ap (λ (o : Record). o.used) w.rec in
        omega arith

    count_is : length (puts N (puts D T)) + r.count ≡ d.count + m.rec.count
    count_is =
        let x = apart_count N D T table_up apart in
        let y : r.count ≡ length T = ap (λ (o : Record). o.count) (decoded s r h).rec in
        let z : d.count ≡ length (puts D T) = ap (λ (o : Record). o.count) de in
        let v : m.rec.count ≡ length (puts N T) = ap (λ (o : Record). o.count) w.rec in
        omega arith

    charge_is : charge_sum E (puts N (puts D T)) + r.charge ≡ d.charge + m.rec.charge
    charge_is =
        let x = apart_charge N D T table_up apart E in
        let y : r.charge ≡ charge_sum E T = ap (λ (o : Record). o.charge) (decoded s r h).rec in
        let z : d.charge ≡ charge_sum E (puts D T) = ap (λ (o : Record). o.charge) de in
        let v : m.rec.charge ≡ charge_sum E (puts N T) = ap (λ (o : Record). o.charge) w.rec in
        omega arith

    pub enough : (r.used ≤ d.used + m.rec.used) × (r.count ≤ d.count + m.rec.count) × (r.charge ≤ d.charge + m.rec.charge)
    enough = let x = used_is in let y = count_is in let z = charge_is in (omega arith, omega arith, omega arith)

    sums_are : (combined r d m).rec ≡ record_of E (puts N (puts D T))
    sums_are =
        let x = used_is in
        let y = count_is in
        let z = charge_is in
        let u : d.used + m.rec.used - r.used ≡ length (encode (puts N (puts D T))) = omega arith in
        let n : d.count + m.rec.count - r.count ≡ length (puts N (puts D T)) = omega arith in
        let c : d.charge + m.rec.charge - r.charge ≡ charge_sum E (puts N (puts D T)) = omega arith in
        rw (u, n, c)

    pub together_foretold : (y : Projected) → y ≡ combined r d m → y.charge ≤ 0xFFFF_FFFF_FFFF_FFFF → Foretold E T L a b y
    together_foretold y e n =
        subst (λ (z : Projected). Foretold E T L a b z) (sym e)
        (foretold E T L a b (puts D T) refl (ascending_puts D T table_up) tree_up far_gone (combined r d m) m.extra sums_are w.extra refl
        (subst (λ (z : Projected). z.charge ≤ 0xFFFF_FFFF_FFFF_FFFF) e n) w.long)

-- what the code measures, by the source's kind
module _ (s g : Bytes) (r : Record) (h : is_table s r ≡ true) (i : is_listing g ≡ true) (a : Path) (w : Bool) (x : Source (table_in s r)
    (tree_in g) a w) where
  pub deletions_whole : w ≡ true → (o : Record) → o ≡ record_of r.entry_size
      (puts (each deleted (a ∷ keys (carried_below (table_in s r) (tree_in g) a))) (table_in s r))
      → o ≡ record_of r.entry_size (puts (each deleted (keys (carried (table_in s r) (tree_in g) a))) (table_in s r))
  deletions_whole e o f =
      f
      ∙ ap (λ (y : Table). record_of r.entry_size (puts (each deleted (keys y)) (table_in s r)))
      (sym (whole_carried (table_in s r) (tree_in g) a (tree_up s g r h i a a) w x e))

  pub deletions_alone : w ≡ false → (o : Record) → o ≡ record_of r.entry_size (put a deleted (table_in s r))
      → o ≡ record_of r.entry_size (puts (each deleted (keys (carried (table_in s r) (tree_in g) a))) (table_in s r))
  deletions_alone e o f =
      f
      ∙ ap (λ (y : Table). record_of r.entry_size (puts (each deleted (keys y)) (table_in s r)))
      (sym (alone_carried (table_in s r) (tree_in g) a (tree_up s g r h i a a) w x e))

  pub moves_whole : w ≡ true → (b : Path) (n : ℕ)
      → ((e : Entry) → lookup (puts (table_in s r) (mapped as_entry (only (uncovered (table_in s r) a) (tree_in g)))) a ≡ some e → length (body_of e)
      ≡ n)
      → (m : Moves)
      → ((e : Entry) → length (body_of e) ≡ n
      → Moved r.entry_size (table_in s r) (rekey a b ((a, e) ∷ carried_below (table_in s r) (tree_in g) a)) m)
      → Moved r.entry_size (table_in s r) (rekey a b (carried (table_in s r) (tree_in g) a)) m
  moves_whole e b n l m f =
      subst (λ (y : Table). Moved r.entry_size (table_in s r) (rekey a b y) m)
      (sym (whole_carried (table_in s r) (tree_in g) a (tree_up s g r h i a a) w x e)) (f x.entry (l x.entry x.top))

  pub moves_alone : w ≡ false → (b : Path) (n : ℕ)
      → ((e : Entry) → lookup (puts (table_in s r) (mapped as_entry (only (uncovered (table_in s r) a) (tree_in g)))) a ≡ some e → length (body_of e)
      ≡ n)
      → (m : Moves)
      → ((e : Entry) → length (body_of e) ≡ n → Moved r.entry_size (table_in s r) (rekey a b ((a, e) ∷ [])) m)
      → Moved r.entry_size (table_in s r) (rekey a b (carried (table_in s r) (tree_in g) a)) m
  moves_alone e b n l m f =
      subst (λ (y : Table). Moved r.entry_size (table_in s r) (rekey a b y) m)
      (sym (alone_carried (table_in s r) (tree_in g) a (tree_up s g r h i a a) w x e)) (f x.entry (l x.entry x.top))
