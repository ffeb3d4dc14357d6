-- Stretches one behind the other, and stretches of one entry.
use mathlib.Core.Path.{◌≡◌, refl, ap, sym, subst, ◌∙◌}
use mathlib.Core.Bool.{Bool, true, false, cond}
use mathlib.Core.Logic.{◌⊎◌, inl, inr}
use mathlib.Core.List.{List, [], ◌∷◌, ◌++◌, append_assoc, append-nil}
use mathlib.Core.Option.{Option, none, some}
use Prim.Native.Nat.{ℕ, zero, suc, ◌+◌, ◌-◌, ◌≤◌, ◌<◌}
use native.Mathlib.Omega.{arith}
use lib.Dec.{eqb}
use lib.ListN.{length}
use Rattle.std.specs.Prelude as code
use Rattle.model.specs.Bytes.{Bytes, every, same, before}
use Rattle.model.specs.Path.{Path}
use Rattle.model.specs.Map.{is_none, lookup, ascends}
use Rattle.model.specs.Tree.{Node, Entry, reference, directory, deleted, Table}
use Rattle.model.specs.Listing.{ListingRecord, records, node_of, tree_from, tree_in, is_listing}
use Rattle.model.specs.Rename.{as_entry}
use Rattle.model.specs.Table.{key_at, entry_at, entries_at, encode, padded, table_in, is_table}
use Rattle.model.specs.declared.Record.{Record}
use Rattle.model.proofs.Orders.{Split, split, bot, and_true, yea, nay, test, has_none, is_some, opt}
use Rattle.model.proofs.Maps.{ascends_is}
use Rattle.base_fields.specs.Read.{part}
use Rattle.listing_records.specs.Found.{found_of}
use Rattle.listing_records.specs.declared.Found.{Found}
use Rattle.listing_records.specs.declared.Found.TheVariants as found
use Rattle.listing_records.specs.Parts.{PartOf}
use Rattle.table_entries.specs.Place.{Standing, Sought, end_of}
use Rattle.table_entries.specs.Cut.{first_if}
use Rattle.table_entries.specs.declared.Place.{Place}
use Rattle.table_entries.proofs.Cuts.{lookup_first}
use Rattle.table_measure.specs.Into.{into}
use Rattle.table_measure.proofs.Intos.{room_next}
use Rattle.table_write.specs.Merge.{Written, Merged}
use Rattle.table_write.specs.declared.Merge.{Merge}
use Rattle.table_write.proofs.Merges.{merge_begun}
use Rattle.table_insert.proofs.Inserts.{rest_fits, same_used}
use Rattle.rename_carried.proofs.Items.{part_of_listing}
use Rattle.rename_write.specs.Stretch.{movable, turned, Listed, Movables, Room, Put, Puttable, Behind, PutAll}
use Rattle.rename_write.specs.Sequence.{Fits, AllPut, lower, top_of}
use Rattle.rename_write.proofs.Loops.{into_append}

-- nothing
pub none_put : (s w : Bytes) (x : Merge) → AllPut s w w [] x x
none_put s w x = record { merged = λ t k later m u. record { k = k; merged = m; up = u }; long = refl; end = refl }

-- one entry
pub one_room : (s w : Bytes) (x : Merge) (i : Path × Entry) → Fits s w (i ∷ []) x → Room s w x i
one_room s w x i f =
    let r = room_next s f.t f.k i.0 i.1 x.left x.at f.merged.passed f.later f.up in
    let z = f.merged.size in
    let b = f.room in
    record { stand = f.merged.passed.stand; fits = omega arith }

pub one_put : (s w w' : Bytes) (x x' : Merge) (i : Path × Entry) → Put s w w' x x' i → AllPut s w w' (i ∷ []) x x'
one_put s w w' x x' i p = record {
  merged = λ t k later m u.
      let e = and_true (before k i.0) (ascends i.0 later) u in
      record { k = i.0; merged = p.merged t k m e.0; up = e.1 };
  long = p.long;
  end = p.end;
}

-- two stretches
module _ (s w : Bytes) (x : Merge) (xs ys : Table) where
  pub fits_first : Fits s w (xs ++ ys) x → Fits s w xs x
  fits_first f =
      let e = append_assoc xs ys f.later in
      record {
        t = f.t;
        k = f.k;
        later = ys ++ f.later;
        merged = f.merged;
        up = ap (ascends f.k) (sym e) ∙ f.up;
        room = subst (λ (o : Table). length (encode (into o f.t)) ≤ length w) e f.room;
      }

  module _ (w' : Bytes) (x' : Merge) (p : AllPut s w w' xs x x') where
    pub fits_second : Fits s w (xs ++ ys) x → Fits s w' ys x'
    fits_second f =
        let e = append_assoc xs ys f.later in
        let b = p.merged f.t f.k (ys ++ f.later) f.merged (ap (ascends f.k) (sym e) ∙ f.up) in
        let r : length (encode (into (ys ++ f.later) (into xs f.t))) ≤ length w =
        subst (λ (o : Table). length (encode o) ≤ length w) (ap (λ (o : Table). into o f.t) e ∙ into_append xs (ys ++ f.later) f.t)
        f.room in
        let l = p.long in
        record { t = into xs f.t; k = b.k; later = f.later; merged = b.merged; up = b.up; room = omega arith }

    pub both_put : (w'' : Bytes) (x'' : Merge) → AllPut s w' w'' ys x' x'' → AllPut s w w'' (xs ++ ys) x x''
    both_put w'' x'' q = record {
      merged = λ t k later m u.
          let e = append_assoc xs ys later in
          let b = p.merged t k (ys ++ later) m (ap (ascends k) (sym e) ∙ u) in
          let d = q.merged (into xs t) b.k later b.merged b.up in
          record {
            k = d.k;
            merged = subst (λ (o : Table). Merged s w'' o d.k x''.left x''.at x''.out) (sym (into_append xs ys t)) d.merged;
            up = d.up;
          };
      long = q.long ∙ p.long;
      end = q.end ∙ p.end;
    }

-- what is carried from below a, with the listing s and its part
module _ (g : Path × Entry → Path × Entry) (s w p : Bytes) (T : Table) (a : Path) (from to n : ℕ) (x : Merge) (whole : Bool)
    (h : is_listing p ≡ true) (o : PartOf p a from to n) where
  listed : Listed (part p from to) a n (tree_in p)
  listed = let y = part_of_listing p a from to n h o in record { up = y.0; are = y.1 }

  pub lower_fits : whole ≡ true → Fits s w (turned g (lower whole T (tree_in p) a)) x → Puttable g s w (part p from to) T a n x
  lower_fits e f =
      let j = ap (λ (b : Bool). turned g (lower b T (tree_in p) a)) e in
      record {
        l = tree_in p;
        t = f.t;
        k = f.k;
        later = f.later;
        listed = listed;
        merged = f.merged;
        up = ap (λ (c : Table). ascends f.k (c ++ f.later)) (sym j) ∙ f.up;
        room = subst (λ (c : Table). length (encode (into (c ++ f.later) f.t)) ≤ length w) j f.room;
      }

  pub lower_put : whole ≡ true → (w' : Bytes) (x' : Merge) → PutAll g s w w' (part p from to) T a n x x'
      → AllPut s w w' (turned g (lower whole T (tree_in p) a)) x x'
  lower_put e w' x' q =
      let j = ap (λ (b : Bool). turned g (lower b T (tree_in p) a)) e in
      subst (λ (c : Table). AllPut s w w' c x x') (sym j) (record {
        merged = λ t k later m u. q.merged (tree_in p) t k later listed m u;
        long = q.long;
        end = q.end;
      })

pub lower_movables : (p : Bytes) (T : Table) (a b : Path) (from to n : ℕ) (whole : Bool) → is_listing p ≡ true → PartOf p a from to n → whole ≡ true
    → every (movable a b) (lower whole T (tree_in p) a) ≡ true → Movables (part p from to) T a b n
lower_movables p T a b from to n whole h o e m =
    let y = part_of_listing p a from to n h o in
    record {
      l = tree_in p;
      listed = record { up = y.0; are = y.1 };
      all = ap (λ (x : Bool). every (movable a b) (lower x T (tree_in p) a)) (sym e) ∙ m;
    }

-- the first of the entries that were sought, if it has the key
first_there : (s : Bytes) (a : Path) (m to : ℕ) → is_none (first_if a (entries_at s m to)) ≡ false
    → (0 < m) × (first_if a (entries_at s m to) ≡ some (entry_at s to))
first_there s a zero to h = absurd (bot (cc))
first_there s a (suc m) to h = elim (test (same (key_at s to) a)) [
  | yea e ↦ (omega arith, cc)
  | nay e ↦ let g : true ≡ false = rw e at h in absurd
      (bot (cc))
]

-- the entry carried from a itself: what is listed, where the table has none
module _ (s : Bytes) (r : Record) (q : Place) (a : Path) (b : Bool) (e : q ≡ record { at = 0; left = r.count })
    (f : b ≡ is_none (lookup (entries_at s q.left q.at) a)) (n : Option Node) where
  pub top_listed : b ≡ true → top_of none n ≡ top_of (lookup (table_in s r) a) n
  top_listed h =
      let g : is_none (lookup (table_in s r) a) ≡ true =
      ap (λ (o : Place). is_none (lookup (entries_at s o.left o.at) a)) (sym e) ∙ sym f ∙ h in
      elim (opt (lookup (table_in s r) a)) [ has_none z ↦ cc | is_some y z ↦ absurd (bot (cc)) ]

  -- the table's own, where it has one
  pub top_stored : b ≡ false → Standing s q.left q.at → (m to : ℕ) → Sought s a q.left q.at m to
      → (0 < m) × (entry_at s to ≡ top_of (lookup (table_in s r) a) n)
  top_stored h st m to w =
      let t = entries_at s q.left q.at in
      let z : lookup t a ≡ first_if a (entries_at s m to) =
      lookup_first a t (ascends_is [] t st.up).1 ∙ ap (first_if a) (sym w.are) in
      let y = first_there s a m to (ap is_none (sym z) ∙ sym f ∙ h) in
      let u : lookup (table_in s r) a ≡ some (entry_at s to) =
      ap (λ (o : Place). lookup (entries_at s o.left o.at) a) (sym e) ∙ z ∙ y.1 in
      (y.0, sym (ap (λ (o : Option Entry). top_of o n) u))

-- a stretch of one entry, by another name of that entry
pub one_fits : (s w : Bytes) (x : Merge) (b : Path) (e f : Entry) → e ≡ f → Fits s w ((b, f) ∷ []) x → Fits s w ((b, e) ∷ []) x
one_fits s w x b e f h y = subst (λ (o : Entry). Fits s w ((b, o) ∷ []) x) (sym h) y

pub one_done : (s w w' : Bytes) (x x' : Merge) (b : Path) (e f : Entry) → e ≡ f → AllPut s w w' ((b, e) ∷ []) x x' → AllPut s w w' ((b, f) ∷ []) x x'
one_done s w w' x x' b e f h y = subst (λ (o : Entry). AllPut s w w' ((b, o) ∷ []) x x') h y

-- what is listed, as an entry, from what `find` tells
abbrev pub found_entry : code.Option Found → Path → Entry
found_entry (code.Some (found.Directory m)) p = directory m
found_entry (code.Some (found.File m z)) p = reference m z p
found_entry (code.Some found.Link) p = deleted
found_entry code.None p = deleted

node_entry : (r : ListingRecord) (p : Path) → r.path ≡ p → found_entry (found_of (some (node_of r))) p ≡ as_entry (node_of r)
node_entry r p e = elim (test (eqb r.type 1)) [
  | yea h ↦ rw h
  | nay h ↦ elim (test (eqb r.type 2)) [ yea g ↦ rw (h, g) (ap (reference r.mtime r.size) (sym e)) | nay g ↦ rw (h, g) ]
]

found_entry_lem : (rs : List ListingRecord) (p : Path) → found_entry (found_of (lookup (tree_from rs) p)) p ≡ top_of none (lookup (tree_from rs) p)
found_entry_lem [] p = refl
found_entry_lem (r ∷ rs) p = elim (split r.path p) [ Split.eq e w ↦ rw w (node_entry r p e) | Split.ne e w ↦ rw w (found_entry_lem rs p) ]

pub told_entry : (s : Bytes) (p : Path) (f x : code.Option Found) → f ≡ found_of (lookup (tree_in s) p) → f ≡ x → found_entry x p ≡ top_of none (lookup (tree_in s) p)
told_entry s p f x h e = ap (λ (o : code.Option Found). found_entry o p) (sym e ∙ h) ∙ found_entry_lem (records s) p

pub told_some : (s : Bytes) (p : Path) (f : code.Option Found) (y x : Found) → f ≡ found_of (lookup (tree_in s) p) → f ≡ code.Some y → y ≡ x
    → found_entry (code.Some x) p ≡ top_of none (lookup (tree_in s) p)
told_some s p f y x h e d = told_entry s p f (code.Some x) h (e ∙ ap (λ (o : Found). code.Some o) d)

pub told_deleted : (s : Bytes) (p : Path) (f : code.Option Found) → f ≡ found_of (lookup (tree_in s) p) → (f ≡ code.Some found.Link) ⊎ (f ≡ code.None)
    → deleted ≡ top_of none (lookup (tree_in s) p)
told_deleted s p f h (inl e) = told_entry s p f (code.Some found.Link) h e
told_deleted s p f h (inr e) = told_entry s p f code.None h e

pub directory_written : (m : ℕ) → Written 3 m 0 []
directory_written m = record { type = refl; time = refl; long = refl; content = refl }

pub reference_written : (m z : ℕ) (b : Bytes) → Written 2 m z b
reference_written m z b = record { type = refl; time = refl; long = refl; content = refl }

-- which of four lists it is
module _ (q r o : Bool) (w x y z : Table) where
  abbrev pub chosen : Table
  chosen = cond q (cond r w x) (cond o y z)

-- all of it, from the first entry on
module _ (s w₀ : Bytes) (r : Record) (xs : Table) (h : is_table s r ≡ true) (u : ascends [] xs ≡ true) where
  u_nil : ascends [] (xs ++ []) ≡ true
  u_nil = ap (ascends []) (append-nil xs) ∙ u

  pub fits_begun : length (encode (into xs (table_in s r))) ≤ length s → length s ≤ length w₀ → Fits s w₀ xs
      (record { at = 0; left = r.count; out = 0 })
  fits_begun b c =
      let d : length (encode (into (xs ++ []) (table_in s r))) ≤ length s =
      subst (λ (o : Table). length (encode (into o (table_in s r))) ≤ length s) (sym (append-nil xs)) b in
      record { t = table_in s r; k = []; later = []; merged = merge_begun s w₀ r h; up = u_nil; room = omega arith }

  module _ (w : Bytes) (x : Merge) (p : AllPut s w₀ w xs (record { at = 0; left = r.count; out = 0 }) x) where
    done : Behind s w (into xs (table_in s r)) [] x
    done = p.merged (table_in s r) [] [] (merge_begun s w₀ r h) u_nil

    pub done_fits : length (encode (into xs (table_in s r))) ≤ length s → length s ≤ length w₀
        → ((x.at ≤ r.used) × (r.used ≤ length s)) × ((x.out + (r.used - x.at) ≤ length s) × (length s ≤ length w))
    done_fits b c =
        let y = rest_fits s w r (into xs (table_in s r)) done.k x.left x.at x.out h done.merged p.end b in
        let l = p.long in
        (y.0, (y.1, omega arith))

    pub done_over : (s' : Bytes)
        → ((t : Table) (k : Path) → Merged s w t k x.left x.at x.out → r.used ≡ end_of s x.left x.at → s' ≡ padded (length s)
        (encode t))
        → s' ≡ padded (length s) (encode (into xs (table_in s r)))
    done_over s' f = f (into xs (table_in s r)) done.k done.merged (same_used s r x.left x.at h p.end)
