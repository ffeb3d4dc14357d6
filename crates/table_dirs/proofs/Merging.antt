-- Directories written one after the other in one pass: the room that each needs, and the whole at the end.
use mathlib.Core.Path.{◌≡◌, refl, ap, sym, subst, ◌∙◌}
use mathlib.Core.List.{List, [], ◌∷◌}
use mathlib.Core.Bool.{true}
use Prim.Native.Nat.{ℕ, ◌+◌, ◌-◌, ◌≤◌}
use native.Mathlib.Omega.{arith}
use lib.ListN.{length, take, drop, replicate}
use Rattle.model.specs.Bytes.{Bytes, before}
use Rattle.model.specs.Path.{Path}
use Rattle.model.specs.Map.{put, puts}
use Rattle.model.specs.Tree.{Entry, Table, directory}
use Rattle.model.specs.Table.{encode, padded, entries_at, table_in, is_table}
use Rattle.model.specs.declared.Record.{Record}
use Rattle.table_entries.specs.Place.{end_of}
use Rattle.table_entries.specs.Cut.{up_to}
use Rattle.table_measure.proofs.Intos.{room_next}
use Rattle.table_write.specs.declared.Merge.{Merge}
use Rattle.table_write.specs.Merge.{Merged}
use Rattle.table_write.proofs.Merges.{merge_begun}
use Rattle.table_insert.proofs.Inserts.{rest_fits, same_used, zeros_as_long}
use Rattle.base_paths.specs.Dirs.{climbs}
use Rattle.table_dirs.proofs.Passing.{dirs, Going, going_begun, going_first, going_above, going_whole, going_on, going_over}

-- the pass that writes, with i directories put: w is the work buffer now, and w₀ as it came
pub record Merging (v : Entry) (s w₀ : Bytes) (p : Path) (es : List ℕ) (r : Record) (i : ℕ) (w : Bytes) (x : Merge) : Type 0 where
  pub t : Table
  pub k : Path
  pub going : Going v p es (table_in s r) t k i
  pub merged : Merged s w t k x.left x.at x.out
  pub end : end_of s x.left x.at ≡ end_of s r.count 0
  pub long : length w ≡ length w₀

module _ (m : ℕ) (s w₀ : Bytes) (p : Path) (es : List ℕ) (r : Record) where
  abbrev v : Entry
  v = directory m

  abbrev new : Table
  new = puts (dirs v p es) (table_in s r)

  pub merging_begun : is_table s r ≡ true → climbs 0 (length p) es ≡ true → Merging v s w₀ p es r 0 w₀ (record { at = 0; left = r.count; out = 0 })
  merging_begun h c = record {
    t = table_in s r;
    k = [];
    going = going_begun v p es s r h c;
    merged = merge_begun s w₀ r h;
    end = refl;
    long = refl;
  }

  module _ (i : ℕ) (w : Bytes) (x : Merge) (g : Merging v s w₀ p es r i w x) where
    pub merging_room : (e : ℕ) → drop i es ≡ e ∷ drop (i + 1) es → length (encode new) ≤ length s → length s ≤ length w₀
        → x.out + length (encode (up_to (take e p) (entries_at s x.left x.at))) + (24 + length (take e p) + 0) ≤ length w
    merging_room e n h b =
        let T = table_in s r in
        let q = g.merged.passed in
        let f = room_next s g.t g.k (take e p) v x.left x.at q (dirs v p (drop (i + 1) es)) (going_first v p es T g.t g.k i e g.going n) in
        let a = ap (λ (y : Table). length (encode y)) (going_whole v p es T g.t g.k i e g.going n) in
        let z = g.merged.size in
        let l = g.long in
        omega arith

    pub merging_on : (e : ℕ) (w' : Bytes) (x' : Merge) → drop i es ≡ e ∷ drop (i + 1) es
        → ((t : Table) (k : Path) → Merged s w t k x.left x.at x.out → before k (take e p) ≡ true
        → Merged s w' (put (take e p) v t) (take e p) x'.left x'.at x'.out)
        → length w' ≡ length w → end_of s x'.left x'.at ≡ end_of s x.left x.at
        → Merging v s w₀ p es r (i + 1) w' x'
    merging_on e w' x' n f l y =
        let T = table_in s r in
        record {
          t = put (take e p) v g.t;
          k = take e p;
          going = going_on v p es T g.t g.k i e g.going n;
          merged = f g.t g.k g.merged (going_above v p es T g.t g.k i e g.going n);
          end = y ∙ g.end;
          long = l ∙ g.long;
        }

    -- no end is left
    module _ (h : is_table s r ≡ true) (n : drop i es ≡ []) where
      merging_all : g.t ≡ new
      merging_all = going_over v p es (table_in s r) g.t g.k i g.going n

      pub merging_fits : length (encode new) ≤ length s → length s ≤ length w₀
          → ((x.at ≤ r.used) × (r.used ≤ length s)) × ((x.out + (r.used - x.at) ≤ length s) × (length s ≤ length w))
      merging_fits b c =
          let f : length (encode g.t) ≤ length s = subst (λ (y : Table). length (encode y) ≤ length s) (sym merging_all) b in
          let y = rest_fits s w r g.t g.k x.left x.at x.out h g.merged g.end f in
          let l = g.long in
          (y.0, (y.1, omega arith))

      pub merging_over : (s' : Bytes)
          → ((t : Table) (k : Path) → Merged s w t k x.left x.at x.out → r.used ≡ end_of s x.left x.at → s' ≡ padded (length s) (encode t))
          → s' ≡ padded (length s) (encode new)
      merging_over s' f =
          f g.t g.k g.merged (same_used s r x.left x.at h g.end) ∙ ap (λ (y : Table). padded (length s) (encode y)) merging_all

    pub merging_zeros : (w' : Bytes) → w' ≡ replicate (length w) 0 → w' ≡ replicate (length w₀) 0
    merging_zeros w' e = zeros_as_long w₀ w w' e g.long
