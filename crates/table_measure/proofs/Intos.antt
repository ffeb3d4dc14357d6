-- Entries with ascending keys, put one after the other: the same as all together, and what is before them stays before them.
-- Assumes nothing, but for `into_puts`: a table and entries whose keys ascend.
use mathlib.Core.Path.{◌≡◌, refl, ap, sym, ◌∙◌}
use mathlib.Core.List.{[], ◌∷◌, ◌++◌}
use mathlib.Core.Bool.{true}
use mathlib.Core.Option.{none}
use Prim.Native.Nat.{ℕ, ◌+◌, ◌≤◌}
use native.Mathlib.Omega.{arith}
use lib.ListN.{length}
use Rattle.model.specs.Bytes.{Bytes, before}
use Rattle.model.specs.Path.{Path}
use Rattle.model.specs.Map.{Map, lookup, ascends, put, puts}
use Rattle.model.specs.Tree.{Entry, Table}
use Rattle.model.specs.Table.{body_of, encode, entries_at}
use Rattle.model.proofs.Orders.{Split, split, and_true}
use Rattle.model.proofs.Maps.{Ascending, or_else, lookup_put, lookup_puts, lookup_low, ascending_put, ascending_puts, map_ext}
use Rattle.table_entries.specs.Cut.{up_to, behind}
use Rattle.table_measure.specs.Measure.{Passed}
use Rattle.table_measure.specs.Into.{into}
use Rattle.table_measure.proofs.Passes.{put_passed, all_before, before_trans, beyond, put_parts, low_on, bytes_append, bytes_cons}

module _ {A : Type 0} where
  pub ascending_into : (xs m : Map A) → Ascending m → Ascending (into xs m)
  ascending_into [] m h = h
  ascending_into (x ∷ xs) m h = ascending_into xs (put x.0 x.1 m) (ascending_put x.0 x.1 m h)

  pub lookup_into : (xs m : Map A) (q : Path) → Ascending xs → lookup (into xs m) q ≡ or_else (lookup xs q) (lookup m q)
  lookup_into [] m q h = refl
  lookup_into (x ∷ xs) m q h =
      let i = lookup_into xs (put x.0 x.1 m) q h.1 in
      let p = lookup_put x.0 x.1 m q in
      elim (split x.0 q) [
        | Split.eq e w ↦
            let l : lookup xs q ≡ none = ap (lookup xs) (sym e) ∙ lookup_low x.0 xs h.0 h.1 in
            i ∙ rw (l, p, w)
        | Split.ne n w ↦ i ∙ rw (p, w)
      ]

  pub into_puts : (xs m : Map A) → Ascending xs → Ascending m → into xs m ≡ puts xs m
  into_puts xs m h g =
      map_ext (into xs m) (puts xs m) (ascending_into xs m g) (ascending_puts xs m g) (λ q. lookup_into xs m q h ∙ sym (lookup_puts xs m q))

-- entries with keys behind k leave alone what is passed up to k
pub into_passed : (xs : Table) (k : Path) (done b : Table) → ((q : Path) → before k q ≡ true → all_before q done ≡ true) → ascends k xs ≡ true
    → into xs (done ++ b) ≡ done ++ into xs b
into_passed [] k done b low h = refl
into_passed (x ∷ xs) k done b low h =
    let e = and_true (before k x.0) (ascends x.0 xs) h in
    ap (into xs) (put_passed x.0 x.1 done b (low x.0 e.0))
    ∙ into_passed xs x.0 done (put x.0 x.1 b) (λ q g. low q (before_trans k x.0 q e.0 g)) e.1

-- what is written once v is put at q is a part of what will be there in the end
pub room_next : (s : Bytes) (t : Table) (k q : Path) (v : Entry) (left at : ℕ) (p : Passed s t k left at) (xs : Table) → ascends k ((q, v) ∷ xs) ≡ true
    → length (encode p.done) + length (encode (up_to q (entries_at s left at))) + (24 + length q + length (body_of v)) ≤ length (encode (into ((q, v) ∷ xs) t))
room_next s t k q v left at p xs h =
    let e = and_true (before k q) (ascends q xs) h in
    let ahead : Table = entries_at s left at in
    let new : Table = beyond p.done q v ahead in
    let f : into ((q, v) ∷ xs) t ≡ new ++ into xs (behind q ahead) =
    ap (into xs) (put_parts s t k q v left at p e.0) ∙ into_passed xs q new (behind q ahead) (low_on s t k q v left at p e.0) e.1 in
    let a = ap (λ (x : Table). length (encode x)) f ∙ bytes_append 0 new (into xs (behind q ahead)) in
    let b = bytes_append 0 p.done (up_to q ahead ++ ((q, v) ∷ [])) in
    let c = bytes_append 0 (up_to q ahead) ((q, v) ∷ []) in
    let d = bytes_cons 0 q v [] in
    omega arith
