-- The pass that adds what the walk does: what is added, with what is to come, is the whole.
use mathlib.Core.Path.{◌≡◌, refl, ap, sym, ◌∙◌}
use mathlib.Core.List.{List, ◌∷◌}
use mathlib.Core.Bool.{Bool, true, false, ◌||◌}
use Prim.Native.Nat.{ℕ, ◌+◌, ◌*◌, ◌-◌, ◌<◌, ◌≤◌}
use native.Mathlib.Omega.{arith}
use Rattle.model.specs.Bytes.{Bytes}
use Rattle.model.specs.Path.{Path}
use Rattle.model.specs.Map.{only}
use Rattle.model.specs.Tree.{Node, Table, Tree}
use Rattle.model.specs.Listing.{record_at, record_end, node_of}
use Rattle.model.specs.Rename.{stops, uncovered}
use Rattle.rename_uncovered.specs.Ahead.{PartBelow, to_come, ReadyAt, AheadAt}
use Rattle.rename_uncovered.specs.declared.Cursor.{Cursor}
use Rattle.rename_uncovered.proofs.Belows.{few_records}
use Rattle.rename_uncovered.proofs.Passes.{none_to_come, first_to_come}
use Rattle.least_walk.specs.Total.{cost, costs, any_stops}
use Rattle.least_walk.specs.declared.Total.{Total}

-- the sum n and the answer b, with what is to come at `here`, are those of what was to come at `from`
pub record Sums (p s : Bytes) (a : Path) (from : Cursor) (f : List Bool) (n : ℕ) (b : Bool) (here : Cursor)
    (t : Table) (l : Tree) : Type 0 where
  pub ahead : AheadAt p s a t l f here
  pub costs_are : n + costs (to_come t a p here.left here.at) ≡ costs (to_come t a p from.left from.at)
  pub stops_are : (b || any_stops (to_come t a p here.left here.at))
      ≡ any_stops (to_come t a p from.left from.at)

-- the pass began at `from` with the flags g, in a part of `count` records, and has come to `here` with the flags f
pub record Adding (p s : Bytes) (a : Path) (count : ℕ) (g : List Bool) (from : Cursor)
    (f : List Bool) (n : ℕ) (b : Bool) (here : Cursor) : Type 0 where
  pub ready : ReadyAt p s a f here
  pub room : n + 2048 * here.left ≤ 2048 * count
  pub sums : (t : Table) (l : Tree) → AheadAt p s a t l g from → Sums p s a from f n b here t l

pub adding_begun : (p s : Bytes) (a : Path) (count : ℕ) (g : List Bool) (from : Cursor) → ReadyAt p s a g from
    → from.left ≤ count → Adding p s a count g from g 0 false from
adding_begun p s a count g from w h = record {
  ready = w;
  room = omega arith;
  sums = λ t l k. record { ahead = k; costs_are = omega arith; stops_are = refl };
}

or_assoc : (x y z : Bool) → ((x || y) || z) ≡ (x || (y || z))
or_assoc true y z = refl
or_assoc false y z = refl

or_false : (x : Bool) → (x || false) ≡ x
or_false true = refl
or_false false = refl

module _ (p s : Bytes) (a : Path) (count : ℕ) (g : List Bool) (from : Cursor) (f : List Bool) (n : ℕ) (b : Bool)
    (here : Cursor) (w : Adding p s a count g from f n b here) where
  -- no sum is above 2048 for each record of a listing
  pub adding_small : PartBelow p a count → n + 2048 * here.left ≤ 34359738368
  adding_small k = let c = few_records p count k.stand in let r = w.room in omega arith

  pub adding_over : here.left ≤ 0 → (t : Table) (l : Tree) → AheadAt p s a t l g from → (whole : Tree)
      → to_come t a p from.left from.at ≡ whole → (n ≡ costs whole) × (b ≡ any_stops whole)
  adding_over h t l k whole e =
      let u = w.sums t l k in
      let z = none_to_come t a p here.left here.at h in
      let x = ap costs z in
      let y = u.costs_are in
      let v = ap costs e in (
        omega arith,
        sym (or_false b) ∙ sym (ap (λ (x : Tree). b || any_stops x) z) ∙ u.stops_are ∙ ap any_stops e,
      )

  abbrev path : Path
  path = (record_at p here.at).path

  abbrev node : Node
  node = node_of (record_at p here.at)

  -- one node added
  pub adding_on : 0 < here.left → (one : Total) → one.sum ≤ 2048
      → (one.sum ≡ cost path node) × (one.stops ≡ stops node)
      → (f' : List Bool) (next : Cursor) → ReadyAt p s a f' next → next.left < here.left
      → ((t : Table) (l : Tree) → AheadAt p s a t l f here → AheadAt p s a t l f' next
      × (to_come t a p next.left next.at ≡ to_come t a p (here.left - 1) (record_end p here.at)))
      → Adding p s a count g from f' (n + one.sum) (b || one.stops) next
  adding_on h one m e f' next r d c = record {
    ready = r;
    room = (let x = w.room in omega arith);
    sums = λ t l k.
        let u = w.sums t l k in
        let v = c t l u.ahead in
        let q = first_to_come t a p here.left here.at h (u.ahead.here h) in
        let y : to_come t a p here.left here.at ≡ (path, node) ∷ to_come t a p next.left next.at
        = q ∙ ap (λ (xs : Tree). (path, node) ∷ xs) (sym v.1) in
        let i = ap costs y in
        let o = u.costs_are in
        let j = e.0 in
        record {
          ahead = v.0;
          costs_are = omega arith;
          stops_are = or_assoc b one.stops (any_stops (to_come t a p next.left next.at))
              ∙ ap (λ (x : Bool). b || (x || any_stops (to_come t a p next.left next.at))) e.1
              ∙ sym (ap (λ (xs : Tree). b || any_stops xs) y) ∙ u.stops_are;
        };
  }

-- what was told of a part's tree l is told of the tree k that it is
module _ (t : Table) (a : Path) (l k : Tree) (e : l ≡ k) where
  pub costs_of : (n : ℕ) → n ≡ costs (only (uncovered t a) l) → n ≡ costs (only (uncovered t a) k)
  costs_of n h = h ∙ ap (λ (x : Tree). costs (only (uncovered t a) x)) e

  pub stops_of : (b : Bool) → b ≡ any_stops (only (uncovered t a) l) → b ≡ any_stops (only (uncovered t a) k)
  stops_of b h = h ∙ ap (λ (x : Tree). any_stops (only (uncovered t a) x)) e
