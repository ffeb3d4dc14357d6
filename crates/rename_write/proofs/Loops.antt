-- A stretch that is put in one pass over what is carried: each turn puts one entry, and what is left makes the same of the table as all at first.
use mathlib.Core.Path.{◌≡◌, refl, ap, sym, subst, ◌∙◌}
use mathlib.Core.Bool.{Bool, true}
use mathlib.Core.List.{List, [], ◌∷◌, ◌++◌}
use Prim.Native.Nat.{ℕ, ◌≤◌}
use native.Mathlib.Omega.{arith}
use lib.ListN.{length}
use Rattle.model.specs.Bytes.{Bytes, every, before}
use Rattle.model.specs.Path.{Path, below}
use Rattle.model.specs.Map.{ascends, put, only}
use Rattle.model.specs.Tree.{Entry, Table, Tree}
use Rattle.model.specs.Table.{encode}
use Rattle.model.proofs.Orders.{and_true}
use Rattle.listing_records.specs.Place.{tree_at}
use Rattle.table_entries.specs.Place.{end_of}
use Rattle.table_measure.specs.Into.{into}
use Rattle.table_measure.proofs.Intos.{room_next}
use Rattle.table_write.specs.Merge.{Merged}
use Rattle.table_write.specs.declared.Merge.{Merge}
use Rattle.rename_carried.specs.Streams.{carried_below, ahead, remaining, Streaming, Carrying, item_at}
use Rattle.rename_carried.specs.declared.Stream.{Stream}
use Rattle.rename_carried.specs.declared.Head.{Head}
use Rattle.rename_carried.proofs.Steps.{nothing_next}
use Rattle.rename_write.specs.Stretch.{turned, Listed, Room, Put, Puttable, PutAll}

-- one after the other, as both together
pub into_append : (xs ys t : Table) → into (xs ++ ys) t ≡ into ys (into xs t)
into_append [] ys t = refl
into_append (x ∷ xs) ys t = into_append xs ys (put x.0 x.1 t)

module _ (g : Path × Entry → Path × Entry) where
  -- some table t is written up to k, and with what is put for c it is the table `whole`
  pub record Now (s w : Bytes) (c later whole : Table) (x : Merge) : Type 0 where
    pub t : Table
    pub k : Path
    pub merged : Merged s w t k x.left x.at x.out
    pub up : ascends k (turned g c ++ later) ≡ true
    pub makes : into (turned g c) t ≡ whole

  -- the pass at the stream d, the flags being f and the work buffer w; it began at c, f₀ and w₀
  pub record Going (s w₀ own part : Bytes) (a : Path) (f₀ : List Bool) (c : Stream) (x₀ : Merge) (f : List Bool) (w : Bytes) (x : Merge)
      (d : Stream) : Type 0 where
    pub streaming : Streaming own part s a f d
    pub long : length w ≡ length w₀
    pub end : end_of s x.left x.at ≡ end_of s x₀.left x₀.at
    pub carrying : (T : Table) (l : Tree) → Carrying own part s a T l f₀ c → Carrying own part s a T l f d
    pub good : (T : Table) (l : Tree) → Carrying own part s a T l f₀ c → (P : Path × Entry → Bool)
        → every P (ahead T a own part c) ≡ true → every P (ahead T a own part d) ≡ true
    pub now : (T : Table) (l : Tree) → Carrying own part s a T l f₀ c → (t : Table) (k : Path) (later : Table)
        → Merged s w₀ t k x₀.left x₀.at x₀.out → ascends k (turned g (ahead T a own part c) ++ later) ≡ true
        → Now s w (ahead T a own part d) later (into (turned g (ahead T a own part c)) t) x

  module _ (s w₀ own part : Bytes) (a : Path) (f₀ : List Bool) (c : Stream) (x₀ : Merge) where
    pub begin : Streaming own part s a f₀ c → Going s w₀ own part a f₀ c x₀ f₀ w₀ x₀ c
    begin h = record {
      streaming = h;
      long = refl;
      end = refl;
      carrying = λ T l v. v;
      good = λ T l v P e. e;
      now = λ T l v t k later m u. record { t = t; k = k; merged = m; up = u; makes = refl };
    }

    module _ (f : List Bool) (w : Bytes) (x : Merge) (d : Stream) (y : Going s w₀ own part a f₀ c x₀ f w x d) (f' : List Bool) (r : Stream)
        (h : Head)
        (v : (T : Table) (l : Tree) → Carrying own part s a T l f d
        → Carrying own part s a T l f' r × (ahead T a own part d ≡ item_at own part d h ∷ ahead T a own part r)) where
      abbrev item : Path × Entry
      item = item_at own part d h

      -- the item passes a test that all pass
      pub first_good : (T : Table) (l : Tree) → Carrying own part s a T l f₀ c → (P : Path × Entry → Bool)
          → every P (ahead T a own part c) ≡ true → P item ≡ true
      first_good T l u P e =
          let z = (v T l (y.carrying T l u)).1 in
          (and_true (P item) (every P (ahead T a own part r)) (ap (every P) (sym z) ∙ y.good T l u P e)).0

      -- it has room
      pub room : (T : Table) (l : Tree) → Carrying own part s a T l f₀ c → (t : Table) (k : Path) (later : Table)
          → Merged s w₀ t k x₀.left x₀.at x₀.out → ascends k (turned g (ahead T a own part c) ++ later) ≡ true
          → length (encode (into (turned g (ahead T a own part c) ++ later) t)) ≤ length w₀ → Room s w x (g item)
      room T l u t k later m e b =
          let n = y.now T l u t k later m e in
          let C = ahead T a own part c in
          let D = ahead T a own part d in
          let R = ahead T a own part r in
          let z : turned g D ≡ g item ∷ turned g R = ap (turned g) (v T l (y.carrying T l u)).1 in
          let p : ascends n.k (g item ∷ (turned g R ++ later)) ≡ true = ap (λ (o : Table). ascends n.k (o ++ later)) (sym z) ∙ n.up in
          let q : into (g item ∷ (turned g R ++ later)) n.t ≡ into (turned g C ++ later) t =
          ap (λ (o : Table). into (o ++ later) n.t) (sym z)
          ∙ into_append (turned g D) later n.t
          ∙ ap (into later) n.makes
          ∙ sym (into_append (turned g C) later t) in
          let j = room_next s n.t n.k (g item).0 (g item).1 x.left x.at n.merged.passed (turned g R ++ later) p in
          let i = ap (λ (o : Table). length (encode o)) q in
          let o = n.merged.size in
          let long = y.long in
          record { stand = n.merged.passed.stand; fits = omega arith }

      -- and once it is put, the pass goes on behind it
      pub on : (w' : Bytes) (x' : Merge) → Streaming own part s a f' r → Put s w w' x x' (g item) → Going s w₀ own part a f₀ c x₀ f' w' x' r
      on w' x' st p = record {
        streaming = st;
        long = p.long ∙ y.long;
        end = p.end ∙ y.end;
        carrying = λ T l u. (v T l (y.carrying T l u)).0;
        good = λ T l u P e.
            let z = (v T l (y.carrying T l u)).1 in
            (and_true (P item) (every P (ahead T a own part r)) (ap (every P) (sym z) ∙ y.good T l u P e)).1;
        now = λ T l u t k later m e.
            let n = y.now T l u t k later m e in
            let D = ahead T a own part d in
            let R = ahead T a own part r in
            let z : turned g D ≡ g item ∷ turned g R = ap (turned g) (v T l (y.carrying T l u)).1 in
            let q : ascends n.k (g item ∷ (turned g R ++ later)) ≡ true = ap (λ (o : Table). ascends n.k (o ++ later)) (sym z) ∙ n.up in
            let b = and_true (before n.k (g item).0) (ascends (g item).0 (turned g R ++ later)) q in
            record {
              t = put (g item).0 (g item).1 n.t;
              k = (g item).0;
              merged = p.merged n.t n.k n.merged b.0;
              up = b.1;
              makes = ap (λ (o : Table). into o n.t) (sym z) ∙ n.makes;
            };
      }

  -- nothing is left
  module _ (s w₀ own part : Bytes) (a : Path) (f₀ : List Bool) (c : Stream) (x₀ : Merge) (f : List Bool) (w : Bytes) (x : Merge) (d : Stream)
      (y : Going s w₀ own part a f₀ c x₀ f w x d) (T : Table) (n : ℕ) where
    pub over : remaining d ≤ 0 → (lp : Tree) → Carrying own part s a T lp f₀ c
        → ((l : Tree) → ascends [] l ≡ true → tree_at part n 0 ≡ only (below a) l
        → ahead T a own part c ≡ carried_below T l a) → PutAll g s w₀ w part T a n x₀ x
    over h lp u is = record {
      merged = λ l t k later b m e.
          let C = ahead T a own part c in
          let eq : C ≡ carried_below T l a = is l b.up b.are in
          let z : ahead T a own part d ≡ [] =
          nothing_next own part T a d.entries.left d.entries.at d.listed.left d.listed.at (omega arith) (omega arith) in
          let q = y.now T lp u t k later m (ap (λ (o : Table). ascends k (turned g o ++ later)) eq ∙ e) in
          let i : q.t ≡ into (turned g (carried_below T l a)) t =
          sym (ap (λ (o : Table). into (turned g o) q.t) z) ∙ q.makes ∙ ap (λ (o : Table). into (turned g o) t) eq in
          record {
            k = q.k;
            merged = subst (λ (o : Table). Merged s w o q.k x.left x.at x.out) i q.merged;
            up = sym (ap (λ (o : Table). ascends q.k (turned g o ++ later)) z) ∙ q.up;
          };
      long = y.long;
      end = y.end;
    }

  -- room for the whole, by what is to come at the first
  pub room_at_first : (s w₀ own part : Bytes) (a : Path) (f₀ : List Bool) (c : Stream) (x₀ : Merge) (f : List Bool) (w : Bytes) (x : Merge)
      (d : Stream)
      (y : Going s w₀ own part a f₀ c x₀ f w x d) (f' : List Bool) (r : Stream) (h : Head)
      → ((T : Table) (l : Tree) → Carrying own part s a T l f d
      → Carrying own part s a T l f' r × (ahead T a own part d ≡ item_at own part d h ∷ ahead T a own part r))
      → (T : Table) (n : ℕ) (lp : Tree) → Carrying own part s a T lp f₀ c
      → ((l : Tree) → ascends [] l ≡ true → tree_at part n 0 ≡ only (below a) l
      → ahead T a own part c ≡ carried_below T l a)
      → Puttable g s w₀ part T a n x₀ → Room s w x (g (item_at own part d h))
  room_at_first s w₀ own part a f₀ c x₀ f w x d y f' r h v T n lp u is p =
      let eq = is p.l p.listed.up p.listed.are in
      room s w₀ own part a f₀ c x₀ f w x d y f' r h v T lp u p.t p.k p.later p.merged
      (ap (λ (o : Table). ascends p.k (turned g o ++ p.later)) eq ∙ p.up)
      (subst (λ (o : Table). length (encode (into (turned g o ++ p.later) p.t)) ≤ length w₀) (sym eq) p.room)

  -- a test that all pass, by what is to come at the first
  pub good_at_first : (s w₀ own part : Bytes) (a : Path) (f₀ : List Bool) (c : Stream) (x₀ : Merge) (f : List Bool) (w : Bytes) (x : Merge)
      (d : Stream)
      (y : Going s w₀ own part a f₀ c x₀ f w x d) (f' : List Bool) (r : Stream) (h : Head)
      → ((T : Table) (l : Tree) → Carrying own part s a T l f d
      → Carrying own part s a T l f' r × (ahead T a own part d ≡ item_at own part d h ∷ ahead T a own part r))
      → (T : Table) (n : ℕ) (lp : Tree) → Carrying own part s a T lp f₀ c
      → ((l : Tree) → ascends [] l ≡ true → tree_at part n 0 ≡ only (below a) l → ahead T a own part c ≡ carried_below T l a)
      → (P : Path × Entry → Bool) (l : Tree) → Listed part a n l → every P (carried_below T l a) ≡ true
      → P (item_at own part d h) ≡ true
  good_at_first s w₀ own part a f₀ c x₀ f w x d y f' r h v T n lp u is P l b all =
      first_good s w₀ own part a f₀ c x₀ f w x d y f' r h v T lp u P (ap (every P) (is l b.up b.are) ∙ all)

-- all pass where each passes
pub all_pass : (xs : Table) → every (λ x. true) xs ≡ true
all_pass [] = refl
all_pass (x ∷ xs) = all_pass xs
