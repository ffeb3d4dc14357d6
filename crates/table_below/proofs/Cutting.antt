-- The entries below a directory are those from its path with a slash up to its path with '0', and their bytes have them alone.
use mathlib.Core.Path.{◌≡◌, refl, ap, sym, ◌∙◌}
use mathlib.Core.Bool.{true, false}
use mathlib.Core.List.{[], ◌∷◌, ◌++◌, append_assoc, append-nil}
use Prim.Native.Nat.{ℕ, zero, suc, ◌+◌, ◌-◌, ◌≤◌}
use native.Mathlib.Omega.{arith}
use lib.ListN.{length, take, drop, length-append}
use lib.Seq.{take-append_seam}
use Rattle.model.specs.Bytes.{Bytes, every, before}
use Rattle.model.specs.Path.{Path, below}
use Rattle.model.specs.Map.{ascends, only}
use Rattle.model.specs.Tree.{Entry, own, reference, directory, deleted, Table}
use Rattle.model.specs.Table.{mtime_of, encode, key_at, entry_at, entry_end, entries_at, table_in, formed_entry}
use Rattle.model.specs.declared.Record.{Record}
use Rattle.model.proofs.Orders.{Lt, Lt_trans, yea, nay, test, bot, and_true, below_range}
use Rattle.model.proofs.Maps.{Ascending, ascends_is}
use Rattle.model.specs.Runs.{Word}
use Rattle.model.proofs.Words.{Worded, Words}
use Rattle.model.proofs.Codec.{read_table}
use Rattle.base_fields.specs.Read.{part}
use Rattle.base_fields.proofs.Common.{before_Lt, Lt_before}
use Rattle.table_entries.specs.Place.{Standing, Sought}
use Rattle.table_entries.specs.Cut.{up_to, since}
use Rattle.table_entries.specs.declared.Place.{Place}
use Rattle.table_entries.proofs.Entries.{stands, count_is, standing_length}
use Rattle.table_entries.proofs.Cuts.{up_since, encode_append}
use Rattle.table_below.specs.Parts.{PartOf}

-- what is above a path that is not before k is not before k
still : (p q k : Path) → before p k ≡ false → Lt p q → before q k ≡ false
still p q k h l = elim (test (before q k)) [
  | yea z ↦ absurd (bot (cc (Lt_before p k (Lt_trans p q k l (before_Lt q k z)))))
  | nay z ↦ z
]

-- below d, as the two cuts have it
module _ (d : Path) where
  abbrev a : Path
  a = d ++ (47 ∷ [])

  abbrev b : Path
  b = d ++ (48 ∷ [])

  low : (k : Path) → before k a ≡ true → below d k ≡ false
  low k h = below_range d k ∙ rw h

  mid : (k : Path) → before k a ≡ false → before k b ≡ true → below d k ≡ true
  mid k h g = below_range d k ∙ rw (h, g)

  high : (k : Path) → before k a ≡ false → before k b ≡ false → below d k ≡ false
  high k h g = below_range d k ∙ rw (h, g)

  none_high : (x : Path × Entry) (xs : Table) → before x.0 a ≡ false → before x.0 b ≡ false → Ascending (x ∷ xs) → only (below d) (x ∷ xs) ≡ []
  none_high x [] h g u = rw (high x.0 h g)
  none_high x (y ∷ ys) h g u =
      rw (high x.0 h g) (none_high y ys (still x.0 y.0 a h u.0) (still x.0 y.0 b g u.0) u.1)

  from_low : (x : Path × Entry) (xs : Table) → before x.0 a ≡ false → Ascending (x ∷ xs) → only (below d) (x ∷ xs) ≡ up_to b (x ∷ xs)
  from_low x [] h u = elim (test (before x.0 b)) [ yea g ↦ rw (mid x.0 h g, g) | nay g ↦ rw (high x.0 h g, g) ]
  from_low x (y ∷ ys) h u = elim (test (before x.0 b)) [
    | yea g ↦ rw (mid x.0 h g, g) (ap (λ (l : Table). x ∷ l) (from_low y ys (still x.0 y.0 a h u.0) u.1))
    | nay g ↦ none_high x (y ∷ ys) h g u ∙ rw g
  ]

  pub only_below : (t : Table) → Ascending t → only (below d) t ≡ up_to b (since a t)
  only_below [] u = refl
  only_below (x ∷ xs) u = elim (test (before x.0 a)) [
    | yea h ↦ rw (low x.0 h, h) (only_below xs u.1)
    | nay h ↦ from_low x xs h u ∙ rw h
  ]

-- the front of entries that stand somewhere stands there too
entries_take : (s : Bytes) (c m at : ℕ) → c ≤ m → entries_at s c at ≡ take c (entries_at s m at)
entries_take s zero m at h = refl
entries_take s (suc c) zero at h = absurd (omega arith)
entries_take s (suc c) (suc m) at h = ap (λ (l : Table). (key_at s at, entry_at s at) ∷ l) (entries_take s c m (entry_end s at) (omega arith))

ascends_front : (p : Path) (t u : Table) → ascends p (t ++ u) ≡ true → ascends p t ≡ true
ascends_front p [] u h = refl
ascends_front p (x ∷ xs) u h =
    let e = and_true (before p x.0) (ascends x.0 (xs ++ u)) h in
    rw e.0 (ascends_front x.0 xs u e.1)

formed_front : (t u : Table) → every formed_entry (t ++ u) ≡ true → every formed_entry t ≡ true
formed_front [] u h = refl
formed_front (x ∷ xs) u h =
    let e = and_true (formed_entry x) (every formed_entry (xs ++ u)) h in
    rw e.0 (formed_front xs u e.1)

-- the numbers of entries that stand somewhere are of 64 bits
worded : (e : Entry) → Word (mtime_of e) → Worded e
worded (own m c) h = h
worded (reference m z p) h = h
worded (directory m) h = h
worded deleted h = tt

words : (s : Bytes) (n at : ℕ) → Standing s n at → Words (entries_at s n at)
words s zero at w = tt
words s (suc n) at w =
    let d = stands s n at w in
    (worded (entry_at s at) d.word, words s n (entry_end s at) d.next)

-- the entries t stand from `at` on, with the entries u behind them
module _ (s : Bytes) (m at : ℕ) (w : Standing s m at) (t u : Table) (e : entries_at s m at ≡ t ++ u) (c : ℕ) (f : c ≡ length t) where
  few : c ≤ m
  few = let a = count_is s m at in let b = ap length e in let l = length-append t u in omega arith

  front : entries_at s c at ≡ t
  front = entries_take s c m at few ∙ ap (take c) e ∙ ap (λ (i : ℕ). take i (t ++ u)) f ∙ take-append_seam t u

  bytes_there : drop at s ≡ encode t ++ (encode u ++ w.rest)
  bytes_there = w.bytes ∙ ap (λ (l : Table). encode l ++ w.rest) e ∙ ap (λ (l : Bytes). l ++ w.rest) (encode_append t u)
      ∙ append_assoc (encode t) (encode u) w.rest

  up_there : ascends [] t ≡ true
  up_there = ascends_front [] t u (sym (ap (ascends []) e) ∙ w.up)

  formed_there : every formed_entry t ≡ true
  formed_there = formed_front t u (sym (ap (every formed_entry) e) ∙ w.formed)

  stand_front : Standing s c at
  stand_front = record {
    small = w.small;
    within = w.within;
    rest = encode u ++ w.rest;
    bytes = bytes_there ∙ ap (λ (l : Table). encode l ++ (encode u ++ w.rest)) (sym front);
    up = ap (ascends []) front ∙ up_there;
    formed = ap (every formed_entry) front ∙ formed_there;
  }

  module _ (to : ℕ) (g : to ≡ at + length (encode t)) where
    to_in : to ≤ length s
    to_in = let l = standing_length s c at stand_front in let z = ap (λ (q : Table). length (encode q)) front in omega arith

    part_is : part s at to ≡ encode t
    part_is =
        let z : to - at ≡ length (encode t) = omega arith in
        ap (λ (i : ℕ). take i (drop at s)) z ∙ ap (take (length (encode t))) bytes_there ∙ take-append_seam (encode t) (encode u ++ w.rest)

    short : length (encode t) ≤ 16777216
    short = let l = to_in in let z = w.small in omega arith

    words_there : Words t
    words_there = rw front at (words s c at stand_front)

    alone : entries_at (encode t) c 0 ≡ t
    alone =
        let l = short in
        let r : entries_at (encode t ++ []) (length t) 0 ≡ t = read_table t [] [] formed_there words_there (omega arith) in
        let q : entries_at (encode t) (length t) 0 ≡ t = rw (append-nil (encode t)) at r in
        ap (λ (i : ℕ). entries_at (encode t) i 0) f ∙ q

    stand_alone : Standing (encode t) c 0
    stand_alone = record {
      small = short;
      within = omega arith;
      rest = [];
      bytes = sym (append-nil (encode t)) ∙ ap (λ (l : Table). encode l ++ []) (sym alone);
      up = ap (ascends []) alone ∙ up_there;
      formed = ap (every formed_entry) alone ∙ formed_there;
    }

    pub front_part : (x : Table) (d : Path) → t ≡ only (below d) x → PartOf s x d at to c
    front_part x d h = record {
      start = omega arith;
      end = to_in;
      stand = rw part_is stand_alone;
      are = ap (λ (l : Bytes). entries_at l c 0) part_is ∙ alone ∙ h;
      stand_there = stand_front;
      there = front ∙ h;
    }

-- the entries from the slash on, m of them, and those from the '0' on, k of them: the difference is the part
module _ (s : Bytes) (d : Path) (m from k to : ℕ) (v : Sought s (d ++ (48 ∷ [])) m from k to) where
  abbrev inner : Table
  inner = up_to (d ++ (48 ∷ [])) (entries_at s m from)

  parted : entries_at s m from ≡ inner ++ entries_at s k to
  parted = sym (up_since (d ++ (48 ∷ [])) (entries_at s m from)) ∙ ap (λ (l : Table). inner ++ l) (sym v.are)

  counted : m ≡ length inner + k
  counted =
      let x = count_is s m from in
      let y = count_is s k to in
      let z = ap length parted in
      let l = length-append inner (entries_at s k to) in
      omega arith

  pub fewer : k ≤ m
  fewer = let c = counted in omega arith

  pub part_of : (n at : ℕ) → Standing s n at → Sought s (d ++ (47 ∷ [])) n at m from → PartOf s (entries_at s n at) d from to (m - k)
  part_of n at w u =
      let c = counted in
      let t : Table = entries_at s n at in
      let h : inner ≡ only (below d) t = ap (up_to (d ++ (48 ∷ []))) u.are ∙ sym (only_below d t (ascends_is [] t w.up).1) in
      front_part s m from u.stand inner (entries_at s k to) parted (m - k) (omega arith) to v.there t d h

  -- from the first entry on, of the table
  pub part_of_table : (r : Record) (q : Place) → q ≡ record { at = 0; left = r.count } → Standing s q.left q.at
      → Sought s (d ++ (47 ∷ [])) q.left q.at m from → PartOf s (table_in s r) d from to (m - k)
  part_of_table r q e w u =
      let h = part_of q.left q.at w u in
      let f : entries_at s q.left q.at ≡ table_in s r = ap (λ (p : Place). entries_at s p.left p.at) e in
      rw f at h
